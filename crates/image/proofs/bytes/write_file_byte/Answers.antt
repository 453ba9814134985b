use Rattle.layout.proofs.Image.{lawful, view_set}
use native.Mathlib.Omega.{arith}
use Rattle.image.proofs.bytes.write_file_byte.Goals as goal

pub bounds-image-start : goal.bounds-image-start
bounds-image-start c = let l = (lawful _ c.requires.0.0).whole c.args.sector (omega arith) in omega arith

pub returns : goal.returns
returns c = let l = (lawful _ c.requires.0.0).whole c.args.sector (omega arith) in rw c.start.ensures.0 (view_set _ (lawful _ c.requires.0.0) _ _ _ _ (omega arith) (omega arith))
