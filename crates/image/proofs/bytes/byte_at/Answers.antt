use Prim.Native.Nat.{◌+◌}
use lib.ListN.{get_or}
use mathlib.Core.Path.{ap, sym, ◌∙◌}
use Rattle.layout.proofs.Image.{lawful, view_byte}
use Rattle.image.proofs.Places.{starts_within}
use native.Mathlib.Omega.{arith}
use Rattle.image.proofs.bytes.byte_at.Goals as goal

pub overflow_add-result : goal.overflow_add-result
overflow_add-result c = let w = starts_within _ c.requires.0.0 c.args.sector (omega arith) (omega arith) in omega arith

pub bounds-image-at : goal.bounds-image-at
bounds-image-at c =
    let w = starts_within _ c.requires.0.0 c.args.sector (omega arith) (omega arith) in omega arith

pub returns : goal.returns
returns c =
    let l = (lawful _ c.requires.0.0).whole c.args.sector (omega arith) in
    ap (λ i. get_or c.args.image.now (i + c.args.place) 0) c.requires.3 ∙ sym (view_byte _ _ _ _ (omega arith))
