use Rattle.image.proofs.Places.{starts_data}
use native.Mathlib.Omega.{arith}
use Rattle.image.proofs.bytes.start.Goals as goal

pub returns : goal.returns
returns c = starts_data _ c.requires.0 _ (omega arith) (omega arith)
