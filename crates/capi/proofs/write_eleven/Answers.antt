use native.Mathlib.Omega.{arith}
use Rattle.capi.proofs.Filling.{filled_all}
use Rattle.capi.proofs.write_eleven.Goals as goal

pub returns : goal.returns
returns c = filled_all _ _ 11 (omega arith) (λ i h. c.loop-j.invariant i (omega arith))
