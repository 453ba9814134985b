use mathlib.Core.Path.{◌≡◌}
use native.Mathlib.Omega.{arith}
use Rattle.runs.proofs.find.some_end.Goals as goal

pub returns : goal.returns
returns c = let e : c.loop-j.j ≡ 16 = omega arith in rw e at c.loop-j.invariant
