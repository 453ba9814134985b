use Rattle.runs.proofs.Ends.{first-behind}
use mathlib.Core.Path.{sym, ◌∙◌}
use native.Mathlib.Omega.{arith}
use Rattle.runs.proofs.find.skip.Goals as goal

pub loop-i-preserved : goal.loop-i-preserved
loop-i-preserved c = (omega arith, omega arith, c.loop-i.invariant.2 ∙ first-behind _ _ _ (omega arith) (sym c.some_end.ensures ∙ c.if-some_end.false))
