use Rattle.layout.specs.File.{ends_line}
use Rattle.layout.proofs.Search.{first-end, first_stop, first_next}
use borrow.Author.Tests.{eq-eqb, ne_eqb}
use mathlib.Core.Path.{◌≡◌, sym, ◌∙◌}
use native.Mathlib.Omega.{arith}
use Rattle.runs.proofs.find.first_byte.Goals as goal

pub returns-then-s-i : goal.returns-then-s-i
unfolding ends_line
returns-then-s-i c = sym (c.loop-i.invariant ∙ first_stop _ _ _ (eq-eqb _ _ c.if-s-i.true))

pub loop-i-preserved : goal.loop-i-preserved
unfolding ends_line
loop-i-preserved c = c.loop-i.invariant ∙ first_next _ _ _ (omega arith) (ne_eqb _ _ c.if-s-i.false)

pub returns : goal.returns
returns c = let e : c.loop-i.i ≡ c.args.end = omega arith in sym (c.loop-i.invariant ∙ first-end _ _ _ (omega arith) ∙ e)
