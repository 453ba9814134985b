use mathlib.Core.Path.{◌≡◌, sym, ◌∙◌}
use Prim.Native.Nat.{◌+◌}
use native.Mathlib.Omega.{arith}
use Rattle.layout.proofs.Search.{first-end, first_stop, first_next}
use Rattle.chars.proofs.end_of.Goals as goal

pub returns-then-not_plain : goal.returns-then-not_plain
returns-then-not_plain c = (sym (c.loop-k.invariant ∙ first_stop _ _ _ (sym c.not_plain.ensures ∙ c.if-not_plain.true)), omega arith)

pub loop-k-preserved : goal.loop-k-preserved
loop-k-preserved c = c.loop-k.invariant ∙ first_next _ _ _ (omega arith) (sym c.not_plain.ensures ∙ c.if-not_plain.false)

pub returns : goal.returns
returns c = let a = c.args in let e : c.loop-k.k ≡ a.n + a.i = omega arith in (sym (c.loop-k.invariant ∙ first-end _ _ _ (omega arith) ∙ e), omega arith)
