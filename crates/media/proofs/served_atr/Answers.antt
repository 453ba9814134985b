use mathlib.Core.Bool.{not}
use mathlib.Core.Path.{sym, ap, ◌∙◌}
use Prim.Native.Nat.{ℕ}
use Rattle.std.specs.Prelude.{Result}
use Rattle.layout.specs.declared.density.Medium.{Medium}
use Rattle.layout.proofs.Check.{check_yes, check_no}
use Rattle.media.specs.Same.{served_by}
use Rattle.media.proofs.served_atr.Goals as goal

pub returns-then-not-agrees : goal.returns-then-not-agrees
unfolding served_by
returns-then-not-agrees c = sym (check_yes {A = Result Medium ℕ} _ _ _ (ap not (sym c.agrees.ensures ∙ c.if-not-agrees.true)))

pub returns : goal.returns
unfolding served_by
returns c = sym (check_no {A = Result Medium ℕ} _ _ _ (ap not (sym c.agrees.ensures ∙ c.if-not-agrees.false)))
