use Rattle.rules.specs.Thin.{read_lent}
use Rattle.rules.specs.Get.{GetOutcome}
use mathlib.Core.Path.{refl, sym, ◌∙◌}
use Rattle.layout.proofs.Check.{served_as_lem, served_not}
use Rattle.layout.proofs.Header.{served_whole}
use Rattle.thin.proofs.by_value.read_as.Goals as goal

pub get_as-requires : goal.get_as-requires
get_as-requires c = served_whole _ _ (sym c.served_as.ensures.0 ∙ c.in-Ok.is)

pub returns-in-Ok : goal.returns-in-Ok
unfolding read_lent
returns-in-Ok c = rw (served_as_lem {A = GetOutcome} _ _ _ (sym c.served_as.ensures.0 ∙ c.in-Ok.is)) c.get_as.ensures

pub returns-in-Err : goal.returns-in-Err
unfolding read_lent
returns-in-Err c = rw (served_not {A = GetOutcome} _ _ _ (sym c.served_as.ensures.0 ∙ c.in-Err.is)) (c.refused.ensures, refl)
