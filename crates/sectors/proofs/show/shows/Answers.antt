use Rattle.rules.specs.Showing.{shows}
use mathlib.Core.Path.{sym, ◌∙◌}
use Rattle.layout.proofs.Check.{served_as_lem, served_not}
use Rattle.layout.proofs.Header.{served_whole}
use Rattle.sectors.proofs.show.shows.Goals as goal

pub returns-in_default : goal.returns-in_default
unfolding shows
returns-in_default c = sym (served_not _ _ _ (sym c.served_as.ensures.0 ∙ c.in_default.is))

pub enters-requires : goal.enters-requires
enters-requires c = served_whole _ _ (sym c.served_as.ensures.0 ∙ c.in-Ok.is)

pub returns : goal.returns
unfolding shows
returns c = c.enters.ensures ∙ sym (served_as_lem _ _ _ (sym c.served_as.ensures.0 ∙ c.in-Ok.is))
