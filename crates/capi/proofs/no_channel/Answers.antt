use Rattle.capi.specs.Leaves.{no_channel}
use Rattle.layout.proofs.Check.{served_as_lem, served_not}
use mathlib.Core.Path.{sym, ◌∙◌}
use Rattle.capi.proofs.no_channel.Goals as goal

pub returns-in-Ok : goal.returns-in-Ok
unfolding no_channel
returns-in-Ok c = c.pack.ensures ∙ sym (served_as_lem _ _ _ (sym c.served_as.ensures.0 ∙ c.in-Ok.is))

pub returns-in-Err : goal.returns-in-Err
unfolding no_channel
returns-in-Err c = c.pack-in-Err.ensures ∙ sym (served_not _ _ _ (sym c.served_as.ensures.0 ∙ c.in-Err.is))
