use mathlib.Core.Path.{sym, ap, ◌∙◌}
use Rattle.words.proofs.Channels.{record_length}
use Rattle.capi.proofs.Protected.{stays, not_record, not_served_lem, served-closed}
use Rattle.capi.proofs.put_protected.Goals as goal

pub returns-then-not-is_channel : goal.returns-then-not-is_channel
returns-then-not-is_channel c f b = not_record _ _ f b (sym c.is_channel.ensures ∙ c.if-not-is_channel.true)

pub state_in-requires : goal.state_in-requires
state_in-requires c = record_length _ (sym c.is_channel.ensures ∙ c.if-not-is_channel.false)

pub returns-in-Ok : goal.returns-in-Ok
returns-in-Ok c f b =
    served-closed _ _ f b (sym c.is_channel.ensures ∙ c.if-not-is_channel.false) (sym c.served_as.ensures.0 ∙ c.in-Ok.is) c.state_in.ensures c.protected_status.ensures ∙ ap (stays _ _ f b) (sym c.pack.ensures)

pub returns-in-Err : goal.returns-in-Err
returns-in-Err c f b =
    not_served_lem _ _ f b (sym c.is_channel.ensures ∙ c.if-not-is_channel.false) _ (sym c.served_as.ensures.0 ∙ c.in-Err.is) ∙ ap (stays _ _ f b) (sym c.pack-in-Err.ensures)
