use mathlib.Core.Path.{ap, ◌∙◌}
use Rattle.layout.specs.Channels.{channel}
use Rattle.words.specs.Words.{state_in}
use Rattle.words.proofs.Tables.{record-at_place}
use Rattle.words.proofs.table.channel_at.Goals as goal

pub returns : goal.returns
returns c = ap channel (c.state_in.ensures ∙ ap state_in (record-at_place _ _ _ _ c.place_of.ensures))
