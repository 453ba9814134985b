use mathlib.Core.Path.{refl, sym, ap, ◌∙◌}
use mathlib.Core.Bool.{not}
use borrow.Author.Rules.{rules}
use Rattle.layout.proofs.Check.{check_yes}
use Rattle.layout.specs.Channels.{channel}
use Rattle.capi.proofs.Laws.{get_few, get_leaves_lem}
use Rattle.capi.specs.Leaves.{GetLeaves, read_leaves}
use Rattle.words.proofs.Channels.{record_length}
use Rattle.capi.proofs.get_words.Goals as goal

pub returns-then-not-is_channel : goal.returns-then-not-is_channel
unfolding read_leaves
returns-then-not-is_channel c = rw (check_yes {A = GetLeaves} _ _ _ (ap not (sym c.is_channel.ensures ∙ c.if-not-is_channel.true))) (refl, refl, refl)

pub state_in-requires : goal.state_in-requires
state_in-requires c = record_length _ (sym c.is_channel.ensures ∙ c.if-not-is_channel.false)

pub leave_state-requires : goal.leave_state-requires
leave_state-requires c = record_length _ (sym c.is_channel.ensures ∙ c.if-not-is_channel.false)

pub pack-requires : goal.pack-requires
pack-requires c =
    get_few _ _ _ _ (sym c.is_channel.ensures ∙ c.if-not-is_channel.false) (ap channel c.state_in.ensures) _ _ c.read_as-read.ensures.0 (search rules)

pub returns : goal.returns
returns c =
    get_leaves_lem _ _ _ _ (sym c.is_channel.ensures ∙ c.if-not-is_channel.false) (ap channel c.state_in.ensures) _ _ c.read_as-read.ensures.0
    _ c.pack.ensures _ c.leave_state.ensures _ c.read_as-read.ensures.1
