use mathlib.Core.Path.{sym, ◌∙◌}
use native.Mathlib.Omega.{arith}
use Rattle.layout.specs.Channels.{state_of}
use Rattle.words.proofs.Tables.{words-one, words_keep}
use Rattle.words.proofs.table.leave_table.Goals as goal

pub returns-then-channel-lt8 : goal.returns-then-channel-lt8
unfolding state_of
returns-then-channel-lt8 c =
    let args = c.args in
    let pre = c.requires in
    c.leave_channel.ensures ∙ sym (words-one args.words.now args.t args.channel pre.forty c.if-channel-lt8.true pre.others)

pub returns-else-channel-lt8 : goal.returns-else-channel-lt8
returns-else-channel-lt8 c =
    let args = c.args in
    let pre = c.requires in
    sym (words_keep args.words.now args.t pre.forty (λ i l. pre.others i l (λ e. omega arith)))
