use Rattle.std.proofs.Common.{rules, ◌∙◌, arith}
use borrow.Author.Tests.{tests}
use Rattle.std.proofs.lemmas.Iterator.{YieldsList-from_slice}
use Rattle.std.proofs.lemmas.Iterator.Search.{any_from_yields_List}
use Rattle.layout.specs.Channels.{holds, state_of, holds_at, held_by_channel}
use Rattle.channels.proofs.Any.{any_of}
use Rattle.channels.proofs.table.held_by_channel.Goals as goal

pub returns : goal.returns
unfolding held_by_channel holds_at state_of
returns c =
    let l = c.args.t.channels in
    any_from_yields_List (λ x. holds x.state c.args.s) _ _ c.any.result c.any.ensures.ran (YieldsList-from_slice l cc) (λ x b q k. search (rules, tests)) ∙ any_of (λ x. holds x.state c.args.s) l 8 (omega arith)
