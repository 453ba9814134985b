use Rattle.std.proofs.Common.{rules, Bool, false, ◌||◌, ◌∙◌, arith}
use Rattle.std.proofs.lemmas.Iterator.{YieldsList-from_slice}
use Rattle.std.proofs.lemmas.Iterator.Consumers.{fold_from_yields_List}
use Rattle.layout.specs.declared.Channel.{Channel}
use Rattle.layout.specs.Channels.{is_open, state_of, open_at, any_open}
use Rattle.channels.proofs.Any.{any_folded, any_of}
use Rattle.channels.proofs.table.any_open.Goals as goal

pub returns : goal.returns
unfolding any_open open_at state_of
returns c =
    let l = c.args.t.channels in
    fold_from_yields_List _ (λ (b : Bool) (x : Channel). b || is_open x.state) false c.fold.result c.fold.ensures.ran (YieldsList-from_slice l cc) (λ b x r q k. search rules)
    ∙ any_folded (λ x. is_open x.state) l false ∙ any_of (λ x. is_open x.state) l 8 (omega arith)
