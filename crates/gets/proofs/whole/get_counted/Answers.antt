use Rattle.gets.proofs.Counting.{behind_data, counting_again}
use Rattle.image.proofs.Places.{start-after, starts_within}
use Prim.Native.Nat.{◌+◌}
use native.Mathlib.Omega.{arith}
use mathlib.Core.Path.{sym, ◌∙◌}
use Rattle.gets.proofs.whole.get_counted.Goals as goal

pub leads_on-requires : goal.leads_on-requires
leads_on-requires c = let i = c.loop-k.invariant in (c.requires.0, c.requires.1, behind_data _ c.args.n _ c.requires.4 i.2.least (omega arith), i.1)

pub overflow_add-at : goal.overflow_add-at
overflow_add-at c =
    let least = c.loop-k.invariant.2.least in
    let top = c.requires.4.top in
    let within = starts_within _ c.requires.0.0 (c.loop-k.k + 1) (omega arith) (omega arith) in omega arith

pub loop-k-preserved : goal.loop-k-preserved
loop-k-preserved c =
    let i = c.loop-k.invariant in
    let least = i.2.least in
    let regular = c.requires.0.0 in
    let next = start-after c.args.m (c.loop-k.k + 1) (omega arith) in
    (omega arith, omega arith, counting_again i.2 (omega arith) (omega arith) (omega arith) (sym c.leads_on.ensures ∙ c.if-not-leads_on.false) _ c.get_data.ensures)
