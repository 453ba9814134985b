use Rattle.gets.proofs.Getting.{comes_on, gets-full}
use Rattle.gets.proofs.Seeking.{full_data}
use Rattle.layout.proofs.Data.{data_facts}
use native.Mathlib.Omega.{arith}
use mathlib.Core.Path.{sym, ◌∙◌}
use Rattle.gets.proofs.whole.get_whole.Goals as goal

pub start-requires : goal.start-requires
start-requires c = let f = data_facts _ (full_data _ _ _ _ (sym c.is_full.ensures ∙ c.if-not-is_full.false)) in omega arith

pub get_data-requires : goal.get_data-requires
get_data-requires c =
    let f = data_facts _ (full_data _ _ _ _ (sym c.is_full.ensures ∙ c.if-not-is_full.false)) in
    (c.requires.0, f.pos, omega arith, c.start.ensures.0, omega arith)

pub loop-r-preserved : goal.loop-r-preserved
loop-r-preserved c =
    let fills = c.loop-r.invariant.1 in
    let behind = c.get_behind-r.ensures in
    let one = gets-full (omega arith) fills.1 fills.0 (omega arith) (omega arith) _ c.next-n.ensures (sym c.is_full.ensures ∙ c.if-not-is_full.false) _ c.get_data.ensures in
    (omega arith, (behind.0, comes_on one (omega arith) behind.1))
