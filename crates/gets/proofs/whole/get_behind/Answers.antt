use Rattle.gets.proofs.Getting.{comes_start}
use Rattle.gets.proofs.Seeking.{full_data, full_entered}
use Rattle.layout.proofs.Data.{data_facts}
use native.Mathlib.Omega.{arith}
use mathlib.Core.Path.{sym, ◌∙◌}
use Rattle.gets.proofs.whole.get_behind.Goals as goal

pub next-requires : goal.next-requires
next-requires c = let f = data_facts _ (full_data _ _ _ _ c.requires.2) in omega arith

pub overflow_add-w : goal.overflow_add-w
overflow_add-w c = let f = data_facts _ (full_data _ _ _ _ c.requires.2) in omega arith

pub returns-then-next-w : goal.returns-then-next-w
returns-then-next-w c = let p = c.requires in ((data_facts _ (full_data _ _ _ _ p.2)).pos, comes_start _ _ _ p.3 (full_entered _ _ _ _ p.2))

pub ahead-requires : goal.ahead-requires
ahead-requires c = full_data _ _ _ _ c.requires.2

pub get_consecutive-requires : goal.get_consecutive-requires
get_consecutive-requires c =
    let p = c.requires in
    let most = c.ahead.ensures in
    (p.0, p.1, (data_facts _ (full_data _ _ _ _ p.2)).pos, most.0, most.1, p.3, record { entered = full_entered _ _ _ _ p.2; leads = sym c.next.ensures ∙ c.if-next-w.false })
