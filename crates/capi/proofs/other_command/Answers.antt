use Rattle.capi.proofs.Laws.{image-ends, command_changes, command-few, command-leaves}
use mathlib.Core.List.{[]}
use Rattle.layout.proofs.Header.{served_whole}
use mathlib.Core.Path.{sym, ◌∙◌}
use Rattle.words.proofs.Tables.{table_length}
use borrow.Author.Rules.{rules}
use Rattle.capi.proofs.other_command.Goals as goal

pub table_of-requires : goal.table_of-requires
table_of-requires c = table_length _ c.requires.0

pub others-a-requires : goal.others-a-requires
others-a-requires c =
    let pre = c.requires in
    (served_whole _ _ (sym c.served_as.ensures.0 ∙ c.in-Ok.is), pre.1, pre.3, pre.4)

pub leave_table-requires : goal.leave_table-requires
leave_table-requires c =
    let pre = c.requires in
    command_changes _ _ _ _ _ _ [] _ pre.0 c.table_of.ensures (record { small = pre.1; command = pre.2 }) _ (c.others-a.ensures []).0 pre.3 pre.4

pub pack-requires : goal.pack-requires
pack-requires c =
    let pre = c.requires in
    command-few _ _ _ _ _ _ [] _ pre.0 c.table_of.ensures (record { small = pre.1; command = pre.2 }) _ (c.others-a.ensures []).0 pre.3 pre.4

pub returns-in-Ok : goal.returns-in-Ok
returns-in-Ok c b =
    let pre = c.requires in
    let told = c.others-a.ensures b in
    let served = sym c.served_as.ensures.0 ∙ c.in-Ok.is in
    command-leaves _ _ _ _ _ _ b _ pre.0 c.table_of.ensures (record { small = pre.1; command = pre.2 }) _ told.0 served
    _ c.pack.ensures _ (search rules) told.1 _ c.leave_table.ensures told.2

pub returns-in-Err : goal.returns-in-Err
returns-in-Err c b = image-ends _ _ _ _ b c.requires.0 _ (sym c.served_as.ensures.0 ∙ c.in-Err.is) _ c.pack-in-Err.ensures
