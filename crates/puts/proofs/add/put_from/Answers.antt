use Rattle.puts.proofs.Searching.{searched_add}
use Rattle.puts.proofs.Adding.{puts-on, puts_all, puts-full, puts-run, room_zero}
use Rattle.layout.proofs.Data.{data_facts}
use lib.ListN.{length-take, length-drop}
use native.Mathlib.Omega.{arith}
use native.Mathlib.Nat.{add-sub_cancel_left}
use mathlib.Core.Path.{sym, ◌∙◌}
use Rattle.puts.proofs.add.put_from.Goals as goal

pub returns-in_default : goal.returns-in_default
returns-in_default c =
    let none = c.in_default.ensures in
    let inv = c.loop-w.invariant in
    let e = puts-full inv.3 c.loop-w-test.true none.1 in
    let q = data_facts _ inv.1 in
    (c.added.ensures ∙ sym e.0, none.0 ∙ room_zero _ _ _ _ (omega arith) none.1 ∙ sym e.1)

pub in_use-n-requires : goal.in_use-n-requires
in_use-n-requires c = let f = data_facts _ c.in-Some.ensures.1.2.kind in omega arith

pub add_run-requires : goal.add_run-requires
add_run-requires c =
    let has = c.in-Some.ensures.1.2 in
    let f = data_facts _ has.kind in
    (omega arith, omega arith, omega arith, simp (length-take, length-drop) (omega arith))

pub put_whole-w-requires : goal.put_whole-w-requires
put_whole-w-requires c =
    let some = c.in-Some.ensures.1 in
    (omega arith, c.requires.1, some.2.kind, omega arith, rw c.add_run.ensures (searched_add _ _ _ some.3 _ _ some.2.kind))

pub loop-w-preserved : goal.loop-w-preserved
loop-w-preserved c =
    let some = c.in-Some.ensures in
    let f = data_facts _ some.1.2.kind in
    let room = some.1.2.room in
    let inv = c.loop-w.invariant in
    let run = puts-run inv.3 _ _ some.1.0 some.0 (λ z. omega arith) room c.min.result (omega arith) (omega arith) (omega arith) _ (c.add_run.ensures ∙ rw add-sub_cancel_left) in
    let whole = c.put_whole-w.ensures in
    (omega arith, whole.0, whole.1, puts-on run whole.2)

pub returns : goal.returns
returns c = let e = puts_all c.loop-w.invariant.3 c.loop-w-test.false in (c.added-2.ensures ∙ sym e.0, sym e.1)
