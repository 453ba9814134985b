use Rattle.image.proofs.Places.{slot-within, slot_new}
use Prim.Native.Nat.{◌-◌}
use native.Mathlib.Omega.{arith}
use Rattle.image.proofs.slot.slot_after.Goals as goal

pub overflow_add-result : goal.overflow_add-result
overflow_add-result c =
    let w = slot-within _ c.requires.0 (c.args.slot - 1) (omega arith) in omega arith

pub returns-then-slot-eq0 : goal.returns-then-slot-eq0
returns-then-slot-eq0 c = let e = slot_new c.args.m c.args.slot (omega arith) c.if-slot-eq0.true in omega arith

pub overflow_add-result-2 : goal.overflow_add-result-2
overflow_add-result-2 c =
    let w = slot-within _ c.requires.0 (c.args.slot - 1) (omega arith) in omega arith
