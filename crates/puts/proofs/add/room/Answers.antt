use Rattle.layout.specs.Image.{geometry_of, view}
use Rattle.puts.proofs.Searching.{room_data, room_given, searched_give}
use Rattle.rules.proofs.Rooms.{room-here, room-none, room_new}
use Rattle.layout.proofs.Data.{data_facts}
use native.Mathlib.Omega.{arith}
use mathlib.Core.Path.{refl, sym, ap, ◌∙◌}
use Rattle.puts.proofs.add.room.Goals as goal

pub returns-then-in_use-m : goal.returns-then-in_use-m
returns-then-in_use-m c =
    let e = room-here (geometry_of c.args.m) c.args.slot (view (geometry_of c.args.m) c.args.image.now) c.args.w.sector (omega arith) in
    (sym (ap (λ o. o.disk) e), (sym (ap (λ o. o.sector) e), refl, record { kind = c.requires.2; room = omega arith }, c.requires.3))

pub returns-then-k-eq0 : goal.returns-then-k-eq0
returns-then-k-eq0 c =
    let e = room-none (geometry_of c.args.m) c.args.slot (view (geometry_of c.args.m) c.args.image.now) c.args.w.sector _ (omega arith) c.lowest_from-k.ensures c.if-k-eq0.true in
    (sym (ap (λ o. o.disk) e), ap (λ o. o.sector) e)

pub give-requires : goal.give-requires
give-requires c =
    let q = data_facts _ c.requires.2 in
    let k = data_facts _ (room_data (geometry_of c.args.m) (view (geometry_of c.args.m) c.args.image.now) c.args.w.from c.requires.3 _ c.lowest_from-k.ensures c.if-k-eq0.false) in
    omega arith

pub overflow_add-result : goal.overflow_add-result
overflow_add-result c =
    let k = data_facts _ (room_data (geometry_of c.args.m) (view (geometry_of c.args.m) c.args.image.now) c.args.w.from c.requires.3 _ c.lowest_from-k.ensures c.if-k-eq0.false) in
    omega arith

pub returns : goal.returns
returns c =
    let g = geometry_of c.args.m in
    let d = view g c.args.image.now in
    let from = c.args.w.from in
    let low = c.lowest_from-k.ensures in
    let some = c.if-k-eq0.false in
    let e = room_new g c.args.slot d c.args.w.sector _ (omega arith) low some in
    (c.give.ensures ∙ sym (ap (λ o. o.disk) e), (sym (ap (λ o. o.sector) e), refl, rw c.give.ensures (room_given g d from c.requires.3 _ low some _ _ (omega arith)), rw c.give.ensures (searched_give g d from c.requires.3 _ low some _ _ c.requires.2)))
