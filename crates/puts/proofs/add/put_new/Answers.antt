use Rattle.puts.proofs.Searching.{give-empty, room_data}
use Rattle.rules.proofs.Rooms.{room-none, room_new}
use Rattle.puts.proofs.Adding.{puts-start, puts_all, puts-full, puts-run}
use Rattle.puts.specs.Come.{Puts}
use Rattle.layout.specs.Image.{Disk, Geometry, geometry_of, view}
use Rattle.layout.specs.Volume.{good, lowest}
use Rattle.layout.specs.File.{give}
use Rattle.layout.proofs.Data.{Data, data_facts}
use lib.ListN.{length}
use lib.Seq.{take-length}
use native.Mathlib.Nat.{zero-add}
use native.Mathlib.Omega.{arith}
use mathlib.Core.Bool.{true}
use mathlib.Core.Logic.{◌≢◌}
use mathlib.Core.Path.{◌≡◌, sym, ap, ◌∙◌}
use Prim.Native.Nat.{ℕ}
use Rattle.puts.proofs.add.put_new.Goals as goal

-- a sector that is found is a data sector
found : (g : Geometry) (d : Disk) {k : ℕ} → good (d 360) ≡ true → k ≡ lowest (d 360) → k ≢ 0 → Data k
found g d t e n = data_facts _ (room_data g d 0 (record { most = omega arith; none = λ j h. absurd (omega arith); table = t }) _ e n)

pub returns-then-k-eq0 : goal.returns-then-k-eq0
returns-then-k-eq0 c =
    let g = geometry_of c.args.m in
    let d = view g c.args.image.now in
    let start : Puts g c.args.slot c.args.buffer.now d c.args.last 0 d c.args.last 0 = puts-start (omega arith) in
    let none = room-none g c.args.slot d c.args.last _ c.requires.4 c.lowest_free-k.ensures c.if-k-eq0.true in
    let e = puts-full start c.requires.5 (ap (λ o. o.sector) none) in
    (c.added.ensures ∙ sym e.0, sym e.1)

pub give-requires : goal.give-requires
give-requires c =
    let q = data_facts _ c.requires.2 in
    let k = found (geometry_of c.args.m) (view (geometry_of c.args.m) c.args.image.now) c.requires.3 c.lowest_free-k.ensures c.if-k-eq0.false in
    omega arith

pub add_run-requires : goal.add_run-requires
add_run-requires c =
    let g = geometry_of c.args.m in
    let d = view g c.args.image.now in
    let free = c.lowest_free-k in
    let k = found g d c.requires.3 free.ensures c.if-k-eq0.false in
    let empty = give-empty g d c.args.slot c.args.last free.result in
    (omega arith, omega arith, omega arith, rw (c.give.ensures, empty) (omega arith))

pub returns : goal.returns
returns c =
    let g = geometry_of c.args.m in
    let d = view g c.args.image.now in
    let b = c.args.buffer.now in
    let low = c.lowest_free-k in
    let k = low.result in
    let some = c.if-k-eq0.false in
    let s = c.args.slot in
    let p = c.args.last in
    let start : Puts g s b d p 0 d p 0 = puts-start (omega arith) in
    let new = room_new g s d p k c.requires.4 low.ensures some in
    let empty = give-empty g d s p k in
    let run = puts-run start k (give g d s p k) (sym (ap (λ o. o.sector) new)) (sym (ap (λ o. o.disk) new)) some (omega arith) (length b) c.requires.5 (omega arith) (omega arith) _ (c.add_run.ensures ∙ rw (c.give.ensures, take-length b)) in
    let e = puts_all run (omega arith) in
    (c.added-2.ensures ∙ rw (← zero-add (length b)) (sym e.0), sym e.1)
