-- Where the next byte of a put goes, what it leaves of the other sectors, and the bytes behind it.
use mathlib.Core.Bool.{true}
use mathlib.Core.Logic.{◌≢◌}
use mathlib.Core.List.{List, [], ◌∷◌, ◌++◌}
use mathlib.Core.Path.{◌≡◌, sym}
use Prim.Native.Nat.{ℕ, ◌+◌, ◌≤◌, ◌<◌}
use borrow.Author.Tests.{ne_eqb, lt-ltb, le-ltb}
use Rattle.layout.specs.Image.{Disk, Geometry, write_run}
use Rattle.layout.specs.Volume.{data_sector, lowest}
use Rattle.layout.specs.File.{in_use, give}
use Rattle.layout.specs.Status.{disk_full}
use Rattle.layout.proofs.Data.{data_facts}
use Rattle.layout.proofs.Give.{added-other}
use Rattle.rules.specs.Put.{Room, room_in, adds, room_for, add_byte, put_from}

-- a byte added changes its sector alone, and in a data sector it leaves the volume table
module _ (g : Geometry) (d : Disk) (k x : ℕ) where
  pub add_other : (y : ℕ) → y ≢ k → add_byte g d k x y ≡ d y
  unfolding add_byte write_run
  add_other = added-other g d k (in_use g (d k)) (x ∷ []) (in_use g (d k) + 1)

  pub add_table : data_sector k ≡ true → add_byte g d k x 360 ≡ d 360
  add_table h = add_other 360 (λ e. (data_facts k h).table (sym e))

module _ (g : Geometry) (s : ℕ) where
  -- the last sector has room; no other has; the lowest free one is given out
  pub room-here : (d : Disk) (p : ℕ) → in_use g (d p) < g.room → room_for g d s p ≡ room_in p d []
  unfolding room_for
  room-here d p h = rw (lt-ltb (in_use g (d p)) g.room h)

  pub room-none : (d : Disk) (p k : ℕ) → g.room ≤ in_use g (d p) → k ≡ lowest (d 360) → k ≡ 0 → room_for g d s p ≡ room_in 0 d []
  unfolding room_for
  room-none d p k h e z = rw (le-ltb (in_use g (d p)) g.room h, ← e, z)

  pub room_new : (d : Disk) (p k : ℕ) → g.room ≤ in_use g (d p) → k ≡ lowest (d 360) → k ≢ 0 → room_for g d s p ≡ room_in k (give g d s p k) (k ∷ [])
  unfolding room_for
  room_new d p k h e z = rw (le-ltb (in_use g (d p)) g.room h, ← e, ne_eqb k 0 z)

  -- a byte added in the sector that has room; without one the put ends
  pub put_next : (x : ℕ) (xs : List ℕ) (d : Disk) (p n : ℕ) (r : Room) → room_for g d s p ≡ r → r.sector ≢ 0
      → put_from g (x ∷ xs) d s p n ≡ (let a = put_from g xs (add_byte g r.disk r.sector x) s r.sector (n + 1) in record { added = a.added; disk = a.disk; given = r.given ++ a.given })
  unfolding put_from
  put_next x xs d p n r e z = rw (ne_eqb (room_for g d s p).sector 0 (rw e z), put_from) (rw e)

  pub put_full : (x : ℕ) (xs : List ℕ) (d : Disk) (p n : ℕ) → (room_for g d s p).sector ≡ 0 → put_from g (x ∷ xs) d s p n ≡ adds disk_full n p d
  unfolding put_from
  put_full x xs d p n e = rw (e, put_from)
