-- Bytes added behind bytes: the first of two lists, then the second where all of the first found room.
use mathlib.Core.Bool.{true}
use mathlib.Core.List.{List, [], ◌∷◌, ◌++◌}
use mathlib.Core.Logic.{◌≢◌}
use mathlib.Core.Path.{◌≡◌, refl, sym, ap, ◌∙◌}
use Prim.Native.Nat.{ℕ, ◌+◌, ◌≤◌, ◌<◌}
use native.Mathlib.Decide.{ℕ_discrete, dec_lt}
use native.Mathlib.Nat.{add-zero}
use native.Mathlib.Omega.{arith}
use lib.ListN.{length}
use Rattle.layout.specs.Image.{Disk, Geometry}
use Rattle.layout.specs.Volume.{data_sector, good, lowest}
use Rattle.layout.specs.File.{in_use}
use Rattle.layout.specs.Status.{success, disk_full}
use Rattle.rules.specs.Put.{Adds, adds, room_for, add_byte, put_from}
use Rattle.rules.proofs.Rooms.{add_table, room-here, room-none, room_new, put_next, put_full}
use Rattle.puts.specs.Come.{Same}
use Rattle.puts.specs.Searched.{Searched}
use Rattle.puts.proofs.Searching.{room_data, searched_give}

-- a put of the bytes xs that ended in a: how many were kept, and what a put of more bytes goes on with
pub record Behind (g : Geometry) (s : ℕ) (xs : List ℕ) (d : Disk) (p n : ℕ) (a : Adds) : Type 0 where
  pub least : n ≤ a.added.count
  pub most : a.added.count ≤ n + length xs
  pub all : a.added.status ≡ success → a.added.count ≡ n + length xs
  pub more : (ys : List ℕ) → a.added.status ≡ success → Same (put_from g (xs ++ ys) d s p n) (put_from g ys a.disk s a.added.last a.added.count)
  pub full : (ys : List ℕ) → a.added.status ≢ success → Same (put_from g (xs ++ ys) d s p n) a

-- the volume table is good, and the last sector a data sector
pub record Sane (d : Disk) (p : ℕ) : Type 0 where
  pub table : good (d 360) ≡ true
  pub last : data_sector p ≡ true

module _ (g : Geometry) (s : ℕ) where
  -- a byte that found room
  put_past : (x : ℕ) (xs : List ℕ) (d : Disk) (p n : ℕ) → let r = room_for g d s p in r.sector ≢ 0 → Same (put_from g (x ∷ xs) d s p n) (put_from g xs (add_byte g r.disk r.sector x) s r.sector (n + 1))
  put_past x xs d p n z = let e = put_next g s x xs d p n (room_for g d s p) refl z in (ap (λ o. o.added) e, ap (λ o. o.disk) e)

  -- and is the only one
  pub put_one : (x : ℕ) (d : Disk) (p n k : ℕ) (e : Disk) → k ≡ (room_for g d s p).sector → e ≡ (room_for g d s p).disk → k ≢ 0 → Same (put_from g (x ∷ []) d s p n) (adds success (n + 1) k (add_byte g e k x))
  unfolding put_from
  put_one x d p n k e a b z = rw (a, b) (put_past x [] d p n (rw (← a) z))

  -- no bytes; a byte that found no room; one that found room, and the others
  behind-none : (d : Disk) (p n : ℕ) → Behind g s [] d p n (put_from g [] d s p n)
  unfolding put_from
  behind-none d p n = record { least = omega arith; most = omega arith; all = λ e. sym (add-zero n); more = λ ys e. (refl, refl); full = λ ys z. absurd (z refl) }

  behind-full : (x : ℕ) (xs : List ℕ) (d : Disk) (p n : ℕ) → (room_for g d s p).sector ≡ 0 → Behind g s (x ∷ xs) d p n (adds disk_full n p d)
  behind-full x xs d p n z =
      record {
        least = omega arith;
        most = omega arith;
        all = λ e. absurd (omega arith);
        more = λ ys e. absurd (omega arith);
        full = λ ys _. let q = put_full g s x (xs ++ ys) d p n z in (ap (λ o. o.added) q, ap (λ o. o.disk) q);
      }

  behind-next : (x : ℕ) (xs : List ℕ) (d : Disk) (p n : ℕ) → (room_for g d s p).sector ≢ 0
      → ((d : Disk) (p n : ℕ) → Behind g s xs d p n (put_from g xs d s p n)) → Behind g s (x ∷ xs) d p n (put_from g (x ∷ xs) d s p n)
  behind-next x xs d p n z f =
      let r = room_for g d s p in
      let (added, disk) = put_past x xs d p n z in
      let rest = f (add_byte g r.disk r.sector x) r.sector (n + 1) in
      let least = rest.least in
      let most = rest.most in
      record {
        least = rw added (omega arith);
        most = rw added (omega arith);
        all = λ e. let q = rest.all (rw added at e) in rw added (omega arith);
        more = λ ys e. let q = put_past x (xs ++ ys) d p n z in let m = rest.more ys (rw added at e) in rw (added, disk) (q.0 ∙ m.0, q.1 ∙ m.1);
        full = λ ys e. let q = put_past x (xs ++ ys) d p n z in let m = rest.full ys (rw added at e) in rw (added, disk) (q.0 ∙ m.0, q.1 ∙ m.1);
      }

  pub behind : (xs : List ℕ) (d : Disk) (p n : ℕ) → Behind g s xs d p n (put_from g xs d s p n)
  behind [] d p n = behind-none d p n
  behind (x ∷ xs) d p n = go (ℕ_discrete (room_for g d s p).sector 0) (behind xs)
    where
      go : Dec ((room_for g d s p).sector ≡ 0) → ((d : Disk) (p n : ℕ) → Behind g s xs d p n (put_from g xs d s p n)) → Behind g s (x ∷ xs) d p n (put_from g (x ∷ xs) d s p n)
      go (yes z) f = rw (put_full g s x xs d p n z) (behind-full x xs d p n z)
      go (no z) f = behind-next x xs d p n z f

  -- what a put may go on from stays so
  room_sane : (d : Disk) (p : ℕ) → Sane d p → (room_for g d s p).sector ≢ 0 → Sane (room_for g d s p).disk (room_for g d s p).sector
  room_sane d p t z = go (dec_lt (in_use g (d p)) g.room) (ℕ_discrete (lowest (d 360)) 0)
    where
      go : Dec (in_use g (d p) < g.room) → Dec (lowest (d 360) ≡ 0) → Sane (room_for g d s p).disk (room_for g d s p).sector
      go (yes h) f = rw (room-here g s d p h) t
      go (no h) (yes f) = absurd (z (ap (λ r. r.sector) (room-none g s d p (lowest (d 360)) (omega arith) refl f)))
      go (no h) (no f) =
          let e = room_new g s d p (lowest (d 360)) (omega arith) refl f in
          let known : Searched (d 360) 0 = record { most = omega arith; none = λ j q. absurd (omega arith); table = t.table } in
          rw e (record { table = (searched_give g d 0 known (lowest (d 360)) refl f s p t.last).table; last = room_data g d 0 known (lowest (d 360)) refl f })

  add_sane : (d : Disk) (k x : ℕ) → Sane d k → Sane (add_byte g d k x) k
  add_sane d k x t = record { table = rw (add_table g d k x t.last) t.table; last = t.last }

  pub put_sane : (xs : List ℕ) (d : Disk) (p n : ℕ) → Sane d p → let a = put_from g xs d s p n in Sane a.disk a.added.last
  unfolding put_from
  put_sane [] d p n t = t
  put_sane (x ∷ xs) d p n t = go (ℕ_discrete (room_for g d s p).sector 0) (put_sane xs)
    where
      go : Dec ((room_for g d s p).sector ≡ 0) → ((d : Disk) (p n : ℕ) → Sane d p → let a = put_from g xs d s p n in Sane a.disk a.added.last) → let a = put_from g (x ∷ xs) d s p n in Sane a.disk a.added.last
      go (yes z) f = rw (put_full g s x xs d p n z) t
      go (no z) f =
          let e = put_past x xs d p n z in
          let r = room_for g d s p in
          rw (e.0, e.1) (f (add_byte g r.disk r.sector x) r.sector (n + 1) (add_sane r.disk r.sector x (room_sane d p t z)))
