-- What a put leaves on any disk: how many bytes it counts, and which sectors it changes.
use mathlib.Core.Bool.{Bool, true, false}
use mathlib.Core.List.{List, [], ◌∷◌}
use mathlib.Core.Logic.{◌≢◌, ◌⊎◌, inl, inr}
use mathlib.Core.Path.{◌≡◌, refl, sym, ap, ◌∙◌}
use Prim.Native.Nat.{ℕ, ◌+◌, ◌/◌, ◌≤◌}
use native.Mathlib.Omega.{arith}
use lib.Dec.{eqb, ltb}
use lib.ListN.{length}
use borrow.Author.Tests.{eqb-false}
use Rattle.layout.specs.declared.State.{State}
use Rattle.layout.specs.declared.State.TheVariants.{Writing}
use Rattle.layout.specs.Basics.{if, member}
use Rattle.layout.specs.Image.{Disk, Geometry}
use Rattle.layout.specs.Volume.{lowest}
use Rattle.layout.specs.File.{in_use, give}
use Rattle.layout.proofs.Members.{member-left, member_right, member_not}
use Rattle.layout.proofs.Give.{give-other}
use Rattle.rules.specs.Put.{Adds, Room, room_in, room_for, add_byte, put_from, PutOutcome, put_keeps, puts}
use Rattle.rules.specs.Demand1.{OnlyEnd}
use Rattle.rules.proofs.Acts.{PutEnds, put_refuses, put_none, put_some}
use Rattle.rules.proofs.Rooms.{add_other}
use Rattle.theory.proofs.Sectors.{add_used}

-- sector k is none of those that a put to slot s writes before it gives out another: the volume table, the slot's sector of the directory, the file's last sector p
pub record Beside (s p k : ℕ) : Type 0 where
  pub volume : k ≢ 360
  pub slots : k ≢ 361 + s / 8
  pub last : k ≢ p

module _ (g : Geometry) (s : ℕ) where
  -- the room for a byte: a sector that is not beside, on a disk that is the same beside
  room_beside : (d : Disk) (p k : ℕ) → Beside s p k → (r : Room) → room_for g d s p ≡ r → member k r.given ≡ false → r.sector ≢ 0 → Beside s r.sector k × (r.disk k ≡ d k)
  unfolding room_for
  room_beside d p k b r e m n = go (ltb (in_use g (d p)) g.room) (eqb (lowest (d 360)) 0) r e m n
    where
      go : (c z : Bool) (r : Room) → if c (room_in p d []) (if z (room_in 0 d []) (room_in (lowest (d 360)) (give g d s p (lowest (d 360))) (lowest (d 360) ∷ []))) ≡ r → member k r.given ≡ false → r.sector ≢ 0 → Beside s r.sector k × (r.disk k ≡ d k)
      go true z r e m n = rw (← e) (b, refl)
      go false true r e m n = absurd (n (ap (λ (q : Room). q.sector) (sym e)))
      go false false r e m n =
          let x = lowest (d 360) in
          let h : k ≢ x = (member_not k x [] (rw (← e) at m)).0 in
          rw (← e) (record { volume = b.volume; slots = b.slots; last = h }, give-other s k b.slots g d p x b.volume b.last h)

  -- bytes added behind the n counted before: at least these are counted, and at most those lent more; where no more are, nothing changed; only sectors that are not beside change; and the last sector is not empty where more are, or where it was not before
  record Adding (xs : List ℕ) (d : Disk) (p n : ℕ) (o : Adds) : Type 0 where
    least : n ≤ o.added.count
    most : o.added.count ≤ n + length xs
    idle : o.added.count ≡ n → o.disk ≡ d
    beside : (k : ℕ) → Beside s p k → member k o.given ≡ false → o.disk k ≡ d k
    used : (in_use g (d p) ≢ 0) ⊎ (o.added.count ≢ n) → in_use g (o.disk o.added.last) ≢ 0

  -- nothing added
  unused : (d : Disk) (p n : ℕ) → (in_use g (d p) ≢ 0) ⊎ (n ≢ n) → in_use g (d p) ≢ 0
  unused d p n (inl u) = u
  unused d p n (inr u) = absurd (u refl)

  adding : (xs : List ℕ) (d : Disk) (p n : ℕ) → Adding xs d p n (put_from g xs d s p n)
  unfolding put_from
  adding [] d p n = record { least = omega arith; most = omega arith; idle = λ _. refl; beside = λ k _ _. refl; used = unused d p n }
  adding (x ∷ xs) d p n = go (eqb (room_for g d s p).sector 0) refl (adding xs)
    where
      go : (c : Bool) → eqb (room_for g d s p).sector 0 ≡ c → ((d : Disk) (p n : ℕ) → Adding xs d p n (put_from g xs d s p n)) → Adding (x ∷ xs) d p n (put_from g (x ∷ xs) d s p n)
      go true e f = rw (e, put_from) (record { least = omega arith; most = omega arith; idle = λ _. refl; beside = λ k _ _. refl; used = unused d p n })
      go false e f =
          let r = room_for g d s p in
          let o = f (add_byte g r.disk r.sector x) r.sector (n + 1) in
          let l = o.least in
          let m = o.most in
          rw (e, put_from) (record {
            least = omega arith;
            most = omega arith;
            idle = λ q. absurd (omega arith);
            beside = λ k b h.
                let (u, v) = room_beside d p k b r refl (member-left k r.given _ h) (eqb-false r.sector 0 e) in
                o.beside k u (member_right k r.given _ h) ∙ add_other g r.disk r.sector x k u.last ∙ v;
            used = λ _. o.used (inl (λ q. let u = add_used g r.disk r.sector x in omega arith));
          })

-- what a put of some bytes leaves in the last sector
pub put_used : (g : Geometry) (b : List ℕ) (d : Disk) (s p : ℕ) → let o = put_from g b d s p 0 in (in_use g (d p) ≢ 0) ⊎ (o.added.count ≢ 0) → in_use g (o.disk o.added.last) ≢ 0
put_used g b d s p = (adding g s b d p 0).used

-- a put on one channel counts at most the bytes lent; where it counts none nothing changed; and it changes the file's end alone
pub record Leaves (st : State) (d : Disk) (b : List ℕ) (o : PutOutcome) : Type 0 where
  pub few : o.answer.count ≤ length b
  pub idle : o.answer.count ≡ 0 → o.disk ≡ d
  pub end : OnlyEnd st d o.disk o.given

module _ (g : Geometry) (d : Disk) where
  -- one that adds no bytes, and one that adds some
  none : (n : ℕ) (st : State) (b : List ℕ) → Leaves st d b (put_keeps n d st)
  none n st b = record { few = omega arith; idle = λ _. refl; end = λ s p _ k _ _ _ _. refl }

  pub adds_leave : (s p : ℕ) (b : List ℕ) → Leaves (Writing s p) d b (puts s (put_from g b d s p 0))
  unfolding puts
  adds_leave s p b =
      let o = adding g s b d p 0 in
      let m = o.most in
      record { few = omega arith; idle = o.idle; end = λ x q e k v u l. let (h, i) : (s ≡ x) × (p ≡ q) = (cc, cc) in o.beside k (record { volume = v; slots = rw h u; last = rw i l }) }

  pub put_leaves_lem : {protected : Bool} {st : State} {b : List ℕ} {o : PutOutcome} → PutEnds g d protected b st o → Leaves st d b o
  put_leaves_lem {b = b} (put_refuses st n w m) = none n st b
  put_leaves_lem {b = b} (put_none s p q) = none _ (Writing s p) b
  put_leaves_lem {b = b} (put_some s p u n q r) = adds_leave s p b
