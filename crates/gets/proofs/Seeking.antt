-- The search for the next byte: one step of it, and what it finds.
use mathlib.Core.Bool.{true, false, not, ◌&&◌, ◌||◌}
use mathlib.Core.Logic.{◌≢◌}
use mathlib.Core.Path.{◌≡◌, sym, ap, subst}
use Prim.Native.Nat.{ℕ, suc, zero, ◌+◌, ◌-◌, ◌≤◌, ◌<◌}
use native.Mathlib.Decide.{ℕ_discrete}
use native.Mathlib.Omega.{arith}
use lib.Dec.{eqb, leb, ltb}
use borrow.Author.Tests.{eqb-true, ne_eqb, eqb-false, lt-ltb, le-ltb, leb-true, ltb-true, not-true}
use Rattle.layout.specs.Image.{Disk, Geometry}
use Rattle.layout.specs.Volume.{data_sector}
use Rattle.layout.specs.File.{next, in_use, fits}
use Rattle.layout.proofs.Logic.{and_left, and_right}
use Rattle.layout.proofs.Data.{data_facts}
use Rattle.layout.proofs.Chain.{fits_data, fits_used}
use Rattle.rules.specs.declared.Place.{Place}
use Rattle.rules.specs.declared.Seek.{Seek}
use Rattle.rules.specs.declared.Seek.TheVariants.{Ready, Broken}
use Rattle.rules.specs.Get.{place, seek_status, seek_place, TellsSeek, next_to_enter, has_byte, ends, seek, readable}
use Rattle.rules.proofs.Steps.{seek-ready}
use Rattle.gets.specs.Entered.{Entered, ByteLeft, Sought, at_hand, full}

-- an answer that is the enum of the rules has its number and its values
pub tells_seek : {x r : Seek} → r ≡ x → TellsSeek x r
tells_seek e = (e, ap seek_status e, ap seek_place e)

-- where the search found a byte, it is left
pub sought-left : {g : Geometry} {d : Disk} {q : Seek} {p : Place} → q ≡ Ready p → Sought g d q → ByteLeft g d p
sought-left {g} {d} e h = subst (λ q. Sought g d q) e h

module _ (g : Geometry) (d : Disk) where
  -- a sector that fits may be entered
  pub fits_entered : (s k : ℕ) → fits g (d k) s k ≡ true → Entered g d k
  fits_entered s k e = let q = data_facts k (fits_data g (d k) s k e) in record { most = omega arith; least = λ _. omega arith; small = λ _. fits_used g (d k) s k e }

  -- a get may go on from a place that is readable
  pub readable_entered : (s k o : ℕ) → readable g d s k o ≡ true → (s < 64) × Entered g d k
  unfolding readable
  readable_entered s k o e = (ltb-true s 64 (and_left (ltb s 64) _ e), go (ℕ_discrete k 0) (and_right (ltb s 64) _ e))
    where
      go : Dec (k ≡ 0) → (eqb k 0 || fits g (d k) s k && leb o (in_use g (d k))) ≡ true → Entered g d k
      go (yes z) f = record { most = omega arith; least = λ n. absurd (omega arith); small = λ n. absurd (omega arith) }
      go (no z) f = fits_entered s k (and_left (fits g (d k) s k) _ (rw (ne_eqb k 0 z) at f))

  pub has_byte_lem : (k o : ℕ) → 1 ≤ k → o < in_use g (d k) → has_byte g d k o ≡ true
  unfolding has_byte
  has_byte_lem k o a b = rw (ne_eqb k 0 (λ e. omega arith), lt-ltb o (in_use g (d k)) b)

  pub at_hand_lem : (k o n : ℕ) → at_hand g d k o n ≡ true → (1 ≤ k) × (o + n ≤ in_use g (d k))
  unfolding at_hand
  at_hand_lem k o n e =
      let z = eqb-false k 0 (not-true (eqb k 0) (and_left (not (eqb k 0)) _ e)) in
      (omega (arith, z), leb-true (o + n) (in_use g (d k)) (and_right (not (eqb k 0)) _ e))

  pub hand_facts : (k o n : ℕ) → Entered g d k → at_hand g d k o n ≡ true → (4 ≤ k) × (o + n ≤ g.room)
  hand_facts k o n t e = let h = at_hand_lem k o n e in let small = t.small h.0 in (t.least h.0, omega arith)

  pub byte_left : (k o l : ℕ) → Entered g d k → has_byte g d k o ≡ true → ByteLeft g d (place k o l)
  unfolding has_byte
  byte_left k o l t e =
      let n = eqb-false k 0 (not-true (eqb k 0) (and_left (not (eqb k 0)) _ e)) in
      let low : 1 ≤ k = omega (arith, n) in
      record { low = t.least low; high = t.most; within = ltb-true o (in_use g (d k)) (and_right (not (eqb k 0)) _ e); small = t.small low }

  -- no sector is left to enter; the next does not fit; or it is entered
  module _ (s k o : ℕ) where
    pub seek_out : (l : ℕ) → has_byte g d k o ≡ false → ends g d k ≡ false → l ≡ 0 → seek g d s k o l ≡ Broken (place k o l)
    unfolding seek
    seek_out l e z q = rw (q, e, z)

    module _ (n : ℕ) (next : n ≡ next_to_enter g d s k) where
      pub seek_not : (l : ℕ) → has_byte g d k o ≡ false → ends g d k ≡ false → fits g (d n) s n ≡ false → seek g d s k o l ≡ Broken (place k o l)
      unfolding seek
      seek_not zero e z f = rw (e, z)
      seek_not (suc l) e z f = rw (e, z, ← next, f, seek)

      pub seek-on : (l : ℕ) → 0 < l → has_byte g d k o ≡ false → ends g d k ≡ false → fits g (d n) s n ≡ true → seek g d s k o l ≡ seek g d s n 0 (l - 1)
      unfolding seek
      seek-on zero h e z f = absurd (omega arith)
      seek-on (suc l) h e z f = let q : suc l - 1 ≡ l = omega arith in rw (q, e, z, ← next, f, seek) (ap (λ x. seek g d s x 0 l) (sym next))

  -- where a byte is left, the sector was entered and the search is at its end
  module _ (p : Place) (t : ByteLeft g d p) where
    pub left_entered : Entered g d p.sector
    left_entered = record { most = t.high; least = λ _. t.low; small = λ _. t.small }

    pub left-ready : (s : ℕ) → seek g d s p.sector p.offset p.left ≡ Ready p
    left-ready s = let l = t.low in seek-ready g d s p.sector p.offset p.left (has_byte_lem p.sector p.offset (omega arith) t.within)

  -- a full sector has bytes to read, and is the next that the search finds from the end of one before it
  module _ (s t : ℕ) (u : full g d s t ≡ true) where
    pub full-fits : fits g (d t) s t ≡ true
    unfolding full
    full-fits = and_left (fits g (d t) s t) (eqb (in_use g (d t)) g.room) u

    pub full_used : in_use g (d t) ≡ g.room
    unfolding full
    full_used = eqb-true (in_use g (d t)) g.room (and_right (fits g (d t) s t) (eqb (in_use g (d t)) g.room) u)

    pub full_data : data_sector t ≡ true
    full_data = fits_data g (d t) s t full-fits

    pub full_entered : Entered g d t
    full_entered = fits_entered s t full-fits

    pub full-left : 0 < g.room → (l : ℕ) → ByteLeft g d (place t 0 l)
    full-left r l =
        let q = data_facts t full_data in
        let e = full_used in
        record { low = omega arith; high = omega arith; within = omega arith; small = omega arith }

    pub seek-full : (k l : ℕ) → Entered g d k → 1 ≤ k → 0 < l → t ≡ next g (d k) → seek g d s k g.room l ≡ seek g d s t 0 (l - 1)
    unfolding next_to_enter has_byte ends
    seek-full k l h a z e =
        let n : k ≢ 0 = λ x. omega arith in
        let f = data_facts t full_data in
        seek-on s k g.room t (rw (ne_eqb k 0 n) e) l z (rw (ne_eqb k 0 n, le-ltb g.room (in_use g (d k)) (h.small a))) (rw (ne_eqb k 0 n, ← e, ne_eqb t 0 (λ x. omega arith))) full-fits
