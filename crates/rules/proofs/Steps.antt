-- Bytes read, one step at a time: what holds of each way that a step can go holds of the reading.
use mathlib.Core.Bool.{Bool, true, false}
use mathlib.Core.List.{List, []}
use mathlib.Core.Logic.{◌≢◌}
use mathlib.Core.Path.{◌≡◌, refl, ◌∙◌}
use Prim.Native.Nat.{ℕ, suc, zero, ◌+◌}
use native.Mathlib.Omega.{arith}
use lib.Dec.{eqb}
use lib.ListN.{length, set}
use borrow.Author.Tests.{eqb-true, eqb-false}
use Rattle.rules.specs.declared.Form.{Form}
use Rattle.rules.specs.declared.Form.TheVariants.{Characters, Record}
use Rattle.rules.specs.declared.Place.{Place}
use Rattle.rules.specs.declared.Seek.{Seek}
use Rattle.rules.specs.declared.Seek.TheVariants.{Ready, Ended, Broken}
use Rattle.layout.specs.Basics.{if}
use Rattle.layout.specs.Image.{Disk, Geometry}
use Rattle.layout.specs.File.{fits}
use Rattle.layout.specs.Status.{success, end_of_file, bad_chain, truncated}
use Rattle.layout.proofs.Check.{by_if}
use Rattle.rules.specs.Get.{Reads, ends_reading, place, reads, seek_place, next_to_enter, has_byte, ends, seek, read_from, most, drop_rest, fill}

-- the place behind a byte
abbrev pub past : Place → Place
past q = place q.sector (q.offset + 1) q.left

module _ (g : Geometry) (d : Disk) (s : ℕ) (P : Reads → Type 0) where
  -- a byte that ends the reading, a byte behind which it goes on, the file's end, a sector that cannot be entered
  pub read_step : (f : Form) (n i : ℕ) (p : Place) (b : List ℕ)
      → ((q : Place) → seek g d s p.sector p.offset p.left ≡ Ready q → let x = d q.sector q.offset in ends_reading f x ≡ true → P (reads success (i + 1) (past q) (set b i x)))
      → ((q : Place) → seek g d s p.sector p.offset p.left ≡ Ready q → let x = d q.sector q.offset in ends_reading f x ≡ false → P (read_from g f d s n (i + 1) (past q) (set b i x)))
      → ((q : Place) → seek g d s p.sector p.offset p.left ≡ Ended q → P (reads end_of_file i q b))
      → ((q : Place) → seek g d s p.sector p.offset p.left ≡ Broken q → P (reads bad_chain i q b))
      → P (read_from g f d s (suc n) i p b)
  unfolding read_from
  read_step f n i p b last more ended broken = go (seek g d s p.sector p.offset p.left) refl
    where
      go : (q : Seek) → seek g d s p.sector p.offset p.left ≡ q → P (read_from g f d s (suc n) i p b)
      go (Ready q) e =
          let x = d q.sector q.offset in
          rw (e, read_from) (by_if P (ends_reading f x) (reads success (i + 1) (past q) (set b i x)) (read_from g f d s n (i + 1) (past q) (set b i x)) (last q e) (more q e))
      go (Ended q) e = rw (e, read_from) (ended q e)
      go (Broken q) e = rw (e, read_from) (broken q e)

  -- a get record: where the buffer filled first the rest of the line is dropped
  pub fill_record : (p : Place) (b : List ℕ) → let r = read_from g Record d s (length b) 0 p b in (r.got.status ≡ truncated → P (drop_rest g d s r)) → (r.got.status ≢ truncated → P r) → P (fill g Record d s p b)
  unfolding fill
  fill_record p b cut whole =
      let r = read_from g Record d s (length b) 0 p b in
      by_if P (eqb r.got.status truncated) (drop_rest g d s r) r (λ e. cut (eqb-true r.got.status truncated e)) (λ e. whole (eqb-false r.got.status truncated e))

-- where the search for a byte is over at once: a byte is left in the entered sector, or the file ended
module _ (g : Geometry) (d : Disk) (s k o : ℕ) where
  pub seek-ready : (l : ℕ) → has_byte g d k o ≡ true → seek g d s k o l ≡ Ready (place k o l)
  unfolding seek
  seek-ready zero e = rw e
  seek-ready (suc l) e = rw (e, seek)

  pub seek-ended : (l : ℕ) → has_byte g d k o ≡ false → ends g d k ≡ true → seek g d s k o l ≡ Ended (place k o l)
  unfolding seek
  seek-ended zero e z = rw (e, z)
  seek-ended (suc l) e z = rw (e, z, seek)

-- where reading ends: what holds of the sector that it begins at and of every sector that fits holds of the sector that it ends at
module _ (g : Geometry) (d : Disk) (s : ℕ) (P : ℕ → Type 0) (entered : (k : ℕ) → fits g (d k) s k ≡ true → P k) where
  seek_place_lem : (l k o : ℕ) → P k → P (seek_place (seek g d s k o l)).sector
  unfolding seek
  seek_place_lem zero k o t = go (has_byte g d k o) (ends g d k)
    where
      go : (a b : Bool) → P (seek_place (if a (Ready (place k o 0)) (if b (Ended (place k o 0)) (Broken (place k o 0))))).sector
      go true b = t
      go false true = t
      go false false = t
  seek_place_lem (suc l) k o t = go (has_byte g d k o) refl (ends g d k) refl (fits g (d n) s n) refl (seek_place_lem l n 0)
    where
      n : ℕ
      n = next_to_enter g d s k

      go : (a : Bool) → has_byte g d k o ≡ a → (b : Bool) → ends g d k ≡ b → (c : Bool) → fits g (d n) s n ≡ c → (P n → P (seek_place (seek g d s n 0 l)).sector) → P (seek_place (seek g d s k o (suc l))).sector
      go true h b e c f more = rw (h, seek) t
      go false h true e c f more = rw (h, e, seek) t
      go false h false e true f more = rw (h, e, f, seek) (more (entered n f))
      go false h false e false f more = rw (h, e, f, seek) t

  sought_place : {q : Seek} (p : Place) → P p.sector → seek g d s p.sector p.offset p.left ≡ q → P (seek_place q).sector
  sought_place p t e = rw (← e) (seek_place_lem p.left p.sector p.offset t)

  read_place : (f : Form) (n i : ℕ) (p : Place) (b : List ℕ) → P p.sector → P (read_from g f d s n i p b).got.place.sector
  unfolding read_from
  read_place f zero i p b t = t
  read_place f (suc n) i p b t =
      read_step g d s (λ z. P z.got.place.sector) f n i p b (λ _ e _. sought_place p t e) (λ _ e _. read_place f n (i + 1) _ _ (sought_place p t e)) (λ _ e. sought_place p t e) (λ _ e. sought_place p t e)

  pub fill_place : (f : Form) (p : Place) (b : List ℕ) → P p.sector → P (fill g f d s p b).got.place.sector
  unfolding fill drop_rest
  fill_place Characters p b t = read_place Characters (length b) 0 p b t
  fill_place Record p b t = let r = read_place Record (length b) 0 p b t in fill_record g d s (λ z. P z.got.place.sector) p b (λ _. read_place Record _ 0 _ [] r) (λ _. r)

-- with 137 all bytes wanted have come
pub read_full : (g : Geometry) (d : Disk) (s n i : ℕ) (p : Place) (b : List ℕ) → let z = read_from g Record d s n i p b in z.got.status ≡ truncated → z.got.count ≡ i + n
unfolding read_from
read_full g d s zero i p b = λ _. omega arith
read_full g d s (suc n) i p b =
    read_step g d s (λ z. z.got.status ≡ truncated → z.got.count ≡ i + suc n) Record n i p b (λ _ _ _ e. absurd (omega arith)) (λ _ _ _ e. read_full g d s n (i + 1) _ _ e ∙ omega arith) (λ _ _ e. absurd (omega arith)) (λ _ _ e. absurd (omega arith))

-- what the rest of the line that is dropped answers
pub drop_status : (Q : ℕ → Type 0) (g : Geometry) (d : Disk) (s : ℕ) (r : Reads) → let q = read_from g Record d s (most g r.got.place) 0 r.got.place [] in (q.got.status ≡ bad_chain → Q bad_chain) → (q.got.status ≢ bad_chain → Q truncated) → Q (drop_rest g d s r).got.status
unfolding drop_rest
drop_status Q g d s r broken cut =
    let q = read_from g Record d s (most g r.got.place) 0 r.got.place [] in
    by_if Q (eqb q.got.status bad_chain) bad_chain truncated (λ e. broken (eqb-true q.got.status bad_chain e)) (λ e. cut (eqb-false q.got.status bad_chain e))

-- what reading answers and where it ends does not depend on the buffer
pub read_got : (g : Geometry) (d : Disk) (s : ℕ) (f : Form) (n i : ℕ) (p : Place) (b c : List ℕ) → (read_from g f d s n i p b).got ≡ (read_from g f d s n i p c).got
unfolding read_from
read_got g d s f zero i p b c = refl
read_got g d s f (suc n) i p b c = go (seek g d s p.sector p.offset p.left) refl (read_got g d s f n (i + 1))
  where
    Same : Type 0
    Same = (p : Place) (b c : List ℕ) → (read_from g f d s n (i + 1) p b).got ≡ (read_from g f d s n (i + 1) p c).got

    pick : (t : Bool) (q : Place) (x : ℕ) → Same
        → (if t (reads success (i + 1) (past q) (set b i x)) (read_from g f d s n (i + 1) (past q) (set b i x))).got ≡ (if t (reads success (i + 1) (past q) (set c i x)) (read_from g f d s n (i + 1) (past q) (set c i x))).got
    pick true q x more = refl
    pick false q x more = more (past q) (set b i x) (set c i x)

    go : (q : Seek) → seek g d s p.sector p.offset p.left ≡ q → Same → (read_from g f d s (suc n) i p b).got ≡ (read_from g f d s (suc n) i p c).got
    go (Ready q) e more = let x = d q.sector q.offset in rw (e, read_from) (pick (ends_reading f x) q x more)
    go (Ended q) e more = rw (e, read_from)
    go (Broken q) e more = rw (e, read_from)
