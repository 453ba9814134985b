-- Bytes read by runs: a run of bytes out of one sector is the same bytes one by one.
use mathlib.Core.List.{List}
use mathlib.Core.Bool.{Bool, true, false}
use mathlib.Core.Path.{◌≡◌, refl, sym, ap, ◌∙◌}
use Prim.Native.Nat.{ℕ, suc, zero, ◌+◌, ◌-◌, ◌≤◌, ◌<◌}
use native.Mathlib.Nat.{add-zero, zero-add, sub-zero}
use native.Mathlib.Numerals.{add-one}
use native.Mathlib.Omega.{arith}
use lib.ListN.{set}
use lib.Seq.{sets}
use Rattle.layout.specs.Basics.{if, values_from}
use Rattle.layout.specs.Image.{Disk, Geometry}
use Rattle.layout.specs.File.{next, in_use}
use Rattle.layout.specs.Status.{success, bad_chain, end_of_file}
use Rattle.rules.specs.declared.Form.{Form}
use Rattle.rules.specs.declared.Place.{Place}
use Rattle.rules.specs.declared.Seek.TheVariants.{Ready, Ended, Broken}
use Rattle.rules.specs.Get.{ends_reading, filled, place, reads, seek, read_from, get_from}
use Rattle.gets.specs.Entered.{Entered, ByteLeft, at_hand, full, Comes, Gets}
use Rattle.rules.proofs.Steps.{seek-ready}
use Rattle.gets.proofs.Seeking.{at_hand_lem, has_byte_lem, left_entered, left-ready, full_used, full-left, seek-full}

module _ (g : Geometry) (f : Form) (d : Disk) (s : ℕ) where
  -- some bytes wanted are read by where the search leads alone
  pub read_same : (n i : ℕ) (p q : Place) (b : List ℕ) → 0 < n → seek g d s p.sector p.offset p.left ≡ seek g d s q.sector q.offset q.left → read_from g f d s n i p b ≡ read_from g f d s n i q b
  unfolding read_from
  read_same zero i p q b h e = absurd (omega arith)
  read_same (suc n) i p q b h e = rw (e, read_from)

  -- a byte that is left
  read_byte : (n i k o l : ℕ) (b : List ℕ) → 1 ≤ k → o < in_use g (d k)
      → let p = place k (o + 1) l in let c = set b i (d k o) in read_from g f d s (suc n) i (place k o l) b ≡ if (ends_reading f (d k o)) (reads success (i + 1) p c) (read_from g f d s n (i + 1) p c)
  unfolding read_from
  read_byte n i k o l b h u = rw (seek-ready g d s k o l (has_byte_lem g d k o h u), read_from)

  -- a run of bytes, of which none before the last ends the reading
  read_run : (m t n i k o l : ℕ) (b : List ℕ) (x : Bool) → t ≡ suc m + n → 1 ≤ k → o + suc m ≤ in_use g (d k) → ((j : ℕ) → j < m → ends_reading f (d k (o + j)) ≡ false) → ends_reading f (d k (o + m)) ≡ x
      → let p = place k (o + suc m) l in let c = sets b i (values_from (d k) (suc m) o) in read_from g f d s t i (place k o l) b ≡ if x (reads success (i + suc m) p c) (read_from g f d s n (i + suc m) p c)
  unfolding values_from
  read_run zero t n i k o l b x a h u v e =
      let y : t ≡ suc n = omega arith in
      let z : ends_reading f (d k o) ≡ x = rw (add-zero o) at e in
      ap (λ w. read_from g f d s w i (place k o l) b) y ∙ read_byte n i k o l b h (omega arith) ∙ rw z
  read_run (suc m) t n i k o l b x a h u v e =
      let y : t ≡ suc (suc m + n) = omega arith in
      let z : ends_reading f (d k o) ≡ false = rw (add-zero o) at (v 0 (omega arith)) in
      let p : i + suc (suc m) ≡ suc i + suc m = omega arith in
      let q : o + suc (suc m) ≡ o + 1 + suc m = omega arith in
      let r : o + suc m ≡ o + 1 + m = omega arith in
      ap (λ w. read_from g f d s w i (place k o l) b) y ∙ read_byte (suc m + n) i k o l b h (omega arith)
      ∙ rw (z, p, q, add-one i) (read_run m (suc m + n) n (suc i) k (o + 1) l (set b i (d k o)) x refl h (omega arith) (λ j w. let c : o + 1 + j ≡ o + suc j = omega arith in rw c (v (suc j) (omega arith))) (rw r at e))

module _ {g : Geometry} {f : Form} {d : Disk} {s n : ℕ} where
  pub comes_start : (i : ℕ) (p : Place) (b : List ℕ) → i ≤ n → Entered g d p.sector → Comes g f d s n i p b i p b
  comes_start i p b h t = record { least = omega arith; most = h; entered = t; same = refl }

  module _ {i₀ : ℕ} {p₀ : Place} {b₀ : List ℕ} {i : ℕ} {p : Place} {b : List ℕ} (w : Comes g f d s n i₀ p₀ b₀ i p b) where
    -- one part of a reading after another
    pub comes_on : {m i₁ : ℕ} {p₁ : Place} {b₁ : List ℕ} → m ≡ n → Comes g f d s m i p b i₁ p₁ b₁ → Comes g f d s n i₀ p₀ b₀ i₁ p₁ b₁
    comes_on {i₁ = i₁} {p₁ = p₁} {b₁ = b₁} e v =
        let x = w.least in
        let y = v.least in
        let z = v.most in
        record { least = omega arith; most = omega arith; entered = v.entered; same = w.same ∙ ap (λ k. read_from g f d s (k - i) i p b) (sym e) ∙ v.same ∙ ap (λ k. read_from g f d s (k - i₁) i₁ p₁ b₁) e }

    -- the search may be left out where it found a byte
    pub comes_found : i < n → (q : Place) → seek g d s p.sector p.offset p.left ≡ Ready q → ByteLeft g d q → Comes g f d s n i₀ p₀ b₀ i q b
    comes_found h q e t = record { least = w.least; most = w.most; entered = left_entered g d q t; same = w.same ∙ read_same g f d s (n - i) i p q b (omega arith) (e ∙ sym (left-ready g d q t s)) }

    -- a run of bytes of one sector, none of which ends the reading
    pub comes_run : 1 ≤ p.sector → (m : ℕ) → i + m ≤ n → p.offset + m ≤ in_use g (d p.sector) → ((j : ℕ) → j < m → ends_reading f (d p.sector (p.offset + j)) ≡ false)
        → (c : List ℕ) → c ≡ sets b i (values_from (d p.sector) m p.offset) → Comes g f d s n i₀ p₀ b₀ (i + m) (place p.sector (p.offset + m) p.left) c
    unfolding values_from
    comes_run h zero r u v c z = rw (z, add-zero i, add-zero p.offset) w
    comes_run h (suc m) r u v c z =
        let t : n - i ≡ suc m + (n - (i + suc m)) = omega arith in
        let x = w.least in
        record { least = omega arith; most = r; entered = w.entered; same = w.same ∙ rw z (read_run g f d s m (n - i) (n - (i + suc m)) i p.sector p.offset p.left b false t h u (λ j q. v j (omega arith)) (v m (omega arith))) }

  -- where a reading ends that began at its byte 0: behind the last byte of a run, at the buffer's end, at the file's, or at a sector that cannot be entered
  module _ {p₀ : Place} {b₀ : List ℕ} {i : ℕ} {p : Place} {b : List ℕ} (w : Comes g f d s n 0 p₀ b₀ i p b) where
    whole : read_from g f d s n 0 p₀ b₀ ≡ read_from g f d s (n - i) i p b
    whole = ap (λ x. read_from g f d s x 0 p₀ b₀) (sym (sub-zero n)) ∙ w.same

    pub comes_through : 1 ≤ p.sector → (m : ℕ) → i + suc m ≤ n → p.offset + suc m ≤ in_use g (d p.sector) → ((j : ℕ) → j < m → ends_reading f (d p.sector (p.offset + j)) ≡ false)
        → ends_reading f (d p.sector (p.offset + m)) ≡ true → (c : List ℕ) → c ≡ sets b i (values_from (d p.sector) (suc m) p.offset)
        → read_from g f d s n 0 p₀ b₀ ≡ reads success (i + suc m) (place p.sector (p.offset + suc m) p.left) c
    comes_through h m r u v e c z =
        let t : n - i ≡ suc m + (n - (i + suc m)) = omega arith in
        whole ∙ rw z (read_run g f d s m (n - i) (n - (i + suc m)) i p.sector p.offset p.left b true t h u v e)

    pub comes_all : n ≤ i → read_from g f d s n 0 p₀ b₀ ≡ reads (filled f) i p b
    unfolding read_from
    comes_all h = let e : n - i ≡ 0 = omega arith in whole ∙ rw e

    module _ (h : i < n) (q : Place) where
      more : n - i ≡ suc (n - (i + 1))
      more = omega arith

      pub comes_ended : seek g d s p.sector p.offset p.left ≡ Ended q → read_from g f d s n 0 p₀ b₀ ≡ reads end_of_file i q b
      unfolding read_from
      comes_ended e = whole ∙ rw (more, e, read_from)

      pub comes_broken : seek g d s p.sector p.offset p.left ≡ Broken q → read_from g f d s n 0 p₀ b₀ ≡ reads bad_chain i q b
      unfolding read_from
      comes_broken e = whole ∙ rw (more, e, read_from)

-- bytes that are got: none of them ends the reading
module _ {g : Geometry} {d : Disk} {s n : ℕ} where
  -- those of the sector where one is left, up to the place e in it
  pub gets-here : (i : ℕ) (p : Place) (b : List ℕ) → ByteLeft g d p → (m : ℕ) → i + m ≤ n → p.offset + m ≤ in_use g (d p.sector) → (c : List ℕ) → c ≡ sets b i (values_from (d p.sector) m p.offset)
      → (e : ℕ) → p.offset + m ≡ e → Gets g d s n i p b (i + m) (place p.sector e p.left) c
  gets-here i p b t m f u c z e h = rw (← h) (comes_run (comes_start i p b (omega arith) (left_entered g d p t)) (let l = t.low in omega arith) m f u (λ _ _. refl) c z)

  -- a full sector behind the end of one that was entered
  pub gets-full : 0 < g.room → {i₀ : ℕ} {p₀ : Place} {b₀ : List ℕ} {i k l : ℕ} {b : List ℕ} → Gets g d s n i₀ p₀ b₀ i (place k g.room l) b → 4 ≤ k → 0 < l → i + g.room ≤ n
      → (t : ℕ) → t ≡ next g (d k) → full g d s t ≡ true → (c : List ℕ) → c ≡ sets b i (values_from (d t) g.room 0)
      → Gets g d s n i₀ p₀ b₀ (i + g.room) (place t g.room (l - 1)) c
  gets-full r {i} {k} {l} w a h f t e u c z =
      let v = full-left g d s t u r (l - 1) in
      let y = full_used g d s t u in
      let low : 1 ≤ t = let x = v.low in omega arith in
      let q = seek-full g d s t u k l w.entered (omega arith) h e ∙ left-ready g d (place t 0 (l - 1)) v s in
      rw (zero-add g.room) at (comes_run (comes_found w (omega arith) (place t 0 (l - 1)) q v) low g.room f (omega arith) (λ _ _. refl) c z)

-- bytes of one sector that was entered, and no more are wanted
pub gets_at_hand : {g : Geometry} {d : Disk} (s n k o l : ℕ) (b : List ℕ) → Entered g d k → at_hand g d k o n ≡ true → (c : List ℕ) → c ≡ sets b 0 (values_from (d k) n o)
    → get_from g d s n 0 (place k o l) b ≡ reads success n (place k (o + n) l) c
gets_at_hand {g} {d} s n k o l b t e c z =
    let h = at_hand_lem g d k o n e in
    let w : Gets g d s n 0 (place k o l) b 0 (place k o l) b = comes_start 0 (place k o l) b (omega arith) t in
    let v : Gets g d s n 0 (place k o l) b (0 + n) (place k (o + n) l) c = comes_run w h.0 n (omega arith) h.1 (λ _ _. refl) c z in
    comes_all (rw (zero-add n) at v) (omega arith)
