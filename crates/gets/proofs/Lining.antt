-- Lines read by their parts in one sector: what the search for $9B finds, and how far a reading comes with it.
use mathlib.Core.Bool.{Bool, true, false}
use mathlib.Core.List.{List, [], ◌∷◌}
use mathlib.Core.Logic.{◌≢◌}
use mathlib.Core.Path.{◌≡◌, refl, ◌∙◌}
use Prim.Native.Nat.{ℕ, suc, ◌+◌, ◌-◌, ◌≤◌, ◌<◌}
use native.Mathlib.Decide.{ℕ_discrete}
use native.Mathlib.Omega.{arith}
use lib.Dec.{eqb}
use lib.ListN.{length}
use lib.Seq.{sets}
use borrow.Author.Tests.{eq-eqb, ne_eqb}
use Rattle.layout.specs.Basics.{if, first_from, values_from}
use Rattle.layout.specs.Image.{Disk, Geometry}
use Rattle.layout.specs.File.{ends_line, in_use}
use Rattle.layout.specs.Status.{success, bad_chain, truncated}
use Rattle.layout.proofs.Search.{first-least, first_passes, first-before}
use Rattle.rules.specs.declared.Form.TheVariants.{Record}
use Rattle.rules.specs.declared.Got.{Got}
use Rattle.rules.specs.declared.Place.{Place}
use Rattle.rules.specs.declared.Seek.TheVariants.{Ready}
use Rattle.rules.specs.Get.{Reads, ends_reading, place, reads, seek, read_from, most, drop_rest, fill}
use Rattle.gets.specs.Entered.{ByteLeft, Comes}
use Rattle.gets.specs.Lines.{InLine}
use Rattle.gets.proofs.Getting.{comes_found, comes_run, comes_through}

-- the search for $9B among n bytes found it at e, or came to the end of them
module _ (g : Geometry) (d : Disk) (p : Place) (n e : ℕ) (f : e ≡ first_from (ends_line (d p.sector)) n p.offset) (u : p.offset + n ≤ in_use g (d p.sector)) where
  open_before : (j : ℕ) → p.offset + j < e → ends_line (d p.sector) (p.offset + j) ≡ false
  open_before j h = first-before (ends_line (d p.sector)) n p.offset (p.offset + j) (omega arith) (rw f at h)

  pub in_ended : e < p.offset + n → InLine g d p (e - p.offset + 1) true
  in_ended h =
      let l : p.offset ≤ e = rw f (first-least (ends_line (d p.sector)) n p.offset) in
      let z : e ≡ p.offset + (e - p.offset + 1 - 1) = omega arith in
      let t : ends_line (d p.sector) e ≡ true = rw f (first_passes (ends_line (d p.sector)) n p.offset (rw f at h)) in
      record { some = omega arith; within = omega arith; others = λ j q. open_before j (omega arith); last = rw (← z) t }

  pub in_open : 0 < n → p.offset + n ≤ e → InLine g d p n false
  in_open a h = record { some = a; within = u; others = λ j q. open_before j (omega arith); last = open_before (n - 1) (omega arith) }

-- a line's part from q on, where the search found a byte, with the place and the buffer behind it: the line goes on there, or has ended
module _ {g : Geometry} {d : Disk} {s n : ℕ} {p₀ : Place} {b₀ : List ℕ} {i : ℕ} {p : Place} {b : List ℕ} (w : Comes g Record d s n 0 p₀ b₀ i p b) (h : i < n) (q : Place)
    (e : seek g d s p.sector p.offset p.left ≡ Ready q) (t : ByteLeft g d q) (m : ℕ) (r : m ≤ n - i) {x : Bool} (u : InLine g d q m x) (y : Place)
    (to : y ≡ place q.sector (q.offset + m) q.left) (c : List ℕ) (z : c ≡ sets b i (values_from (d q.sector) m q.offset)) where
  low : 1 ≤ q.sector
  low = let l = t.low in omega arith

  found : Comes g Record d s n 0 p₀ b₀ i q b
  found = comes_found w h q e t

  pub line_open : x ≡ false → Comes g Record d s n 0 p₀ b₀ (i + m) y c
  unfolding ends_line
  line_open f = rw to (comes_run found low m (omega arith) u.within (λ j l. go j l (ℕ_discrete j (m - 1))) c z)
    where
      go : (j : ℕ) → j < m → Dec (j ≡ m - 1) → ends_reading Record (d q.sector (q.offset + j)) ≡ false
      go j l (yes k) = rw k (u.last ∙ f)
      go j l (no k) = u.others j (omega arith)

  pub line-ended : x ≡ true → read_from g Record d s n 0 p₀ b₀ ≡ reads success (i + m) y c
  unfolding ends_line
  line-ended f =
      let some = u.some in
      let k : suc (m - 1) ≡ m = omega arith in
      rw (to, ← k) (comes_through found low (m - 1) (omega arith) (let l = u.within in omega arith) (λ j l. u.others j (omega arith)) (u.last ∙ f) c (rw k z))

-- into an empty buffer nothing is stored
pub sets_none : (b : List ℕ) → length b ≡ 0 → (i : ℕ) (vs : List ℕ) → b ≡ sets b i vs
sets_none [] h i [] = refl
sets_none [] h i (v ∷ vs) = sets_none [] h (suc i) vs
sets_none (x ∷ b) h i vs = absurd (omega arith)

-- a get record answers with the line read, or where the buffer filled first, with the rest of it dropped
module _ (g : Geometry) (d : Disk) (s : ℕ) (p : Place) (b : List ℕ) where
  abbrev line : Reads
  line = read_from g Record d s (length b) 0 p b

  pub fill_as : {r : Got} {c : List ℕ} → r ≡ line.got → c ≡ line.buffer → r.status ≢ truncated → (r ≡ (fill g Record d s p b).got) × (c ≡ (fill g Record d s p b).buffer)
  unfolding fill
  fill_as e f h = rw (ne_eqb line.got.status truncated (rw e at h)) (e, f)

  pub fill_drops : {r q a : Got} {c : List ℕ} → r ≡ line.got → c ≡ line.buffer → r.status ≡ truncated → q ≡ (read_from g Record d s (most g r.place) 0 r.place []).got
      → a ≡ record { status = if (eqb q.status bad_chain) bad_chain truncated; count = r.count; place = q.place } → (a ≡ (fill g Record d s p b).got) × (c ≡ (fill g Record d s p b).buffer)
  unfolding fill drop_rest
  fill_drops e f h z k = rw (eq-eqb line.got.status truncated (rw e at h)) (k ∙ rw (z, e), f)
