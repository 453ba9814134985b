-- Full sectors that follow each other on the disk: how far counting reaches, the test of each, and how far a get over them has come.
use mathlib.Core.Bool.{true, ◌&&◌}
use mathlib.Core.List.{List}
use mathlib.Core.Logic.{◌⊎◌, inl, inr}
use mathlib.Core.Path.{◌≡◌, sym}
use Prim.Native.Nat.{ℕ, ◌+◌, ◌-◌, ◌*◌, ◌≤◌, ◌<◌}
use native.Mathlib.Decide.{ℕ_discrete}
use native.Mathlib.Omega.{arith}
use lib.Dec.{leb, eqb}
use lib.ListN.{length}
use lib.Seq.{sets}
use borrow.Author.Tests.{eqb-true, eq-eqb, ne_eqb, le-leb}
use Rattle.layout.specs.Basics.{values_from}
use Rattle.layout.specs.Image.{Disk, Geometry}
use Rattle.layout.specs.Volume.{data_sector}
use Rattle.layout.specs.File.{owner, next, in_use, fits}
use Rattle.layout.proofs.Logic.{and_left, and_right, and_no}
use Rattle.layout.proofs.Data.{data_cases, data_facts}
use Rattle.gets.specs.declared.whole.Filled.{Filled}
use Rattle.gets.specs.Entered.{full, leads_on, Consecutive, DataBehind, Fills}
use Rattle.gets.proofs.Getting.{comes_start, gets-full}

-- the second run of data sectors begins behind the directory
pub high-least : (k : ℕ) → data_sector k ≡ true → 360 ≤ k → 369 ≤ k
high-least k e h = go (data_cases k e)
  where
    go : ((4 ≤ k) × (k ≤ 359)) ⊎ ((369 ≤ k) × (k ≤ 719)) → 369 ≤ k
    go (inl a) = absurd (omega arith)
    go (inr a) = a.0

-- a sector that is reached by counting
pub behind_data : (k n j : ℕ) → DataBehind k n → k ≤ j → j < k + n → data_sector (j + 1) ≡ true
behind_data k n j b a h = let e : k + 1 + (j - k) ≡ j + 1 = omega arith in rw e at (b.each (j - k) (omega arith))

-- slot number and next sector compared at once: o and n with s and t
both_test : (o n u s t r : ℕ) → n < 1024 → t < 1024 → (eqb (o * 1024 + n) (s * 1024 + t) && eqb u r) ≡ (eqb o s && leb u r && eqb u r && eqb n t)
both_test o n u s t r h f = go (ℕ_discrete o s) (ℕ_discrete n t) (ℕ_discrete u r)
  where
    go : Dec (o ≡ s) → Dec (n ≡ t) → Dec (u ≡ r) → (eqb (o * 1024 + n) (s * 1024 + t) && eqb u r) ≡ (eqb o s && leb u r && eqb u r && eqb n t)
    go (no a) b c = rw (ne_eqb (o * 1024 + n) (s * 1024 + t) (λ q. a (omega arith)), ne_eqb o s a)
    go (yes a) (no b) c = rw (ne_eqb (o * 1024 + n) (s * 1024 + t) (λ q. b (omega arith)), ne_eqb n t b) (sym (and_no (eqb o s && leb u r && eqb u r)))
    go (yes a) (yes b) (no c) = rw (eq-eqb (o * 1024 + n) (s * 1024 + t) (omega arith), ne_eqb u r c, and_no (eqb o s && leb u r))
    go (yes a) (yes b) (yes c) = rw (eq-eqb (o * 1024 + n) (s * 1024 + t) (omega arith), eq-eqb o s a, le-leb u r (omega arith), eq-eqb u r c, eq-eqb n t b)

module _ (g : Geometry) (d : Disk) (s k : ℕ) where
  pub leads_test : data_sector k ≡ true → next g (d k) < 1024 → (eqb (owner g (d k) * 1024 + next g (d k)) (s * 1024 + (k + 1)) && eqb (in_use g (d k)) g.room) ≡ leads_on g d s k
  unfolding leads_on full fits
  leads_test e h = let f = data_facts k e in rw e (both_test (owner g (d k)) (next g (d k)) (in_use g (d k)) s (k + 1) g.room h (omega arith))

  -- what it says
  pub leads-full : leads_on g d s k ≡ true → full g d s k ≡ true
  unfolding leads_on
  leads-full e = and_left (full g d s k) (eqb (next g (d k)) (k + 1)) e

  pub leads-next : leads_on g d s k ≡ true → next g (d k) ≡ k + 1
  unfolding leads_on
  leads-next e = eqb-true (next g (d k)) (k + 1) (and_right (full g d s k) (eqb (next g (d k)) (k + 1)) e)

-- a get from the end of a sector on: at its byte i with buffer b, it has entered those up to sector k, by counting
pub record Counting (g : Geometry) (d : Disk) (s : ℕ) (w : Filled) (b₀ : List ℕ) (k i : ℕ) (b : List ℕ) : Type 0 where
  pub least : w.sector ≤ k
  pub within : i ≤ length b₀
  pub leads : next g (d k) ≡ k + 1
  pub fills : Fills g d s w b₀ (record { sector = k; left = w.left - (k - w.sector); count = i }) b

module _ {g : Geometry} {d : Disk} {s : ℕ} {w : Filled} {b₀ : List ℕ} where
  pub counting_holds : 4 ≤ w.sector → w.count ≤ length b₀ → Consecutive g d w.sector → Counting g d s w b₀ w.sector w.count b₀
  counting_holds a h t =
      let none : w.left - (w.sector - w.sector) ≡ w.left = omega arith in
      record { least = omega arith; within = h; leads = t.leads; fills = rw none (a, comes_start w.count _ b₀ h t.entered) }

  module _ {k i : ℕ} {b : List ℕ} (q : Counting g d s w b₀ k i b) where
    pub counting_again : 0 < g.room → k - w.sector < w.left → i + g.room ≤ length b₀ → leads_on g d s (k + 1) ≡ true → (c : List ℕ) → c ≡ sets b i (values_from (d (k + 1)) g.room 0)
        → Counting g d s w b₀ (k + 1) (i + g.room) c
    counting_again r h f u c z =
        let l = q.least in
        let o : w.left - (k + 1 - w.sector) ≡ w.left - (k - w.sector) - 1 = omega arith in
        let v = q.fills in
        record {
          least = omega arith;
          within = f;
          leads = leads-next g d s (k + 1) u;
          fills = rw o (let a = v.0 in omega arith, gets-full r v.1 v.0 (omega arith) f (k + 1) (sym q.leads) (leads-full g d s (k + 1) u) c z);
        }
