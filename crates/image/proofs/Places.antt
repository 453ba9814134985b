-- Where the sectors of a medium, and the slots of its directory, start in an image.
use mathlib.Core.List.{List}
use mathlib.Core.Path.{◌≡◌, sym, ap, ◌∙◌}
use Prim.Native.Nat.{ℕ, suc, ◌+◌, ◌-◌, ◌*◌, ◌/◌, ◌%◌, ◌≤◌, ◌<◌}
use native.Mathlib.Nat.{suc-mul}
use native.Mathlib.Omega.{arith}
use lib.ListN.{get_or}
use Rattle.layout.specs.declared.density.Density.{Density}
use Rattle.layout.specs.declared.density.Medium.{Medium}
use Rattle.layout.specs.Image.{Regular, geometry_of, view}
use Rattle.layout.specs.Directory.{entry}
use Rattle.layout.proofs.Image.{start_data, size_data, lawful, view_byte}

-- a sector from the fourth on starts here, and ends in the image
pub starts_data : (m : Medium) → Regular m → (k : ℕ) → 4 ≤ k → k ≤ 720 → let i = m.header + 384 + (k - 4) * m.density.size in (i ≡ (geometry_of m).start k) × (i + (geometry_of m).size k ≤ (geometry_of m).total)
starts_data m r k a b =
    let x = start_data m.header m.density k a in
    let y = size_data m.header m.density k a in
    let z = (lawful m r).within k (m.density.size - 1) b (omega arith) in
    (omega arith, omega arith)

-- it lies in the image with the bytes behind its data
pub starts_within : (m : Medium) → Regular m → (k : ℕ) → 4 ≤ k → k ≤ 720 → (geometry_of m).start k + (m.density.room + 3) ≤ (geometry_of m).total
starts_within m r k a b =
    let x = (lawful m r).whole k a in
    let z = (lawful m r).within k (m.density.room + 2) b (omega arith) in
    omega arith

-- the sector after it starts where it ends
pub start-after : (m : Medium) (k : ℕ) → 4 ≤ k → (geometry_of m).start (k + 1) ≡ (geometry_of m).start k + m.density.size
start-after m k a =
    let x = start_data m.header m.density k a in
    let y = start_data m.header m.density (k + 1) (omega arith) in
    let e : k + 1 - 4 ≡ suc (k - 4) = omega arith in
    let z = suc-mul (k - 4) m.density.size in
    y ∙ rw e (omega arith)

-- the sector size tells the density
pub density_of : (m : Medium) → Regular m → (d : Density) → d.room + 3 ≡ d.size → m.density.size ≡ d.size → d ≡ m.density
density_of m r d a e =
    let f : d.room ≡ m.density.room = omega arith in
    ap (λ n. record { size = n; room = d.room }) (sym e) ∙ ap (λ n. record { size = m.density.size; room = n }) f

module _ (m : Medium) (r : Regular m) (s : ℕ) (b : s < 64) where
  -- the bytes of a slot by their places in the image
  pub entry_place : (l : List ℕ) (j : ℕ) → j < 16 → entry (view (geometry_of m) l) s j ≡ get_or l ((geometry_of m).start (361 + s / 8) + s % 8 * 16 + j) 0
  entry_place l j h =
      let e : (geometry_of m).start (361 + s / 8) + (s % 8 * 16 + j) ≡ (geometry_of m).start (361 + s / 8) + s % 8 * 16 + j = omega arith in
      view_byte (geometry_of m) l (361 + s / 8) (s % 8 * 16 + j) (let y = (lawful m r).least (361 + s / 8) (omega arith) in omega arith) ∙ ap (λ i. get_or l i 0) e

-- a slot lies in the image
pub slot-within : (m : Medium) → Regular m → (s : ℕ) → s < 64 → (geometry_of m).start (361 + s / 8) + s % 8 * 16 + 16 ≤ (geometry_of m).total
slot-within m r s b =
    let l = (lawful m r).least (361 + s / 8) (omega arith) in
    let w = (lawful m r).within (361 + s / 8) (s % 8 * 16 + 15) (omega arith) (omega arith) in
    omega arith

-- the next slot is in the next sector, or 16 bytes behind
pub slot_new : (m : Medium) (s : ℕ) → 1 ≤ s → s % 8 ≡ 0 → (geometry_of m).start (361 + s / 8) ≡ (geometry_of m).start (361 + (s - 1) / 8) + m.density.size
slot_new m s a e =
    let k : 361 + s / 8 ≡ 361 + (s - 1) / 8 + 1 = omega arith in
    rw k (start-after m (361 + (s - 1) / 8) (omega arith))

pub slot_same : (m : Medium) (s : ℕ) → 1 ≤ s → 0 < s % 8 → (geometry_of m).start (361 + s / 8) ≡ (geometry_of m).start (361 + (s - 1) / 8)
slot_same m s a e = let k : 361 + s / 8 ≡ 361 + (s - 1) / 8 = omega arith in rw k
