-- Where the first three sectors lie, and a sector read or written as a whole.
use mathlib.Core.List.{List, append-nil}
use mathlib.Core.Path.{◌≡◌, sym, ap, ◌∙◌}
use Prim.Native.Nat.{ℕ, ◌+◌, ◌-◌, ◌*◌, ◌≤◌, ◌<◌}
use native.Mathlib.Nat.{zero-add}
use native.Mathlib.Omega.{arith}
use lib.ListN.{length, take, drop}
use lib.Seq.{sets, sets-eq, drop-length}
use Rattle.layout.specs.declared.density.Medium.{Medium}
use Rattle.layout.specs.Basics.{values_from}
use Rattle.layout.specs.Image.{Geometry, Regular, geometry_of, view, write_run}
use Rattle.layout.proofs.Image.{Lawful, start_boot, size_boot, values_length}
use Rattle.layout.proofs.Run.{part_values}
use Rattle.runs.proofs.Runs.{view_sets}

-- a list with all its elements stored anew is those
pub sets_whole : (l vs : List ℕ) → length vs ≡ length l → sets l 0 vs ≡ vs
sets_whole l vs e = sets-eq vs l 0 (omega arith) ∙ rw (zero-add (length vs), e, drop-length l) (append-nil vs)

-- the first three sectors start here, and end in the image
pub starts_boot : (m : Medium) → Regular m → (k : ℕ) → 1 ≤ k → k < 4 → let i = m.header + (k - 1) * 128 in (i ≡ (geometry_of m).start k) × (i + (geometry_of m).size k ≤ (geometry_of m).total)
starts_boot m r k a b =
    let x = start_boot m.header m.density k a b in
    let y = size_boot m.header m.density k a b in
    (omega arith, omega arith)

module _ (g : Geometry) (w : Lawful g) (l b : List ℕ) (k i : ℕ) (at : i ≡ g.start k) (size : length b ≡ g.size k) (inside : i + g.size k ≤ length l) where
  -- a sector's part of the image, stored over a buffer of its length
  pub read_whole : (n : ℕ) → n ≡ g.size k → sets b 0 (take n (drop i l)) ≡ values_from (view g l k) (g.size k) 0
  read_whole n e =
      let z : i ≡ g.start k + 0 = omega arith in
      let p : take n (drop i l) ≡ values_from (view g l k) (g.size k) 0 = rw (e, z) (part_values g (g.size k) l k 0 (λ j h. omega arith) (omega arith)) in
      ap (sets b 0) p ∙ sets_whole b _ (values_length (view g l k) (g.size k) 0 ∙ sym size)

  -- and the buffer stored there
  pub write_whole : view g (sets l i b) ≡ write_run (view g l) k 0 b
  write_whole = let z : i ≡ g.start k + 0 = omega arith in rw z (view_sets g w b l k 0 (λ j h. omega arith) (omega arith))
