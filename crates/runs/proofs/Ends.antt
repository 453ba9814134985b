-- The search for the end of a line: several bytes passed over at once, and within a sector.
use mathlib.Core.Bool.{Bool, true, false}
use mathlib.Core.List.{List}
use mathlib.Core.Path.{◌≡◌, refl, ap, ◌∙◌}
use Prim.Native.Nat.{ℕ, suc, zero, ◌+◌, ◌-◌, ◌≤◌}
use native.Mathlib.Nat.{add-zero, zero-add}
use native.Mathlib.Omega.{arith}
use lib.Dec.{eqb}
use lib.ListN.{get_or}
use Rattle.layout.specs.Basics.{first_from, any_below}
use Rattle.layout.specs.Image.{Sector, Geometry, view}
use Rattle.layout.specs.File.{end_of_line, ends_line}
use Rattle.layout.proofs.Image.{view_byte}
use Rattle.layout.proofs.Logic.{or_no}

-- where none of n bytes ends a line, the search goes on behind them
first_past : (r : Sector) (n m i : ℕ) → any_below n (λ j. ends_line r (i + j)) ≡ false → first_from (ends_line r) (n + m) i ≡ first_from (ends_line r) m (i + n)
unfolding any_below first_from
first_past r zero m i e = rw (zero-add m, add-zero i)
first_past r (suc n) m i e =
    let (here, before) = or_no (ends_line r (i + n)) (any_below n (λ j. ends_line r (i + j))) e in
    let q : suc n + m ≡ n + suc m = omega arith in
    let past : i + n + 1 ≡ i + suc n = omega arith in
    rw q (first_past r n (suc m) i before ∙ rw (here, first_from) (ap (first_from (ends_line r) m) past))

pub first-behind : (r : Sector) (end i : ℕ) → i + 16 ≤ end → any_below 16 (λ j. ends_line r (i + j)) ≡ false → first_from (ends_line r) (end - i) i ≡ first_from (ends_line r) (end - (i + 16)) (i + 16)
first-behind r end i h e = let q : end - i ≡ 16 + (end - (i + 16)) = omega arith in rw q (first_past r 16 (end - (i + 16)) i e)

-- the place within a sector is behind the sector's start in the image
pub first-within : (g : Geometry) (l : List ℕ) (k n j : ℕ) → j + n ≤ g.size k → first_from (ends_line (λ i. get_or l i 0)) n (g.start k + j) ≡ g.start k + first_from (ends_line (view g l k)) n j
unfolding first_from ends_line
first-within g l k zero j h = refl
first-within g l k (suc n) j h = go (eqb end_of_line (get_or l (g.start k + j) 0)) refl (view_byte g l k j (omega arith)) (first-within g l k n (j + 1) (omega arith))
  where
    go : (b : Bool) → eqb end_of_line (get_or l (g.start k + j) 0) ≡ b → view g l k j ≡ get_or l (g.start k + j) 0
        → first_from (ends_line (λ i. get_or l i 0)) n (g.start k + (j + 1)) ≡ g.start k + first_from (ends_line (view g l k)) n (j + 1)
        → first_from (ends_line (λ i. get_or l i 0)) (suc n) (g.start k + j) ≡ g.start k + first_from (ends_line (view g l k)) (suc n) j
    go true e v r = rw (v, e, first_from)
    go false e v r = let q : g.start k + j + 1 ≡ g.start k + (j + 1) = omega arith in rw (v, e, first_from, q) r
