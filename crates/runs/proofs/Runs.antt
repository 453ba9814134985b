-- Runs of bytes: parts of a copy, and what it writes to a sector or reads from it.
use mathlib.Core.List.{List, [], ◌∷◌}
use mathlib.Core.Path.{◌≡◌, refl, ap, ◌∙◌}
use Prim.Native.Nat.{ℕ, suc, zero, ◌+◌, ◌≤◌, ◌<◌}
use native.Mathlib.Nat.{add-zero}
use native.Mathlib.Omega.{arith}
use lib.ListN.{length, get_or, take, drop, set, length-set}
use lib.Seq.{sets, set-set, set_comm}
use Rattle.layout.specs.Image.{Geometry, view, write_run}
use Rattle.layout.proofs.Image.{Lawful, view_set}

-- the bytes up to one more, stored, are that one stored behind the others
pub sets_last : (xs l : List ℕ) (i n : ℕ) → n < length xs → set (sets l i (take n xs)) (i + n) (get_or xs n 0) ≡ sets l i (take (suc n) xs)
sets_last [] l i n h = absurd (omega arith)
sets_last (x ∷ xs) l i zero h = rw add-zero
sets_last (x ∷ xs) l i (suc n) h = let e : i + suc n ≡ suc i + n = omega arith in rw e (sets_last xs (set l i x) (suc i) n (omega arith))

-- a store before a run is no part of it
set_sets : (xs l : List ℕ) (i j x : ℕ) → i < j → set (sets l j xs) i x ≡ sets (set l i x) j xs
set_sets [] l i j x h = refl
set_sets (y ∷ xs) l i j x h = set_sets xs (set l j y) i (suc j) x (omega arith) ∙ ap (λ t. sets t (suc j) xs) (set_comm l j i y x (λ e. omega arith))

-- a run stored over some first bytes of it is that run
sets_again : (xs l : List ℕ) (i a : ℕ) → sets (sets l i (take a xs)) i xs ≡ sets l i xs
sets_again [] l i zero = refl
sets_again [] l i (suc a) = refl
sets_again (x ∷ xs) l i zero = refl
sets_again (x ∷ xs) l i (suc a) =
    ap (λ t. sets t (suc i) xs) (set_sets (take a xs) (set l i x) i (suc i) x (omega arith) ∙ ap (λ t. sets t (suc i) (take a xs)) (set-set l i x x))
    ∙ sets_again xs (set l i x) (suc i) a

-- and its rest from some place within them on makes it whole
pub sets_over : (xs l : List ℕ) (i n a : ℕ) → n ≤ a → sets (sets l i (take a xs)) (i + n) (drop n xs) ≡ sets l i xs
sets_over xs l i zero a h = rw (add-zero i) (sets_again xs l i a)
sets_over xs l i (suc n) zero h = absurd (omega arith)
sets_over [] l i (suc n) (suc a) h = refl
sets_over (x ∷ xs) l i (suc n) (suc a) h = let e : i + suc n ≡ suc i + n = omega arith in rw e (sets_over xs (set l i x) (suc i) n a (omega arith))

module _ (g : Geometry) (lawful : Lawful g) where
  -- bytes stored in the image, within one sector, are bytes of that sector written
  pub view_sets : (xs l : List ℕ) (k j : ℕ) → ((i : ℕ) → i < length xs → j + i < g.size k) → g.start k + j + length xs ≤ length l
      → view g (sets l (g.start k + j) xs) ≡ write_run (view g l) k j xs
  unfolding write_run
  view_sets [] l k j f h = refl
  view_sets (x ∷ xs) l k j f h =
      let here : j < g.size k = rw (add-zero j) at (f 0 (omega arith)) in
      let e : suc (g.start k + j) ≡ g.start k + (j + 1) = omega arith in
      rw e (view_sets xs (set l (g.start k + j) x) k (j + 1) (λ i q. let d : j + 1 + i ≡ j + suc i = omega arith in rw d (f (suc i) (omega arith))) (rw length-set (omega arith))
      ∙ ap (λ d. write_run d k (j + 1) xs) (view_set g lawful l k j x here (omega arith)))
