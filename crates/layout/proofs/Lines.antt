-- A list through its first x, and the part behind it.
use mathlib.Core.Bool.{Bool, true, false, ◌||◌, true≢false}
use mathlib.Core.List.{List, [], ◌∷◌, ◌++◌}
use mathlib.Core.Path.{◌≡◌, refl, sym, ap}
use Prim.Native.Nat.{ℕ, suc, zero, ◌≤◌, ◌<◌}
use native.Mathlib.Omega.{arith}
use lib.Dec.{eqb}
use lib.ListN.{length, take, drop}
use borrow.Author.Tests.{eq-eqb}
use Rattle.layout.specs.Basics.{if, member, through, behind}

module _ (x : ℕ) where
  -- the two parts are the list
  pub through-behind : (l : List ℕ) → through x l ++ behind x l ≡ l
  unfolding through behind
  through-behind [] = refl
  through-behind (y ∷ l) = go (eqb x y) (through-behind l)
    where
      go : (b : Bool) → through x l ++ behind x l ≡ l → (y ∷ if b [] (through x l)) ++ if b l (behind x l) ≡ y ∷ l
      go true e = refl
      go false e = ap (λ r. y ∷ r) e

  pub through_length : (l : List ℕ) → length (through x l) ≤ length l
  unfolding through
  through_length [] = omega arith
  through_length (y ∷ l) = go (eqb x y) (through_length l)
    where
      go : (b : Bool) → length (through x l) ≤ length l → length (y ∷ if b [] (through x l)) ≤ length (y ∷ l)
      go true h = omega arith
      go false h = omega arith

  -- where x is not in the list, the first part is all of it
  pub through_all : (l : List ℕ) → member x l ≡ false → through x l ≡ l
  unfolding through member
  through_all [] h = refl
  through_all (y ∷ l) h = go (eqb x y) h (through_all l)
    where
      go : (b : Bool) → (b || member x l) ≡ false → (member x l ≡ false → through x l ≡ l) → y ∷ if b [] (through x l) ≡ y ∷ l
      go true h f = absurd (true≢false h)
      go false h f = ap (λ r. y ∷ r) (f h)

  pub behind-none : (l : List ℕ) → member x l ≡ false → behind x l ≡ []
  unfolding behind member
  behind-none [] h = refl
  behind-none (y ∷ l) h = go (eqb x y) h (behind-none l)
    where
      go : (b : Bool) → (b || member x l) ≡ false → (member x l ≡ false → behind x l ≡ []) → if b l (behind x l) ≡ []
      go true h f = absurd (true≢false h)
      go false h f = f h

  -- where it is among the first n, the first part has at most n
  pub through-within : (n : ℕ) (l : List ℕ) → member x (take n l) ≡ true → length (through x l) ≤ n
  unfolding through member
  through-within zero l h = absurd (true≢false (sym h))
  through-within (suc n) [] h = absurd (true≢false (sym h))
  through-within (suc n) (y ∷ l) h = go (eqb x y) h (through-within n l)
    where
      go : (b : Bool) → (b || member x (take n l)) ≡ true → (member x (take n l) ≡ true → length (through x l) ≤ n) → length (y ∷ if b [] (through x l)) ≤ suc n
      go true h f = omega arith
      go false h f = let k = f h in omega arith

  -- where it is not, the first n of the first part are the first n of the list, and what is behind x is behind it in the rest
  pub through_beyond : (n : ℕ) (l : List ℕ) → member x (take n l) ≡ false → take n (through x l) ≡ take n l
  unfolding through member
  through_beyond zero l h = refl
  through_beyond (suc n) [] h = refl
  through_beyond (suc n) (y ∷ l) h = go (eqb x y) h (through_beyond n l)
    where
      go : (b : Bool) → (b || member x (take n l)) ≡ false → (member x (take n l) ≡ false → take n (through x l) ≡ take n l) → take (suc n) (y ∷ if b [] (through x l)) ≡ take (suc n) (y ∷ l)
      go true h f = absurd (true≢false h)
      go false h f = ap (λ r. y ∷ r) (f h)

  pub behind_beyond : (n : ℕ) (l : List ℕ) → member x (take n l) ≡ false → behind x (drop n l) ≡ behind x l
  unfolding behind member
  behind_beyond zero l h = refl
  behind_beyond (suc n) [] h = refl
  behind_beyond (suc n) (y ∷ l) h = go (eqb x y) h (behind_beyond n l)
    where
      go : (b : Bool) → (b || member x (take n l)) ≡ false → (member x (take n l) ≡ false → behind x (drop n l) ≡ behind x l) → behind x (drop n l) ≡ if b l (behind x l)
      go true h f = absurd (true≢false h)
      go false h f = f h

  -- no more than the first part
  pub through_prefix : (n : ℕ) (l : List ℕ) → n ≤ length (through x l) → take n (through x l) ≡ take n l
  unfolding through
  through_prefix zero l h = refl
  through_prefix (suc n) [] h = refl
  through_prefix (suc n) (y ∷ l) h = go (eqb x y) h (through_prefix n l)
    where
      go : (b : Bool) → suc n ≤ length (y ∷ if b [] (through x l)) → (n ≤ length (through x l) → take n (through x l) ≡ take n l) → take (suc n) (y ∷ if b [] (through x l)) ≡ take (suc n) (y ∷ l)
      go true h f = let e : n ≡ 0 = omega arith in rw e
      go false h f = ap (λ r. y ∷ r) (f (omega arith))

  -- of two lists: where x is in the first, it goes through that, otherwise on through the second
  pub through-first : (l m : List ℕ) → member x l ≡ true → through x (l ++ m) ≡ through x l
  unfolding through member
  through-first [] m h = absurd (true≢false (sym h))
  through-first (y ∷ l) m h = go (eqb x y) h (through-first l m)
    where
      go : (b : Bool) → (b || member x l) ≡ true → (member x l ≡ true → through x (l ++ m) ≡ through x l) → y ∷ if b [] (through x (l ++ m)) ≡ y ∷ if b [] (through x l)
      go true h f = refl
      go false h f = ap (λ r. y ∷ r) (f h)

  pub through-second : (l m : List ℕ) → member x l ≡ false → through x (l ++ m) ≡ l ++ through x m
  unfolding through member
  through-second [] m h = refl
  through-second (y ∷ l) m h = go (eqb x y) h (through-second l m)
    where
      go : (b : Bool) → (b || member x l) ≡ false → (member x l ≡ false → through x (l ++ m) ≡ l ++ through x m) → y ∷ if b [] (through x (l ++ m)) ≡ y ∷ (l ++ through x m)
      go true h f = absurd (true≢false h)
      go false h f = ap (λ r. y ∷ r) (f h)

  -- x behind a list without it
  pub behind-second : (l m : List ℕ) → member x l ≡ false → behind x (l ++ m) ≡ behind x m
  unfolding behind member
  behind-second [] m h = refl
  behind-second (y ∷ l) m h = go (eqb x y) h (behind-second l m)
    where
      go : (b : Bool) → (b || member x l) ≡ false → (member x l ≡ false → behind x (l ++ m) ≡ behind x m) → if b (l ++ m) (behind x (l ++ m)) ≡ behind x m
      go true h f = absurd (true≢false h)
      go false h f = f h

  pub member-within : (n : ℕ) (l m : List ℕ) → length l < n → member x (take n (l ++ x ∷ m)) ≡ true
  unfolding member
  member-within zero l m h = absurd (omega arith)
  member-within (suc n) [] m h = rw (eq-eqb x x refl)
  member-within (suc n) (y ∷ l) m h = go (eqb x y) (member-within n l m (omega arith))
    where
      go : (b : Bool) → member x (take n (l ++ x ∷ m)) ≡ true → (b || member x (take n (l ++ x ∷ m))) ≡ true
      go true e = refl
      go false e = e
