-- The bytes that a put record adds, by the place of the first $9B of the lent ones.
use mathlib.Core.Bool.{Bool, true, false}
use mathlib.Core.List.{List, [], ◌∷◌, ◌++◌}
use mathlib.Core.Path.{◌≡◌, refl, ap}
use Prim.Native.Nat.{ℕ, suc, zero, ◌+◌, ◌≤◌, ◌<◌}
use native.Mathlib.Omega.{arith}
use lib.Dec.{eqb}
use lib.ListN.{length, get_or, take}
use Rattle.layout.specs.Basics.{first_from, through}
use Rattle.layout.specs.File.{end_of_line, ends_line}

-- the place of the first $9B of a list, or the one behind its end
abbrev pub line_end : List ℕ → ℕ
line_end l = first_from (ends_line (λ j. get_or l j 0)) (length l) 0

module _ (x : ℕ) (l : List ℕ) where
  -- behind a byte more each is one place further
  first_further : (n k : ℕ) → first_from (ends_line (λ j. get_or (x ∷ l) j 0)) n (suc k) ≡ suc (first_from (ends_line (λ j. get_or l j 0)) n k)
  unfolding first_from ends_line
  first_further zero k = refl
  first_further (suc n) k = go (eqb end_of_line (get_or l k 0)) refl (first_further n (k + 1))
    where
      go : (b : Bool) → eqb end_of_line (get_or l k 0) ≡ b → first_from (ends_line (λ j. get_or (x ∷ l) j 0)) n (suc (k + 1)) ≡ suc (first_from (ends_line (λ j. get_or l j 0)) n (k + 1))
          → first_from (ends_line (λ j. get_or (x ∷ l) j 0)) (suc n) (suc k) ≡ suc (first_from (ends_line (λ j. get_or l j 0)) (suc n) k)
      go true e r = rw (e, first_from)
      go false e r = let q : suc k + 1 ≡ suc (k + 1) = omega arith in rw (e, first_from, q) r

  -- the first byte is it, or it is one place further than in the rest
  ends-here : eqb end_of_line x ≡ true → line_end (x ∷ l) ≡ 0
  unfolding first_from ends_line
  ends-here e = rw (e, first_from)

  ends_further : eqb end_of_line x ≡ false → line_end (x ∷ l) ≡ suc (line_end l)
  unfolding first_from ends_line
  ends_further e = rw (e, first_from) (first_further (length l) 0)

-- where the list has one, its bytes through that are sent; otherwise all of them, and what is behind them
pub sent-ends : (l m : List ℕ) → line_end l < length l → through end_of_line (l ++ m) ≡ take (suc (line_end l)) l
unfolding through
sent-ends [] m h = absurd (omega arith)
sent-ends (x ∷ l) m h = go (eqb end_of_line x) refl (sent-ends l m)
  where
    go : (b : Bool) → eqb end_of_line x ≡ b → (line_end l < length l → through end_of_line (l ++ m) ≡ take (suc (line_end l)) l) → through end_of_line ((x ∷ l) ++ m) ≡ take (suc (line_end (x ∷ l))) (x ∷ l)
    go true e r = rw (ends-here x l e, e)
    go false e r = let q = ends_further x l e in rw (q, e) (ap (λ y. x ∷ y) (r (omega arith)))

pub sent_open : (l m : List ℕ) → length l ≤ line_end l → through end_of_line (l ++ m) ≡ l ++ through end_of_line m
unfolding through
sent_open [] m h = refl
sent_open (x ∷ l) m h = go (eqb end_of_line x) refl (sent_open l m)
  where
    go : (b : Bool) → eqb end_of_line x ≡ b → (length l ≤ line_end l → through end_of_line (l ++ m) ≡ l ++ through end_of_line m) → through end_of_line ((x ∷ l) ++ m) ≡ (x ∷ l) ++ through end_of_line m
    go true e r = let q = ends-here x l e in absurd (omega arith)
    go false e r = let q = ends_further x l e in rw e (ap (λ y. x ∷ y) (r (omega arith)))
