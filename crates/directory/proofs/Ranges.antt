-- A test of each number of a range: by the list of the numbers, and in two parts.
use Rattle.std.proofs.Common.{◌≡◌, Bool, ◌&&◌, ℕ, suc, zero, ◌+◌, refl, sym, ap, ◌∙◌}
use Rattle.std.specs.List.{list_all, range_with_len}
use mathlib.Core.Bool.{and-true, and_assoc, and_comm}
use native.Mathlib.Nat.{add-zero, add-suc, zero-add, add_assoc}
use native.Mathlib.Numerals.{one-add}
use Rattle.layout.specs.Basics.{all_below}

pub all_split : (p : ℕ → Bool) (m n : ℕ) → all_below (m + n) p ≡ (all_below m p && all_below n (λ j. p (m + j)))
unfolding all_below
all_split p m zero = rw (add-zero m) (sym (and-true (all_below m p)))
all_split p m (suc n) =
    let x = p (m + n) in
    let y = all_below m p in
    let z = all_below n (λ j. p (m + j)) in
    rw (add-suc m n, all_split p m n) (sym (and_assoc x y z) ∙ ap (λ b. b && z) (and_comm x y) ∙ and_assoc y x z)

all_listed : (p q : ℕ → Bool) (a n : ℕ) → ((j : ℕ) → p (a + j) ≡ q j) → list_all p (range_with_len a n) ≡ all_below n q
unfolding all_below
all_listed p q a zero f = refl
all_listed p q a (suc n) f =
    let rest = λ (j : ℕ). q (1 + j) in
    let first : p a ≡ q 0 = ap p (sym (add-zero a)) ∙ f 0 in
    rw (first, all_listed p rest (a + 1) n (λ j. ap p (add_assoc a 1 j) ∙ f (1 + j))) (ap (λ b. b && all_below n rest) (sym (and-true (q 0))) ∙ sym (all_split q 1 n) ∙ ap (λ m. all_below m q) (one-add n))

pub all_range : (p : ℕ → Bool) (n : ℕ) → list_all p (range_with_len 0 n) ≡ all_below n p
all_range p n = all_listed p p 0 n (λ j. ap p (zero-add j))
