-- A test of some channel of a table: by the list of the channels, and by their numbers.
use Rattle.std.proofs.Common.{◌≡◌, Bool, ◌||◌, ℕ, suc, zero, List, [], ◌∷◌, length, get_or, refl, sym, ◌∙◌}
use Rattle.std.specs.List.{list_any, fold}
use Rattle.std.proofs.Math.Bool.{or_assoc, or_comm, or-false}
use Rattle.layout.specs.declared.Channel.{Channel}
use Rattle.layout.specs.declared.State.TheVariants.{Closed}
use Rattle.layout.specs.Basics.{any_below}
use Rattle.layout.specs.Channels.{channel}

-- the first of several numbers tested before the others
any_first : (p : ℕ → Bool) (n : ℕ) → any_below (suc n) p ≡ (p 0 || any_below n (λ i. p (suc i)))
unfolding any_below
any_first p zero = refl
any_first p (suc n) = rw (any_first p n, ← or_assoc (p (suc n)) (p 0) _, or_comm (p (suc n)) (p 0), or_assoc)

module _ (p : Channel → Bool) where
  any_in : (l : List Channel) → list_any p l ≡ any_below (length l) (λ i. p (get_or l i (channel Closed)))
  unfolding any_below
  any_in [] = refl
  any_in (c ∷ l) = rw (any_first (λ i. p (get_or (c ∷ l) i (channel Closed))) (length l), any_in l)

  pub any_of : (l : List Channel) (n : ℕ) → length l ≡ n → list_any p l ≡ any_below n (λ i. p (get_or l i (channel Closed)))
  any_of l n e = rw (← e) (any_in l)

  -- one by one, with what was found so far
  pub any_folded : (l : List Channel) (a : Bool) → fold (λ b c. b || p c) a l ≡ (a || list_any p l)
  any_folded [] a = sym (or-false a)
  any_folded (c ∷ l) a = any_folded l (a || p c) ∙ or_assoc a (p c) (list_any p l)
