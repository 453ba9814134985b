-- Records of five words: written, and read back after a call.
use mathlib.Core.Bool.{Bool, true, false, ◌&&◌, ◌||◌, and-true, and_comm}
use mathlib.Core.List.{List, [], ◌∷◌}
use mathlib.Core.Logic.{◌≢◌}
use mathlib.Core.Path.{◌≡◌, refl, sym, ap, ◌∙◌}
use Prim.Native.Nat.{ℕ, suc, ◌+◌, ◌≤◌}
use native.Mathlib.Omega.{arith}
use lib.Dec.{eqb}
use lib.ListN.{length, get_or, set}
use lib.Seq.{ext_get_or}
use borrow.Author.Tests.{eqb-true, eq-eqb}
use Rattle.layout.specs.declared.State.{State}
use Rattle.layout.specs.declared.State.TheVariants.{Closed, Reading, Writing}
use Rattle.layout.specs.Basics.{if, all_below}
use Rattle.layout.proofs.Logic.{and_left, and_right, and_both}
use Rattle.layout.proofs.Search.{all_at, all_of}
use Rattle.words.specs.Words.{in_force, is_channel, state_in, words_of, same_word, same_state, channel_after}

-- a list of five has the five words that are read from it
pub five : (ws : List ℕ) → length ws ≡ 5 → get_or ws 0 0 ∷ get_or ws 1 0 ∷ get_or ws 2 0 ∷ get_or ws 3 0 ∷ get_or ws 4 0 ∷ [] ≡ ws
five [] h = absurd (omega arith)
five (a ∷ []) h = absurd (omega arith)
five (a ∷ b ∷ []) h = absurd (omega arith)
five (a ∷ b ∷ c ∷ []) h = absurd (omega arith)
five (a ∷ b ∷ c ∷ d ∷ []) h = absurd (omega arith)
five (a ∷ b ∷ c ∷ d ∷ e ∷ []) h = refl
five (a ∷ b ∷ c ∷ d ∷ e ∷ f ∷ ws) h = absurd (omega arith)

-- all five words of a list written are the words written
pub five_set : (ws v : List ℕ) → length ws ≡ 5 → length v ≡ 5
    → set (set (set (set (set ws 0 (get_or v 0 0)) 1 (get_or v 1 0)) 2 (get_or v 2 0)) 3 (get_or v 3 0)) 4 (get_or v 4 0) ≡ v
five_set ws v h k = rw (← five ws h) (five v k)

-- one number more
pub all_more : (p : ℕ → Bool) (n : ℕ) (a b : Bool) → a ≡ all_below n p → b ≡ p n → (a && b) ≡ all_below (n + 1) p
unfolding all_below
all_more p n a b e f = let s : n + 1 ≡ suc n = omega arith in rw (s, e, f) (and_comm (all_below n p) (p n))

-- the words of a state are five, and say that state
pub words_five : (st : State) → length (words_of st) ≡ 5
unfolding words_of
words_five Closed = refl
words_five (Reading s k o l) = refl
words_five (Writing s p) = refl

pub words-state : (st : State) → state_in (words_of st) ≡ st
unfolding words_of state_in
words-state Closed = refl
words-state (Reading s k o l) = refl
words-state (Writing s p) = refl

-- states that test as the same are the same
pub same_is : (a b : State) → same_state a b ≡ true → a ≡ b
unfolding same_state same_word
same_is a b e = sym (words-state a) ∙ rw lists (words-state b)
  where
    lists : words_of a ≡ words_of b
    lists = ext_get_or 0 (words_of a) (words_of b) (words_five a ∙ sym (words_five b)) (λ j h. let n = words_five a in eqb-true (get_or (words_of a) j 0) (get_or (words_of b) j 0) (all_at (same_word (words_of a) (words_of b)) 5 e j (omega arith)))

pub is_same : (a : State) → same_state a a ≡ true
unfolding same_state same_word
is_same a = all_of (same_word (words_of a) (words_of a)) 5 (λ j _. eq-eqb (get_or (words_of a) j 0) (get_or (words_of a) j 0) refl)

-- a record whose state stays keeps all its words
pub record_keeps : (ws : List ℕ) (st : State) → state_in ws ≡ st → channel_after ws st ≡ ws
unfolding channel_after
record_keeps ws st e = rw (e, is_same st)

-- states of different kinds test as different
kinds_differ : (a b : State) → get_or (words_of a) 0 0 ≢ get_or (words_of b) 0 0 → same_state a b ≡ false
unfolding same_state same_word
kinds_differ a b n = go (same_state a b) refl
  where
    go : (q : Bool) → same_state a b ≡ q → same_state a b ≡ false
    go true e = absurd (n (eqb-true (get_or (words_of a) 0 0) (get_or (words_of b) 0 0) (all_at (same_word (words_of a) (words_of b)) 5 e 0 (omega arith))))
    go false e = e

-- two states that write are the same where slot and last sector are
same-writing : (x y s p : ℕ) → same_state (Writing x y) (Writing s p) ≡ (eqb x s && eqb y p)
unfolding same_state same_word words_of all_below
same-writing x y s p = rw (and-true (eqb x s)) (and_comm (eqb y p) (eqb x s))

-- the state that words say, by the tests whether their kind is reading and whether it is writing
abbrev state_by : List ℕ → Bool → Bool → State
state_by ws a b = if a (Reading (get_or ws 1 0) (get_or ws 2 0) (get_or ws 3 0) (get_or ws 4 0)) (if b (Writing (get_or ws 1 0) (get_or ws 2 0)) Closed)

-- the record that a call leaves closed: written where it was reading or writing
pub after-closed : (ws : List ℕ) (opened : Bool) → (eqb (get_or ws 0 0) 1 || eqb (get_or ws 0 0) 2) ≡ opened → channel_after ws Closed ≡ if opened (words_of Closed) ws
unfolding channel_after state_in words_of
after-closed ws opened e = rw (← e) (go (eqb (get_or ws 0 0) 1) (eqb (get_or ws 0 0) 2))
  where
    go : (a b : Bool) → if (same_state (state_by ws a b) Closed) ws (words_of Closed) ≡ if (a || b) (words_of Closed) ws
    go true b = rw (kinds_differ (state_by ws true b) Closed (λ e. omega arith))
    go false true = rw (kinds_differ (state_by ws false true) Closed (λ e. omega arith))
    go false false = rw (is_same Closed)

-- reading: the words of that state, which are those before where the state is the same
pub after-reading : (ws : List ℕ) (s k o l : ℕ) → length ws ≡ 5 → channel_after ws (Reading s k o l) ≡ words_of (Reading s k o l)
unfolding channel_after state_in words_of
after-reading ws s k o l h = go (eqb (get_or ws 0 0) 1) (eqb (get_or ws 0 0) 2) refl
  where
    same : get_or ws 0 0 ≡ 1 → (q : Bool) → same_state (state_by ws true true) (Reading s k o l) ≡ q → if q ws (words_of (Reading s k o l)) ≡ words_of (Reading s k o l)
    same n true e = sym (rw n at (five ws h)) ∙ ap words_of (same_is (state_by ws true true) (Reading s k o l) e)
    same n false e = refl

    go : (a b : Bool) → eqb (get_or ws 0 0) 1 ≡ a → if (same_state (state_by ws a b) (Reading s k o l)) ws (words_of (Reading s k o l)) ≡ words_of (Reading s k o l)
    go true b e = same (eqb-true (get_or ws 0 0) 1 e) (same_state (state_by ws true b) (Reading s k o l)) refl
    go false true e = rw (kinds_differ (state_by ws false true) (Reading s k o l) (λ e. omega arith))
    go false false e = rw (kinds_differ Closed (Reading s k o l) (λ e. omega arith))

-- writing: written where kind, slot or last sector is another
pub after-writing : (ws : List ℕ) (s p : ℕ) (same : Bool) → (eqb (get_or ws 0 0) 2 && eqb (get_or ws 1 0) s && eqb (get_or ws 2 0) p) ≡ same → channel_after ws (Writing s p) ≡ if same ws (words_of (Writing s p))
unfolding channel_after state_in words_of
after-writing ws s p same e = rw (← e) (go (eqb (get_or ws 0 0) 1) (eqb (get_or ws 0 0) 2) refl refl)
  where
    go : (a b : Bool) → eqb (get_or ws 0 0) 1 ≡ a → eqb (get_or ws 0 0) 2 ≡ b
        → if (same_state (state_by ws a b) (Writing s p)) ws (words_of (Writing s p)) ≡ if (b && eqb (get_or ws 1 0) s && eqb (get_or ws 2 0) p) ws (words_of (Writing s p))
    go true true e f = let m = eqb-true (get_or ws 0 0) 1 e in let n = eqb-true (get_or ws 0 0) 2 f in absurd (omega arith)
    go true false e f = rw (kinds_differ (state_by ws true false) (Writing s p) (λ e. omega arith))
    go false true e f = rw (same-writing (get_or ws 1 0) (get_or ws 2 0) s p)
    go false false e f = rw (kinds_differ Closed (Writing s p) (λ e. omega arith))

-- the record after a call says the state that the call leaves, and has five words
module _ (ws : List ℕ) (st : State) where
  pub record_says : state_in (channel_after ws st) ≡ st
  unfolding channel_after
  record_says = go (same_state (state_in ws) st) refl
    where
      go : (b : Bool) → same_state (state_in ws) st ≡ b → state_in (channel_after ws st) ≡ st
      go true e = rw e (same_is (state_in ws) st e)
      go false e = rw e (words-state st)

  pub record_five : length ws ≡ 5 → length (channel_after ws st) ≡ 5
  unfolding channel_after
  record_five h = go (same_state (state_in ws) st) refl
    where
      go : (b : Bool) → same_state (state_in ws) st ≡ b → length (channel_after ws st) ≡ 5
      go true e = rw e h
      go false e = rw e (words_five st)

  -- its kind is in force again
  pub kind-after : in_force (get_or ws 0 0) ≡ true → in_force (get_or (channel_after ws st) 0 0) ≡ true
  unfolding channel_after words_of in_force
  kind-after h = go (same_state (state_in ws) st) refl st refl
    where
      go : (b : Bool) → same_state (state_in ws) st ≡ b → (q : State) → st ≡ q → in_force (get_or (channel_after ws st) 0 0) ≡ true
      go true e q p = rw e h
      go false e Closed p = rw (e, p)
      go false e (Reading s k o l) p = rw (e, p)
      go false e (Writing s k) p = rw (e, p)

-- a record has five words
pub record_length : (ws : List ℕ) → is_channel ws ≡ true → length ws ≡ 5
unfolding is_channel
record_length ws e = eqb-true (length ws) 5 (and_left (eqb (length ws) 5) (in_force (get_or ws 0 0)) e)

-- after a call it is a record again
pub record_again : (ws : List ℕ) (st : State) → is_channel ws ≡ true → is_channel (channel_after ws st) ≡ true
unfolding is_channel
record_again ws st e =
    and_both (eqb (length (channel_after ws st)) 5) (in_force (get_or (channel_after ws st) 0 0)) (eq-eqb (length (channel_after ws st)) 5 (record_five ws st (record_length ws e)))
    (kind-after ws st (and_right (eqb (length ws) 5) (in_force (get_or ws 0 0)) e))

-- the sectors yet to enter of a state
abbrev pub left_of : State → ℕ
left_of Closed = 0
left_of (Reading s k o l) = l
left_of (Writing s p) = 0

-- of a record they are its last word, or none
pub left_word : (ws : List ℕ) → left_of (state_in ws) ≤ get_or ws 4 0
unfolding state_in
left_word ws = go (eqb (get_or ws 0 0) 1) (eqb (get_or ws 0 0) 2)
  where
    go : (a b : Bool) → left_of (state_by ws a b) ≤ get_or ws 4 0
    go true b = omega arith
    go false true = omega arith
    go false false = omega arith
