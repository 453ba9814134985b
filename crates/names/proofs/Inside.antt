-- A name lies inside its text.
use mathlib.Core.Bool.{Bool, true, false, true≢false, ◌&&◌}
use mathlib.Core.List.{List}
use mathlib.Core.Path.{◌≡◌, refl, sym, ◌∙◌}
use Prim.Native.Nat.{ℕ, ◌+◌, ◌≤◌, ◌<◌}
use native.Mathlib.Decide.{dec_lt}
use native.Mathlib.Omega.{arith}
use lib.Dec.{eqb}
use lib.ListN.{length}
use borrow.Author.Tests.{lt-ltb, le-ltb}
use Rattle.layout.specs.Basics.{if, first_from}
use Rattle.layout.specs.Names.{char, letter, digit, plain, not_plain, name_end, whole_end, well_formed}
use Rattle.layout.proofs.Search.{first-before, first-least}
use Rattle.layout.proofs.Text.{char-inside, char_past, passes_inside}

module _ (text : List ℕ) where
  past : not_plain text (length text) ≡ true
  unfolding not_plain plain letter digit
  past = rw (char_past text (length text) (omega arith))

  -- letters and digits end inside the text, since 256 is none
  end_inside : (n k : ℕ) → k ≤ length text → first_from (not_plain text) n k ≤ length text
  end_inside n k h = go (dec_lt (length text) (first_from (not_plain text) n k))
    where
      go : Dec (length text < first_from (not_plain text) n k) → first_from (not_plain text) n k ≤ length text
      go (no l) = omega arith
      go (yes l) = absurd (true≢false (sym past ∙ first-before (not_plain text) n k (length text) h l))

  module _ (i : ℕ) where
    pub name_inside : letter (char text i) ≡ true → name_end text i ≤ length text
    unfolding name_end letter
    name_inside e = let h = passes_inside text i letter refl e in end_inside 8 i (omega arith)

    pub whole_inside : letter (char text i) ≡ true → whole_end text i ≤ length text
    unfolding whole_end
    whole_inside e = pick (eqb (char text (name_end text i)) 46) refl
      where
        at : ℕ
        at = name_end text i

        pick : (b : Bool) → eqb (char text at) 46 ≡ b → if (eqb (char text at) 46) (first_from (not_plain text) 3 (at + 1)) at ≤ length text
        pick true q = let h = passes_inside text at (λ x. eqb x 46) refl q in rw q (end_inside 3 (at + 1) (omega arith))
        pick false q = rw q (name_inside e)

  -- a name is well formed where its first byte is a letter and the test passes the byte at its end
  pub formed : (p : ℕ → Bool) (i : ℕ) {x y w : ℕ} {a b v : Bool} → x ≡ char text i → a ≡ letter x → w ≡ whole_end text i → y ≡ char text w → b ≡ p y → (a && b) ≡ v → well_formed p text i ≡ v
  unfolding well_formed
  formed p i ex ea ew ey eb ev = rw (← ew, ← ey, ← eb, ← ex, ← ea) ev

-- what the proofs of a name's end and of a padded byte apply
pub ruleset whole_steps = (first-least)

pub ruleset padded_steps = (char-inside, lt-ltb, le-ltb)
