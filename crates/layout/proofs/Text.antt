-- Bytes of a text and what lies past its end.
use mathlib.Core.Bool.{Bool, true, false, true≢false}
use mathlib.Core.List.{List}
use mathlib.Core.Path.{◌≡◌, sym, ap, ◌∙◌}
use Prim.Native.Nat.{ℕ, ◌≤◌, ◌<◌}
use native.Mathlib.Decide.{dec_lt}
use native.Mathlib.Omega.{arith}
use lib.ListN.{length, get_or, get_or-eq_default}
use lib.Seq.{drop-cons}
use Rattle.layout.specs.Names.{char}

module _ (text : List ℕ) (i : ℕ) where
  pub char-inside : i < length text → get_or text i 0 ≡ char text i
  unfolding char
  char-inside h = cc (drop-cons text i 0 h, drop-cons text i 256 h)

  pub char_past : length text ≤ i → char text i ≡ 256
  unfolding char
  char_past h = get_or-eq_default text 256 h

  -- a byte that passes a test which 256 does not lies inside the text
  pub passes_inside : (p : ℕ → Bool) → p 256 ≡ false → p (char text i) ≡ true → i < length text
  passes_inside p none e = go (dec_lt i (length text))
    where
      go : Dec (i < length text) → i < length text
      go (yes h) = h
      go (no h) = absurd (true≢false (sym e ∙ ap p (char_past (omega arith)) ∙ none))
