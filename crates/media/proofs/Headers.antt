-- What an image is served as, by its length and the two headers written out.
use mathlib.Core.List.{List, [], ◌∷◌}
use mathlib.Core.Logic.{◌≢◌}
use mathlib.Core.Path.{◌≡◌, refl}
use Prim.Native.Nat.{ℕ}
use lib.ListN.{length}
use borrow.Author.Tests.{ne_eqb}
use Rattle.std.specs.Prelude.{Ok, Err}
use Rattle.layout.specs.Basics.{check, all_below}
use Rattle.layout.specs.Image.{single_density, double_density, raw, atr_single, atr_double}
use Rattle.layout.specs.Header.{units, header_byte, same_header, agrees, served_atr, served_as}
use Rattle.layout.proofs.Header.{is_raw, kind-served}
use Rattle.media.specs.Same.{same_at, served_by}

abbrev pub single_header : List ℕ
single_header = 0x96 ∷ 0x02 ∷ 0x80 ∷ 0x16 ∷ 0x80 ∷ 0 ∷ 0 ∷ 0 ∷ 0 ∷ 0 ∷ 0 ∷ 0 ∷ 0 ∷ 0 ∷ 0 ∷ 0 ∷ []

abbrev pub double_header : List ℕ
double_header = 0x96 ∷ 0x02 ∷ 0xE8 ∷ 0x2C ∷ 0 ∷ 1 ∷ 0 ∷ 0 ∷ 0 ∷ 0 ∷ 0 ∷ 0 ∷ 0 ∷ 0 ∷ 0 ∷ 0 ∷ []

module _ (l : List ℕ) where
  single-same : agrees atr_single l ≡ all_below 7 (same_at single_header l)
  unfolding agrees same_header header_byte units all_below
  single-same = refl

  double_same : agrees atr_double l ≡ all_below 7 (same_at double_header l)
  unfolding agrees same_header header_byte units all_below
  double_same = refl

  pub is_raw_lem : length l ≡ 92160 → served_as l ≡ Ok raw
  is_raw_lem n = kind-served l raw (is_raw refl n)

  pub is_single_lem : length l ≡ 92176 → served_as l ≡ served_by single_header single_density l
  unfolding served_as served_atr served_by check
  is_single_lem n = rw (n, single-same)

  pub is_double_lem : length l ≡ 183952 → served_as l ≡ served_by double_header double_density l
  unfolding served_as served_atr served_by check
  is_double_lem n = rw (n, double_same)

  pub no_length : length l ≢ 92160 → length l ≢ 92176 → length l ≢ 183952 → served_as l ≡ Err 203
  unfolding served_as check
  no_length a b c = rw (ne_eqb (length l) 92160 a, ne_eqb (length l) 92176 b, ne_eqb (length l) 183952 c)
