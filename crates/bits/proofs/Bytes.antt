-- Facts of the bits of a byte, each computed at all 256 bytes.
use mathlib.Core.Bool.{Bool, true, not, ◌&&◌, ◌||◌}
use mathlib.Core.Logic.{◌≢◌}
use mathlib.Core.Path.{◌≡◌, refl}
use Prim.Native.Nat.{ℕ, ◌-◌, ◌*◌, ◌%◌, ◌^◌, ◌<◌}
use native.Mathlib.Omega.{arith}
use lib.Bits.{bit_and, bit_or}
use lib.Count.{ones, ones_in, count_leading_zeros}
use lib.Dec.{eqb, leb, ltb}
use borrow.Author.Tests.{eqb-true, ltb-true, lt-leb, ne_eqb, not-true}
use Rattle.layout.specs.Basics.{all_below}
use Rattle.layout.specs.Volume.{bit, is_set, bit_on, bit_off}
use Rattle.layout.proofs.Logic.{and_left, and_right}
use Rattle.layout.proofs.Search.{all_at}
use Rattle.bits.specs.Highest.{Highest}

-- a test that passes at all bytes and bits
byte_at : (p : ℕ → ℕ → Bool) → all_below 256 (λ v. all_below 8 (p v)) ≡ true → (v i : ℕ) → v < 256 → i < 8 → p v i ≡ true
byte_at p e v i h l = all_at (p v) 8 (all_at (λ v. all_below 8 (p v)) 256 e v h) i l

module _ (v i : ℕ) (h : v < 256) (l : i < 8) where
  -- a bit set and cleared by a mask
  pub mask_on : bit_or v (1 * 2 ^ i % 256) ≡ bit_on v i
  unfolding all_below bit bit_on
  mask_on = eqb-true _ _ (byte_at (λ v i. eqb (bit_or v (1 * 2 ^ i % 256)) (bit_on v i)) refl v i h l)

  pub mask_off : bit_and v (255 - 1 * 2 ^ i % 256) ≡ bit_off v i
  unfolding all_below bit bit_off
  mask_off = eqb-true _ _ (byte_at (λ v i. eqb (bit_and v (255 - 1 * 2 ^ i % 256)) (bit_off v i)) refl v i h l)

-- all its ones are among its eight lowest digits
pub ones_eight : (v : ℕ) → v < 256 → ones v ≡ ones_in 8 v
unfolding all_below ones ones_in
ones_eight v h = eqb-true _ _ (all_at (λ v. eqb (ones v) (ones_in 8 v)) 256 refl v h)

-- the zeros in front of its highest one
here_test : ℕ → Bool
here_test v = eqb v 0 || (ltb (count_leading_zeros 8 v) 8 && is_set v (7 - count_leading_zeros 8 v))

above_test : ℕ → ℕ → Bool
above_test v i = leb (count_leading_zeros 8 v) i || not (is_set v (7 - i))

pub leading : (v : ℕ) → v < 256 → v ≢ 0 → Highest v (count_leading_zeros 8 v)
unfolding all_below bit is_set count_leading_zeros here_test above_test
leading v h n =
    let z = count_leading_zeros 8 v in
    let a : (ltb z 8 && is_set v (7 - z)) ≡ true = rw (ne_eqb v 0 n) at (all_at here_test 256 refl v h) in
    let l = ltb-true z 8 (and_left (ltb z 8) (is_set v (7 - z)) a) in
    record {
      low = l;
      here = and_right (ltb z 8) (is_set v (7 - z)) a;
      above = λ i k. not-true (is_set v (7 - i)) (rw (lt-leb z i k) at (byte_at above_test refl v i h (omega arith)));
    }
