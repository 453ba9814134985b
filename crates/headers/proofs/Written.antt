-- The header's bytes stored in front of an image.
use mathlib.Core.Bool.{Bool, true, false}
use mathlib.Core.List.{List}
use mathlib.Core.Path.{◌≡◌, refl, ◌∙◌}
use Prim.Native.Nat.{ℕ, ◌≤◌}
use native.Mathlib.Nat.{zero-add}
use native.Mathlib.Omega.{arith}
use lib.ListN.{length}
use lib.Seq.{sets, sets-eq}
use Rattle.layout.specs.declared.density.Medium.{Medium}
use Rattle.layout.specs.Basics.{if, check, values_from}
use Rattle.layout.specs.Image.{atr_single, atr_double}
use Rattle.layout.specs.Header.{units, header_byte}
use Rattle.media.proofs.Headers.{single_header, double_header}
use Rattle.rules.specs.WriteHeader.{header_outcome, header_bytes, with_header, header_call}

-- the constants are the headers of the two media
pub single-bytes : header_bytes atr_single ≡ single_header
unfolding header_bytes header_byte units values_from
single-bytes = refl

pub double_bytes : header_bytes atr_double ≡ double_header
unfolding header_bytes header_byte units values_from
double_bytes = refl

-- stored in front of an image
with_header_lem : (m : Medium) (l xs : List ℕ) → header_bytes m ≡ xs → length xs ≡ 16 → 16 ≤ length l → sets l 0 xs ≡ with_header m l
unfolding with_header
with_header_lem m l xs e n long = sets-eq xs l 0 (omega arith) ∙ rw (zero-add (length xs), n, e)

-- what writing the header leaves, of an image of either length
module _ (l : List ℕ) where
  pub written_single : (protected : Bool) → length l ≡ 92176 → header_call l protected ≡ if protected (header_outcome 144 l) (header_outcome 1 (sets l 0 single_header))
  unfolding header_call check
  written_single true e = rw e
  written_single false e = rw (with_header_lem atr_single l single_header single-bytes refl (omega arith), e)

  pub written_double : (protected : Bool) → length l ≡ 183952 → header_call l protected ≡ if protected (header_outcome 144 l) (header_outcome 1 (sets l 0 double_header))
  unfolding header_call check
  written_double true e = rw e
  written_double false e = rw (with_header_lem atr_double l double_header double_bytes refl (omega arith), e)
