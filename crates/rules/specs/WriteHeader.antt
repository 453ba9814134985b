-- The header's writer: the first 16 bytes of a lent image of either ATR length.
use Rattle.std.specs.Prelude.{Bool, not, ◌||◌, List, ◌++◌, ℕ, eqb, length, drop}
use Rattle.layout.specs.declared.density.Medium.{Medium}
use Rattle.rules.specs.declared.Reply.{Reply}
use Rattle.layout.specs.Basics.{check, values_from}
use Rattle.layout.specs.Image.{atr_single, atr_double, geometry_of}
use Rattle.layout.specs.Header.{header_byte}
use Rattle.layout.specs.Status.{success, bad_image, write_protected}

-- what writing the header answers, and the image after it
pub record HeaderOutcome : Type 0 where
  pub reply : Reply
  pub image : List ℕ

-- an answer, with the image after it
abbrev pub header_outcome : ℕ → List ℕ → HeaderOutcome
header_outcome status l = record { reply = record { status = status; count = 0 }; image = l }

-- the sixteen bytes of a medium's header
unfoldable pub header_bytes : Medium → List ℕ
header_bytes m = values_from (header_byte m) 16 0

-- the header written into the first 16 bytes; all behind them is left
unfoldable pub with_header : Medium → List ℕ → List ℕ
with_header m l = header_bytes m ++ drop 16 l

-- by the image's length alone: 203 for any other, a raw image's too, then 144. It does not look at the old header
unfoldable pub header_call : List ℕ → Bool → HeaderOutcome
header_call l protected =
    let single = eqb (length l) (geometry_of atr_single).total in
    let double = eqb (length l) (geometry_of atr_double).total in
    check (not (single || double)) (header_outcome bad_image l) λ _.
    check protected (header_outcome write_protected l) λ _.
    check single (header_outcome success (with_header atr_single l)) λ _.
    header_outcome success (with_header atr_double l)
