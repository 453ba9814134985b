-- The header of an ATR file, and what an image is served as.
use Rattle.std.specs.Prelude.{Bool, not, List, [], ◌∷◌, ◌≡◌, ℕ, ◌+◌, ◌*◌, ◌/◌, ◌%◌, eqb, length, get_or, Result, Ok, Err}
use Rattle.layout.specs.declared.density.Medium.{Medium}
use Rattle.layout.specs.Basics.{if, check, all_below}
use Rattle.layout.specs.Image.{raw, atr_single, atr_double, geometry_of}
use Rattle.layout.specs.Status.{success, bad_image, bad_header}

-- the length of the sectors in 16-byte units: 5,760 or 11,496
unfoldable pub units : Medium → ℕ
units m = (384 + 717 * m.density.size) / 16

-- byte j of the header: $96 $02, the length in units (low two bytes at 2 and 3, high byte at 6), the sector size at 4 and 5; bytes 7 to 15 are zero
unfoldable pub header_byte : Medium → ℕ → ℕ
header_byte m j =
    if (eqb j 0) 0x96
    (if (eqb j 1) 0x02
    (if (eqb j 2) (units m % 256)
    (if (eqb j 3) (units m / 256 % 256)
    (if (eqb j 4) (m.density.size % 256)
    (if (eqb j 5) (m.density.size / 256 % 256)
    (if (eqb j 6) (units m / 65536) 0))))))

-- byte j of the image is that of the header
unfoldable pub same_header : Medium → List ℕ → ℕ → Bool
same_header m l j = eqb (get_or l j 0) (header_byte m j)

-- reading ignores bytes 7 to 15
unfoldable pub agrees : Medium → List ℕ → Bool
agrees m l = all_below 7 (same_header m l)

-- an ATR of this medium's length: 205 for a header that does not agree with it
unfoldable pub served_atr : Medium → List ℕ → Result Medium ℕ
served_atr m l =
    check (not (agrees m l)) (Err bad_header) λ _.
    Ok m

-- what an image is served as, by its length: 203 for any other
unfoldable pub served_as : List ℕ → Result Medium ℕ
served_as l =
    check (eqb (length l) (geometry_of raw).total) (Ok raw) λ _.
    check (eqb (length l) (geometry_of atr_single).total) (served_atr atr_single l) λ _.
    check (eqb (length l) (geometry_of atr_double).total) (served_atr atr_double l) λ _.
    Err bad_image

-- the number of each case: 1, or its one refusal
abbrev pub served_status : Result Medium ℕ → ℕ
served_status (Ok m) = success
served_status (Err status) = status

-- the values of each case: bytes of the header, of a sector from the fourth on, and of a file sector's data; or none
abbrev pub served_sizes : Result Medium ℕ → List ℕ
served_sizes (Ok m) = m.header ∷ m.density.size ∷ m.density.room ∷ []
served_sizes (Err status) = []

-- the promise of a function that says what an image is served as, where the rules say v: the same case, with its number and its values
abbrev pub TellsServed : Result Medium ℕ → Result Medium ℕ → Type 0
TellsServed v r = (r ≡ v) × (served_status r ≡ served_status v) × (served_sizes r ≡ served_sizes v)

-- what follows with the medium, or with the refusal
unfoldable pub served : {A : Type 0} → Result Medium ℕ → (ℕ → A) → (Medium → A) → A
served (Ok m) refusal rest = rest m
served (Err status) refusal rest = refusal status
