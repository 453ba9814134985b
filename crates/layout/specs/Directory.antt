-- The directory: the first 128 bytes of sectors 361 to 368, 64 slots of 16 bytes.
use Rattle.std.specs.Prelude.{Bool, false, not, ◌&&◌, ◌||◌, List, [], ◌∷◌, ◌≡◌, ℕ, suc, zero, ◌+◌, ◌*◌, ◌/◌, ◌%◌, ◌<◌, eqb, ltb, is_some, Option, Some, None}
use Rattle.layout.specs.Basics.{if, first_from, all_below}
use Rattle.layout.specs.Image.{Disk, write_byte, word}
use Rattle.layout.specs.Volume.{is_set}

-- byte j of slot s
abbrev pub entry : Disk → ℕ → ℕ → ℕ
entry d s j = d (361 + s / 8) (s % 8 * 16 + j)

-- byte j of slot s written
unfoldable pub write_entry : Disk → ℕ → ℕ → ℕ → Disk
write_entry d s j v = write_byte d (361 + s / 8) (s % 8 * 16 + j) v

-- byte 0: flags
abbrev pub flag : Disk → ℕ → ℕ
flag d s = entry d s 0

-- the flags written
unfoldable pub write_flag : Disk → ℕ → ℕ → Disk
write_flag d s f = write_entry d s 0 f

-- bytes 1 and 2: sector count
abbrev pub count : Disk → ℕ → ℕ
count d s = word (entry d s) 1

-- the sector count written
unfoldable pub write_count : Disk → ℕ → ℕ → Disk
write_count d s n = write_entry (write_entry d s 1 (n % 256)) s 2 (n / 256 % 256)

-- bytes 3 and 4: first sector
abbrev pub first : Disk → ℕ → ℕ
first d s = word (entry d s) 3

-- the first sector written
unfoldable pub write_first : Disk → ℕ → ℕ → Disk
write_first d s k = write_entry (write_entry d s 3 (k % 256)) s 4 (k / 256 % 256)

-- bytes 5 to 12 name, 13 to 15 extension: byte j of the eleven
abbrev pub name : Disk → ℕ → ℕ → ℕ
name d s j = entry d s (5 + j)

-- n bytes of the name w written, from j on
unfoldable pub write_name_from : Disk → ℕ → (ℕ → ℕ) → ℕ → ℕ → Disk
write_name_from d s w zero j = d
write_name_from d s w (suc n) j = write_name_from (write_entry d s (5 + j) (w j)) s w n (j + 1)

-- the eleven bytes of the name w written
unfoldable pub write_name : Disk → ℕ → (ℕ → ℕ) → Disk
write_name d s w = write_name_from d s w 11 0

-- byte j of the name is that of w
unfoldable pub same_byte : Disk → ℕ → (ℕ → ℕ) → ℕ → Bool
same_byte d s w j = eqb (name d s j) (w j)

-- slot s has the name w
unfoldable pub same_name : Disk → ℕ → (ℕ → ℕ) → Bool
same_name d s w = all_below 11 (same_byte d s w)

-- $80 deleted
unfoldable pub deleted : ℕ → Bool
deleted f = is_set f 7

-- $20 locked
unfoldable pub locked : ℕ → Bool
locked f = is_set f 5

-- $01 open for output
unfoldable pub output_flag : ℕ → Bool
output_flag f = is_set f 0

-- in use and not deleted: $40 is set and $80 clear
unfoldable pub standing_flag : ℕ → Bool
standing_flag f = is_set f 6 && not (is_set f 7)

-- slot s is $43; one above 63 is not
unfoldable pub is43 : Disk → ℕ → Bool
is43 d s = ltb s 64 && eqb (flag d s) 0x43

-- the flag of slot s is not zero
unfoldable pub nonzero : Disk → ℕ → Bool
nonzero d s = not (eqb (flag d s) 0)

-- no flag before slot s is zero
unfoldable pub reached : Disk → ℕ → Bool
reached d s = all_below s (nonzero d)

-- a slot stands when $40 is set, $80 clear and no earlier flag is zero
unfoldable pub stands : Disk → ℕ → Bool
stands d s = ltb s 64 && standing_flag (flag d s) && reached d s

-- a search reads slots in order and stops at the first flag byte of zero, or at a slot that passes
unfoldable pub stops : Disk → (ℕ → Bool) → ℕ → Bool
stops d p s = eqb (flag d s) 0 || p s

-- the first slot that passes before a flag byte of zero, or none
unfoldable pub search : Disk → (ℕ → Bool) → Option ℕ
search d p = let s = first_from (stops d p) 64 0 in if (eqb s 64 || eqb (flag d s) 0) None (Some s)

-- the number of each case: that of a slot found, or that of none. A name is 1 or 170, a new file's slot 1 or 169; another slot with the name is 201, none 1
abbrev pub found_status : ℕ → ℕ → Option ℕ → ℕ
found_status one none (Some s) = one
found_status one none None = none

-- the values of each case: the slot, or none
abbrev pub found_slots : Option ℕ → List ℕ
found_slots (Some s) = s ∷ []
found_slots None = []

-- the promise of a function that answers a slot, where the rules answer f: the same case, with its number and its values
abbrev pub TellsFound : ℕ → ℕ → Option ℕ → Option ℕ → Type 0
TellsFound one none f r = (r ≡ f) × (found_status one none r ≡ found_status one none f) × (found_slots r ≡ found_slots f)

-- the slot found is s
abbrev pub is_at : Option ℕ → ℕ → Bool
is_at (Some x) s = eqb x s
is_at None s = false

-- a slot found is one of the 64
abbrev pub Below : Option ℕ → Type 0
Below (Some s) = s < 64
Below None = Unit {0}

-- what follows with the slot found, or without one
unfoldable pub found : {A : Type 0} → Option ℕ → A → (ℕ → A) → A
found (Some s) missing rest = rest s
found None missing rest = missing

-- slot s, which a search comes to, has the name and stands
unfoldable pub bears : Disk → (ℕ → ℕ) → ℕ → Bool
bears d w s = standing_flag (flag d s) && same_name d s w

-- the first standing slot with the name is the one found
unfoldable pub find : Disk → (ℕ → ℕ) → Option ℕ
find d w = search d (bears d w)

-- slot x, which is not s, has the name and stands
unfoldable pub bears_beside : Disk → (ℕ → ℕ) → ℕ → ℕ → Bool
bears_beside d w s x = bears d w x && not (eqb x s)

-- there is such a slot
abbrev pub is_found : Option ℕ → Bool
is_found f = is_some f

-- another standing slot than s has the name w
unfoldable pub another : Disk → (ℕ → ℕ) → ℕ → Bool
another d w s = is_found (search d (bears_beside d w s))
