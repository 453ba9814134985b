-- The volume table: the first 128 bytes of sector 360.
use Rattle.std.specs.Prelude.{Bool, not, ◌&&◌, ◌||◌, List, [], ◌∷◌, ℕ, suc, zero, ◌+◌, ◌-◌, ◌*◌, ◌/◌, ◌%◌, ◌^◌, leb, ltb, eqb, length}
use Rattle.std.specs.Bool.{beq}
use Rattle.std.specs.Int.Count.{ones_in}
use Rattle.layout.specs.Basics.{if, update, first_from, all_below, count_below}
use Rattle.layout.specs.Image.{Sector, Disk, write_byte, word, write_word}

-- data sectors are 4 to 359 and 369 to 719
unfoldable pub data_sector : ℕ → Bool
data_sector k = (leb 4 k && leb k 359) || (leb 369 k && leb k 719)

-- bit i of a byte, counted from the low end
unfoldable pub bit : ℕ → ℕ → ℕ
bit v i = v / 2 ^ i % 2

-- that bit is one
unfoldable pub is_set : ℕ → ℕ → Bool
is_set v i = eqb (bit v i) 1

-- the byte with bit i set
unfoldable pub bit_on : ℕ → ℕ → ℕ
bit_on v i = v + (1 - bit v i) * 2 ^ i

-- the byte with bit i cleared
unfoldable pub bit_off : ℕ → ℕ → ℕ
bit_off v i = v - bit v i * 2 ^ i

-- sector k is in byte 10 + k/8
abbrev pub map_byte : ℕ → ℕ
map_byte k = 10 + k / 8

-- and there bit 7 - (k mod 8)
abbrev pub map_bit : ℕ → ℕ
map_bit k = 7 - k % 8

-- sector k is free: its bit is one
unfoldable pub free : Sector → ℕ → Bool
free r k = is_set (r (map_byte k)) (map_bit k)

-- bytes 3 and 4 hold the free count
abbrev pub free_count : Sector → ℕ
free_count r = word r 3

-- the ones in the first n map bytes, eight bits each
unfoldable pub ones_below : Sector → ℕ → ℕ
ones_below r zero = 0
ones_below r (suc n) = ones_below r n + ones_in 8 (r (10 + n))

-- the bit of sector k + i is zero
unfoldable pub taken_from : Sector → ℕ → ℕ → Bool
taken_from r k i = not (free r (k + i))

-- the table is good: byte 0 and the 707 are right, the bits of 0 to 3 and 360 to 368 are zero, and the free count equals the number of ones in the ninety map bytes
unfoldable pub good : Sector → Bool
good r = eqb (r 0) 2 && eqb (word r 1) 707 && all_below 4 (taken_from r 0) && all_below 9 (taken_from r 360) && eqb (free_count r) (ones_below r 90)

-- the lowest free sector, or 0
unfoldable pub lowest : Sector → ℕ
lowest r = let k = first_from (free r) 720 0 in if (eqb k 720) 0 k

-- the bit of sector k set
unfoldable pub mark_free : Disk → ℕ → Disk
mark_free d k = write_byte d 360 (map_byte k) (bit_on (d 360 (map_byte k)) (map_bit k))

-- the bit of sector k cleared
unfoldable pub mark_used : Disk → ℕ → Disk
mark_used d k = write_byte d 360 (map_byte k) (bit_off (d 360 (map_byte k)) (map_bit k))

-- the free count written
unfoldable pub write_free_count : Disk → ℕ → Disk
write_free_count d n = write_word d 360 3 n

-- the bits of several sectors set
unfoldable pub free_bits : List ℕ → Disk → Disk
free_bits [] d = d
free_bits (k ∷ ks) d = free_bits ks (mark_free d k)

-- the bits of several sectors cleared
unfoldable pub use_bits : List ℕ → Disk → Disk
use_bits [] d = d
use_bits (k ∷ ks) d = use_bits ks (mark_used d k)

-- sectors freed: their map bits and the free count
unfoldable pub free_all : List ℕ → Disk → Disk
free_all ks d = write_free_count (free_bits ks d) (free_count (d 360) + length ks)

-- sectors marked used: their map bits and the free count
unfoldable pub use_all : List ℕ → Disk → Disk
use_all ks d = write_free_count (use_bits ks d) (free_count (d 360) - length ks)

-- the bit of sector k differs in two tables
unfoldable pub bit_changed : Sector → Sector → ℕ → Bool
bit_changed r e k = not (beq (free r k) (free e k))

-- the map bits that changed from one table to the other
unfoldable pub bits_changed : Sector → Sector → ℕ
bits_changed r e = count_below 720 (bit_changed r e)

-- a fresh map has a one for each data sector: bit b of its byte i, from the high end
unfoldable pub fresh_bit : ℕ → ℕ → ℕ
fresh_bit i b = if (data_sector (8 * i + b)) (2 ^ (7 - b)) 0

-- byte i of a fresh map
unfoldable pub fresh_map : ℕ → ℕ
fresh_map i = fresh_bit i 0 + fresh_bit i 1 + fresh_bit i 2 + fresh_bit i 3 + fresh_bit i 4 + fresh_bit i 5 + fresh_bit i 6 + fresh_bit i 7

-- a good table with 707 free
unfoldable pub fresh_volume : Sector
fresh_volume j =
    if (eqb j 0) 2
    (if (eqb j 1 || eqb j 3) (707 % 256)
    (if (eqb j 2 || eqb j 4) (707 / 256)
    (if (leb 10 j && ltb j 100) (fresh_map (j - 10)) 0)))

-- a formatted disk: all zero but a good table with 707 free
unfoldable pub fresh : Disk
fresh k = if (eqb k 360) fresh_volume (λ j. 0)

-- format keeps the header, which is sector 0
unfoldable pub formatted : Disk → Disk
formatted d = update fresh 0 (d 0)
