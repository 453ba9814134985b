-- The disk: sectors of bytes, and the image that holds them in order.
use Rattle.std.specs.Prelude.{Bool, List, [], ◌∷◌, ◌≡◌, ℕ, ◌+◌, ◌-◌, ◌*◌, ◌/◌, ◌%◌, ◌≤◌, ltb, eqb, length, get_or}
use Rattle.layout.specs.declared.density.Density.{Density}
use Rattle.layout.specs.declared.density.Medium.{Medium}
use Rattle.layout.specs.Basics.{if, update, values_from}

-- a sector: its byte at each place
abbrev pub Sector : Type 0
Sector = ℕ → ℕ

-- a disk: its sector of each number
abbrev pub Disk : Type 0
Disk = ℕ → Sector

-- how an image is laid out
pub record Geometry : Type 0 where
  -- bytes of the image
  pub total : ℕ
  -- data bytes of a file sector; its last three bytes follow them
  pub room : ℕ
  -- where a sector starts in the image, and its length
  pub start : ℕ → ℕ
  pub size : ℕ → ℕ
  -- which sector a byte of the image is in, and at which place
  pub sector_of : ℕ → ℕ
  pub place_of : ℕ → ℕ

-- sectors 1 to 720 in order, behind the header of h bytes: 1 to 3 of 128 bytes, the others of the density's size. The header is sector 0: no call but its own writer touches it
module _ (h : ℕ) (d : Density) where
  unfoldable pub start_in : ℕ → ℕ
  start_in k = if (eqb k 0) 0 (if (ltb k 4) (h + (k - 1) * 128) (h + 384 + (k - 4) * d.size))

  unfoldable pub size_in : ℕ → ℕ
  size_in k = if (eqb k 0) h (if (ltb k 4) 128 d.size)

  unfoldable pub sector_in : ℕ → ℕ
  sector_in i = if (ltb i h) 0 (if (ltb i (h + 384)) ((i - h) / 128 + 1) ((i - (h + 384)) / d.size + 4))

  unfoldable pub place_in : ℕ → ℕ
  place_in i = if (ltb i h) i (if (ltb i (h + 384)) ((i - h) % 128) ((i - (h + 384)) % d.size))

  -- the four stay closed until they are named, so that a term with a geometry in it stays short
  abbrev pub geometry : Geometry
  geometry = record { total = h + 384 + 717 * d.size; room = d.room; start = start_in; size = size_in; sector_of = sector_in; place_of = place_in }

-- a file sector has data bytes 0 to 124, or 0 to 252; its last three bytes follow them
abbrev pub single_density : Density
single_density = record { size = 128; room = 125 }

abbrev pub double_density : Density
double_density = record { size = 256; room = 253 }

-- the images served: a raw one of 92,160 bytes, and ATR files of 92,176 and 183,952 bytes with a header of 16
abbrev pub raw : Medium
raw = record { header = 0; density = single_density }

abbrev pub atr_single : Medium
atr_single = record { header = 16; density = single_density }

abbrev pub atr_double : Medium
atr_double = record { header = 16; density = double_density }

-- how the sectors of a medium lie in its image
abbrev pub geometry_of : Medium → Geometry
geometry_of m = geometry m.header m.density

-- what the functions inside ask of a medium; each of the three meets it
abbrev pub Regular : Medium → Type 0
Regular m = (m.header ≤ 16) × (128 ≤ m.density.size) × (m.density.size ≤ 256) × (m.density.room + 3 ≡ m.density.size)

-- and of an image with it: that it has the medium's length
abbrev pub Whole : Medium → List ℕ → Type 0
Whole m l = Regular m × (length l ≡ (geometry_of m).total)

-- the raw disks of document 01
abbrev pub single : Geometry
single = geometry_of raw

module _ (g : Geometry) where
  -- a place of a sector lies below its length
  unfoldable pub inside : ℕ → ℕ → Bool
  inside k j = ltb j (g.size k)

  -- the disk that an image holds; bytes past its end, and places that are none, read as 0
  unfoldable pub view : List ℕ → Disk
  view l = λ k j. if (inside k j) (get_or l (g.start k + j) 0) 0

  -- the image of n bytes that holds a disk
  unfoldable pub image_of : ℕ → Disk → List ℕ
  image_of n d = values_from (λ i. d (g.sector_of i) (g.place_of i)) n 0

-- the disk that an image of a medium holds
abbrev pub disk : Medium → List ℕ → Disk
disk m l = view (geometry_of m) l

-- byte j of sector k written
unfoldable pub write_byte : Disk → ℕ → ℕ → ℕ → Disk
write_byte d k j v = update d k (update (d k) j v)

-- bytes of sector k written, from j on
unfoldable pub write_run : Disk → ℕ → ℕ → List ℕ → Disk
write_run d k j [] = d
write_run d k j (x ∷ xs) = write_run (write_byte d k j x) k (j + 1) xs

-- two bytes of a sector, low byte first
abbrev pub word : Sector → ℕ → ℕ
word r j = r j + 256 * r (j + 1)

-- a word of sector k written
unfoldable pub write_word : Disk → ℕ → ℕ → ℕ → Disk
write_word d k j v = write_byte (write_byte d k j (v % 256)) k (j + 1) (v / 256 % 256)
