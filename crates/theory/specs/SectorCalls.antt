-- What sector calls leave: a sector written reads back the same, every other sector is as it was, and a read changes nothing.
use Rattle.std.specs.Prelude.{Bool, true, false, List, ◌≢◌, ◌≡◌, ℕ, length, take, drop, Ok}
use Rattle.layout.specs.declared.density.Medium.{Medium}
use Rattle.layout.specs.Image.{geometry_of, view}
use Rattle.layout.specs.Header.{served_as}
use Rattle.layout.specs.Status.{success, Succeeds}
use Rattle.rules.specs.Sectors.{ImageSectorOutcome, is_write, sector_call}

-- a write of b to sector k of image l, which is served as m, answered 1
pub record Wrote (m : Medium) (l : List ℕ) (k : ℕ) (b : List ℕ) (o : ImageSectorOutcome) : Type 0 where
  pub count : o.reply.count ≡ (geometry_of m).size k
  pub buffer : o.buffer ≡ b
  -- the image is as long as it was and served alike, and a read of the sector hands out what was written
  pub long : length o.image ≡ length l
  pub served : served_as o.image ≡ Ok m
  pub back : (protected : Bool) (b' : List ℕ) → length b' ≡ (geometry_of m).size k
      → sector_call o.image protected 0x31 1 0x52 k b' ≡ record { reply = record { status = success; count = (geometry_of m).size k }; image = o.image; buffer = b }
  -- every other sector, and the header, is as it was
  pub others : (x : ℕ) → x ≢ k → view (geometry_of m) o.image x ≡ view (geometry_of m) l x

-- any image, with the notch either way, device, unit, command, sector and buffer
pub record SectorCalls : Type 0 where
  pub writes : (l : List ℕ) (m : Medium) → served_as l ≡ Ok m → (protected : Bool) (device unit command k : ℕ) (b : List ℕ) → is_write command ≡ true
      → let o = sector_call l protected device unit command k b in Succeeds o.reply.status → Wrote m l k b o
  -- a read that succeeds hands out the sector
  pub reads : (l : List ℕ) (m : Medium) → served_as l ≡ Ok m → (protected : Bool) (device unit command k : ℕ) (b : List ℕ) → is_write command ≡ false
      → let g = geometry_of m in let o = sector_call l protected device unit command k b in Succeeds o.reply.status → (o.reply.count ≡ g.size k) × (o.buffer ≡ take (g.size k) (drop (g.start k) l))
  -- and no command but a write changes the image
  pub keeps : (l : List ℕ) (protected : Bool) (device unit command k : ℕ) (b : List ℕ) → is_write command ≡ false → (sector_call l protected device unit command k b).image ≡ l
