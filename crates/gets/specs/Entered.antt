-- What a get knows of the sectors that it has entered, and how far it has come.
use Rattle.std.specs.Prelude.{Bool, true, not, ◌&&◌, List, ◌≡◌, ℕ, ◌+◌, ◌-◌, ◌≤◌, ◌<◌, eqb, leb, length}
use Rattle.layout.specs.declared.State.TheVariants.{Reading}
use Rattle.layout.specs.Image.{Disk, Geometry}
use Rattle.layout.specs.Volume.{data_sector}
use Rattle.layout.specs.File.{next, in_use, fits}
use Rattle.rules.specs.declared.Form.{Form}
use Rattle.rules.specs.declared.Form.TheVariants.{Characters}
use Rattle.rules.specs.declared.Place.{Place}
use Rattle.rules.specs.declared.Got.{Got}
use Rattle.gets.specs.declared.whole.Filled.{Filled}
use Rattle.rules.specs.declared.Seek.{Seek}
use Rattle.rules.specs.declared.Seek.TheVariants.{Ready, Ended, Broken}
use Rattle.rules.specs.Get.{place, read_from, or_end_reached}

module _ (g : Geometry) where
  -- an entered sector is on the disk, behind the boot sectors, and holds no more bytes than it can; 0 before any
  pub record Entered (d : Disk) (k : ℕ) : Type 0 where
    pub most : k ≤ 720
    pub least : 0 < k → 4 ≤ k
    pub small : 1 ≤ k → in_use g (d k) ≤ g.room

  -- a byte of the entered sector is left
  pub record ByteLeft (d : Disk) (p : Place) : Type 0 where
    pub low : 4 ≤ p.sector
    pub high : p.sector ≤ 720
    pub within : p.offset < in_use g (d p.sector)
    pub small : in_use g (d p.sector) ≤ g.room

  -- where the search for a byte ends: at one that is left, or anywhere
  abbrev pub Sought : Disk → Seek → Type 0
  Sought d (Ready p) = ByteLeft d p
  Sought d (Ended p) = Unit {0}
  Sought d (Broken p) = Unit {0}

  -- an entered sector holds n bytes from offset o on
  unfoldable pub at_hand : Disk → ℕ → ℕ → ℕ → Bool
  at_hand d k o n = not (eqb k 0) && leb (o + n) (in_use g (d k))

  -- what bytes of slot s read into the buffer b tell: 3 in place of 1 where they end at the end of a sector whose next sector is 0
  abbrev pub told_end : Disk → ℕ → List ℕ → Got → Got
  told_end d s b r = let p = r.place in record { status = or_end_reached g d b (Reading s p.sector p.offset p.left) r.status; count = r.count; place = p }

  -- a sector fits, and has no room left
  unfoldable pub full : Disk → ℕ → ℕ → Bool
  full d s k = fits g (d k) s k && eqb (in_use g (d k)) g.room

  -- a reading of n bytes: at its byte i₀ with place p₀ and buffer b₀ it goes on as at its byte i with place p and buffer b
  pub record Comes (f : Form) (d : Disk) (s n i₀ : ℕ) (p₀ : Place) (b₀ : List ℕ) (i : ℕ) (p : Place) (b : List ℕ) : Type 0 where
    pub least : i₀ ≤ i
    pub most : i ≤ n
    pub entered : Entered d p.sector
    pub same : read_from g f d s (n - i₀) i₀ p₀ b₀ ≡ read_from g f d s (n - i) i p b

  -- so does a get
  abbrev pub Gets : Disk → ℕ → ℕ → ℕ → Place → List ℕ → ℕ → Place → List ℕ → Type 0
  Gets = Comes Characters

  -- where a get is behind full sectors: at the end of the last of them
  abbrev pub end_of : Filled → Place
  end_of w = place w.sector g.room w.left

  -- from there, with buffer b, full sectors are entered up to the end of another, with buffer b'
  abbrev pub Fills : Disk → ℕ → Filled → List ℕ → Filled → List ℕ → Type 0
  Fills d s w b r b' = (4 ≤ r.sector) × Gets d s (length b) w.count (end_of w) b r.count (end_of r) b'

  -- a full sector leads to the one after it on the disk
  unfoldable pub leads_on : Disk → ℕ → ℕ → Bool
  leads_on d s k = full d s k && eqb (next g (d k)) (k + 1)

  -- so does a sector that was entered
  pub record Consecutive (d : Disk) (k : ℕ) : Type 0 where
    pub entered : Entered d k
    pub leads : next g (d k) ≡ k + 1

-- the n sectors behind sector k on the disk are data sectors
pub record DataBehind (k n : ℕ) : Type 0 where
  pub top : k + n < 720
  pub each : (j : ℕ) → j < n → data_sector (k + 1 + j) ≡ true
