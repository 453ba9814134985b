-- What showing shows: the bytes that a get with sectors left delivers from that sector, as they lie in the image.
use Rattle.std.specs.Prelude.{true, false, List, [], ◌≡◌, ℕ, suc, ◌+◌, ◌≤◌, ◌<◌, length, take, Ok}
use Rattle.layout.specs.declared.State.{State}
use Rattle.layout.specs.declared.State.TheVariants.{Reading}
use Rattle.layout.specs.declared.Channel.{Channel}
use Rattle.layout.specs.Basics.{values_from}
use Rattle.layout.specs.declared.density.Medium.{Medium}
use Rattle.layout.specs.Image.{Disk, Geometry, geometry_of, view}
use Rattle.layout.specs.Header.{served_as}
use Rattle.layout.specs.File.{in_use}
use Rattle.layout.specs.Status.{success, bad_chain}
use Rattle.rules.specs.Get.{GetOutcome, next_to_enter, has_byte, ends, readable, or_end_reached}
use Rattle.rules.specs.Showing.{shows, shown_start, shown_length, shown_part}
use Rattle.rules.specs.Thin.{thin_get}

-- a channel that reads slot s is at the edge of sector k: it passes a get's first test, its sector is used up and not the file's last, and the next to enter is k
pub record AtEdge (g : Geometry) (d : Disk) (s j o k : ℕ) : Type 0 where
  pub tested : readable g d s j o ≡ true
  pub used_up : has_byte g d j o ≡ false
  pub goes_on : ends g d j ≡ false
  pub enters : next_to_enter g d s j ≡ k

-- a get with a buffer b that these bytes fill: 1, or 3 where they are the file's last, and the first of them; the channel has entered sector k
pub record Gives (g : Geometry) (d : Disk) (part : List ℕ) (s k n : ℕ) (b : List ℕ) (z : GetOutcome) : Type 0 where
  pub status : z.answer.status ≡ or_end_reached g d b (Reading s k (length b) n) success
  pub count : z.answer.count ≡ length b
  pub state : z.answer.state ≡ Reading s k (length b) n
  pub buffer : z.buffer ≡ take (length b) part

-- a get that cannot enter the sector: 164, no byte, and the channel stays
pub record Stops (st : State) (b : List ℕ) (z : GetOutcome) : Type 0 where
  pub status : z.answer.status ≡ bad_chain
  pub count : z.answer.count ≡ 0
  pub state : z.answer.state ≡ st
  pub buffer : z.buffer ≡ b

-- on an image that is served with this geometry
pub record ShownOn (g : Geometry) (l : List ℕ) : Type 0 where
  -- where the answer is yes the part is the sector's bytes in use
  pub part : (s k : ℕ) → shows l s k ≡ true → let r = view g l k in shown_part l s k ≡ values_from r (in_use g r) 0
  -- a get from the edge of the sector with sectors left delivers it
  pub delivers : (s j o k n : ℕ) → AtEdge g (view g l) s j o k → shows l s k ≡ true
      → (c : Channel) → c.state ≡ Reading s j o (suc n) → (b : List ℕ) → 0 < length b → length b ≤ shown_length l s k → Gives g (view g l) (shown_part l s k) s k n b (thin_get l c b)
  -- and it goes on as from the sector's first byte, whatever its buffer
  pub entered : (s j o k n : ℕ) → AtEdge g (view g l) s j o k → shows l s k ≡ true
      → (c e : Channel) → c.state ≡ Reading s j o (suc n) → e.state ≡ Reading s k 0 n → (b : List ℕ) → 0 < length b → thin_get l c b ≡ thin_get l e b
  -- where the answer is no it answers 164
  pub stops : (s j o k n : ℕ) → AtEdge g (view g l) s j o k → shows l s k ≡ false
      → (c : Channel) → c.state ≡ Reading s j o (suc n) → (b : List ℕ) → 0 < length b → Stops (Reading s j o (suc n)) b (thin_get l c b)

-- on any image, sound or not
pub record Shown : Type 0 where
  -- the part lies in the image
  pub within : (l : List ℕ) (s k : ℕ) → shown_start l s k + shown_length l s k ≤ length l
  -- where the answer is no it is empty, at the image's start; so it is on an image that is not served
  pub none : (l : List ℕ) (s k : ℕ) → shows l s k ≡ false → (shown_start l s k ≡ 0) × (shown_part l s k ≡ [])
  -- on one that is served as m
  pub on : (l : List ℕ) (m : Medium) → served_as l ≡ Ok m → ShownOn (geometry_of m) l
