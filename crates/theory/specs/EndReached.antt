-- 3, the file's end reached: when it is answered and what follows, that nothing else changes with it, and that it is answered by gets alone.
use Rattle.std.specs.Prelude.{Bool, true, List, ◌≢◌, ◌↔◌, ◌≡◌, ℕ, length}
use Rattle.layout.specs.declared.State.{State}
use Rattle.layout.specs.declared.Table.{Table}
use Rattle.layout.specs.declared.Channel.{Channel}
use Rattle.rules.specs.declared.Block.{Block}
use Rattle.rules.specs.declared.Form.{Form}
use Rattle.layout.specs.Image.{Disk, Geometry}
use Rattle.layout.specs.Status.{success, end_reached, end_of_file}
use Rattle.rules.specs.Get.{get_keeps, read_on, at_end, get_as}
use Rattle.rules.specs.Cio.{command_of, is_get, cio_call}
use Rattle.rules.specs.Recovery.{recover_call}
use Rattle.rules.specs.Sectors.{sector_call}
use Rattle.rules.specs.Thin.{thin_put}
use Rattle.rules.specs.WriteHeader.{header_call}

-- a get or a get record on any disk, damaged too, any channel record and any buffer. `read_on` is the same without the request for a 3
pub record AtTheEnd (g : Geometry) (d : Disk) (f : Form) (st : State) (b : List ℕ) : Type 0 where
  -- count, channel and buffer are the same
  pub count : (get_as g f d st b).answer.count ≡ (read_on g f d st b).answer.count
  pub state : (get_as g f d st b).answer.state ≡ (read_on g f d st b).answer.state
  pub buffer : (get_as g f d st b).buffer ≡ (read_on g f d st b).buffer
  -- it answers 3 exactly where it wants at least one byte, succeeds, and leaves its channel at the end of a sector whose next sector is 0
  pub exactly : ((get_as g f d st b).answer.status ≡ end_reached) ↔ ((length b ≢ 0) × ((read_on g f d st b).answer.status ≡ success) × (at_end g d (get_as g f d st b).answer.state ≡ true))
  -- and otherwise as it would without
  pub otherwise : (get_as g f d st b).answer.status ≢ end_reached → (get_as g f d st b).answer.status ≡ (read_on g f d st b).answer.status
  -- after a 3 the next, of either form and at least one byte, answers 136 with none, and leaves channel and buffer
  pub next : (get_as g f d st b).answer.status ≡ end_reached → (form : Form) (into : List ℕ) → length into ≢ 0 → let after = (get_as g f d st b).answer.state in get_as g form d after into ≡ get_keeps end_of_file after into

-- no other call answers 3, on any image
pub record OnlyGets : Type 0 where
  pub calls : (l : List ℕ) (t : Table) (c : Block) (text b : List ℕ) → (cio_call l t c text b).answer.status ≡ end_reached → is_get (command_of c.command) ≡ true
  pub recoveries : (l : List ℕ) (protected : Bool) (s : ℕ) → (recover_call l protected s).reply.status ≢ end_reached
  pub sectors : (l : List ℕ) (protected : Bool) (device unit command k : ℕ) (b : List ℕ) → (sector_call l protected device unit command k b).reply.status ≢ end_reached
  pub thin_puts : (l : List ℕ) (protected : Bool) (c : Channel) (b : List ℕ) → (thin_put l protected c b).answer.status ≢ end_reached
  pub headers : (l : List ℕ) (protected : Bool) → (header_call l protected).reply.status ≢ end_reached

pub record EndReached : Type 0 where
  pub gets : (g : Geometry) (d : Disk) (f : Form) (st : State) (b : List ℕ) → AtTheEnd g d f st b
  pub only : OnlyGets
