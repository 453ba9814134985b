-- Nobody has ever seen 161: no call on any image and table can answer it, document 02's request P8.
use Rattle.std.specs.Prelude.{Bool, true, false, List, ◌≢◌, ◌≡◌, ℕ, ◌<◌, Ok}
use Rattle.layout.specs.declared.Table.{Table}
use Rattle.layout.specs.declared.Channel.{Channel}
use Rattle.layout.specs.declared.density.Medium.{Medium}
use Rattle.rules.specs.declared.Block.{Block}
use Rattle.rules.specs.declared.FileCommand.{FileCommand}
use Rattle.rules.specs.declared.Command.TheVariants.{Files}
use Rattle.layout.specs.Basics.{all_below}
use Rattle.layout.specs.Header.{served_as}
use Rattle.layout.specs.Channels.{open_at}
use Rattle.layout.specs.Status.{channel_open}
use Rattle.rules.specs.Cio.{Asks, cio_call}
use Rattle.rules.specs.Recovery.{recover_call}
use Rattle.rules.specs.Sectors.{sector_call}
use Rattle.rules.specs.Thin.{thin_get, thin_put}
use Rattle.rules.specs.WriteHeader.{header_call}

-- what Q says holds of the status of every call, on any image, served or not and with the notch either way, with any table, command block, name, buffer, slot, sector and channel record
pub record EveryStatus (Q : ℕ → Type 0) : Type 0 where
  pub calls : (l : List ℕ) (t : Table) (c : Block) (text b : List ℕ) → Q (cio_call l t c text b).answer.status
  pub recoveries : (l : List ℕ) (protected : Bool) (s : ℕ) → Q (recover_call l protected s).reply.status
  pub sectors : (l : List ℕ) (protected : Bool) (device unit command k : ℕ) (b : List ℕ) → Q (sector_call l protected device unit command k b).reply.status
  pub thin_gets : (l : List ℕ) (c : Channel) (b : List ℕ) → Q (thin_get l c b).answer.status
  pub thin_puts : (l : List ℕ) (protected : Bool) (c : Channel) (b : List ℕ) → Q (thin_put l protected c b).answer.status
  pub headers : (l : List ℕ) (protected : Bool) → Q (header_call l protected).reply.status

pub record Never161 : Type 0 where
  -- with channel i below 8 closed, not all eight are open
  pub closed : (t : Table) (i : ℕ) → i < 8 → open_at t i ≡ false → all_below 8 (open_at t) ≡ false
  -- "open must name a channel, and with all eight open that one already answers 129"; so does every command that needs a closed channel
  pub named : (l : List ℕ) (m : Medium) → served_as l ≡ Ok m → (t : Table) → all_below 8 (open_at t) ≡ true
      → (c : Block) (k : FileCommand) → Asks c (Files k) → c.channel < 8 → (text b : List ℕ) → (cio_call l t c text b).answer.status ≡ channel_open
  -- "no call on any image and table can answer 161"
  pub never : EveryStatus (λ n. n ≢ 161)
