-- Demand 1: every call ends with a status number. A refused call reports no bytes and changes nothing, but for the listed partial transfers.
use Rattle.std.specs.Prelude.{Bool, true, false, List, [], ◌∷◌, ◌≢◌, ◌↔◌, ◌⊎◌, ◌≡◌, ℕ, ◌+◌, ◌/◌, ◌≤◌, leb, eqb, length, drop, Ok, Err}
use Rattle.layout.specs.declared.State.{State}
use Rattle.layout.specs.declared.State.TheVariants.{Closed, Writing}
use Rattle.layout.specs.declared.Table.{Table}
use Rattle.layout.specs.declared.Channel.{Channel}
use Rattle.layout.specs.declared.density.Medium.{Medium}
use Rattle.rules.specs.declared.Block.{Block}
use Rattle.rules.specs.declared.Form.{Form}
use Rattle.rules.specs.declared.Form.TheVariants.{Characters, Record}
use Rattle.rules.specs.declared.Transfer.TheVariants.{Get, Put}
use Rattle.rules.specs.declared.FileCommand.TheVariants.{Open, Status, Rename, Delete, Lock, Unlock, Format}
use Rattle.rules.specs.declared.Command.{Command}
use Rattle.rules.specs.declared.Command.TheVariants.{Moves, Close, Files, Unlisted}
use Rattle.layout.specs.Basics.{check, member}
use Rattle.layout.specs.Image.{Disk, atr_single, atr_double, geometry_of, view}
use Rattle.layout.specs.Header.{agrees, served_as}
use Rattle.layout.specs.Channels.{state_of, with_state}
use Rattle.layout.specs.Status.{success, end_reached, Fails, bad_image, bad_header, bad_channel, not_served, channel_open, channel_closed, write_only, read_only, write_protected, bad_device, bad_unit, bad_name, bad_table, not_found, file_locked, file_held, bad_chain, name_taken, no_slot, disk_full, end_of_file, truncated, lost_chain, no_device, bad_request, bad_length}
use Rattle.rules.specs.Cio.{ImageOutcome, command_of, Asks, cio_call}
use Rattle.rules.specs.Recovery.{recover_call}
use Rattle.rules.specs.Sectors.{sector_call}
use Rattle.rules.specs.Showing.{shows}
use Rattle.rules.specs.Thin.{thin_get, thin_put}
use Rattle.rules.specs.WriteHeader.{header_call}

-- the status numbers that each command can answer, in the order of the table. An open for input
abbrev pub read_answers : List ℕ
read_answers = success ∷ channel_open ∷ bad_device ∷ bad_unit ∷ bad_name ∷ not_found ∷ file_held ∷ []

-- those of an open for output
abbrev pub write_answers : List ℕ
write_answers = success ∷ channel_open ∷ write_protected ∷ bad_device ∷ bad_unit ∷ bad_name ∷ bad_table ∷ file_locked ∷ file_held ∷ bad_chain ∷ no_slot ∷ disk_full ∷ []

-- those of an open, by its direction
unfoldable pub open_answers : ℕ → List ℕ
open_answers direction =
    check (eqb direction 4) read_answers λ _.
    check (eqb direction 8) write_answers λ _.
    channel_open ∷ not_served ∷ []

-- those of a get
abbrev pub get_answers : List ℕ
get_answers = success ∷ end_reached ∷ channel_closed ∷ write_only ∷ end_of_file ∷ bad_chain ∷ []

-- those of a get record
abbrev pub get_record_answers : List ℕ
get_record_answers = truncated ∷ get_answers

-- those of a put, and of a put record
abbrev pub put_answers : List ℕ
put_answers = success ∷ channel_closed ∷ read_only ∷ write_protected ∷ bad_table ∷ bad_chain ∷ disk_full ∷ []

-- those of a close
abbrev pub close_answers : List ℕ
close_answers = success ∷ write_protected ∷ bad_chain ∷ []

-- those of a status
abbrev pub status_answers : List ℕ
status_answers = success ∷ channel_open ∷ bad_device ∷ bad_unit ∷ bad_name ∷ not_found ∷ file_locked ∷ []

-- those of a rename
abbrev pub rename_answers : List ℕ
rename_answers = success ∷ channel_open ∷ write_protected ∷ bad_device ∷ bad_unit ∷ bad_name ∷ bad_table ∷ not_found ∷ file_locked ∷ file_held ∷ name_taken ∷ []

-- those of a delete
abbrev pub delete_answers : List ℕ
delete_answers = success ∷ channel_open ∷ write_protected ∷ bad_device ∷ bad_unit ∷ bad_name ∷ bad_table ∷ not_found ∷ file_locked ∷ file_held ∷ bad_chain ∷ []

-- those of a lock or an unlock
abbrev pub lock_answers : List ℕ
lock_answers = success ∷ channel_open ∷ write_protected ∷ bad_device ∷ bad_unit ∷ bad_name ∷ bad_table ∷ not_found ∷ file_held ∷ []

-- those of a format
abbrev pub format_answers : List ℕ
format_answers = success ∷ channel_open ∷ write_protected ∷ bad_device ∷ bad_unit ∷ bad_name ∷ file_held ∷ []

-- those of a command, by the direction of its block
unfoldable pub command_answers : ℕ → Command → List ℕ
command_answers direction (Moves (Get Characters)) = get_answers
command_answers direction (Moves (Get Record)) = get_record_answers
command_answers direction (Moves (Put f)) = put_answers
command_answers direction Close = close_answers
command_answers direction (Files Open) = open_answers direction
command_answers direction (Files Status) = status_answers
command_answers direction (Files Rename) = rename_answers
command_answers direction (Files Delete) = delete_answers
command_answers direction (Files Lock) = lock_answers
command_answers direction (Files Unlock) = lock_answers
command_answers direction (Files Format) = format_answers
command_answers direction (Unlisted status) = status ∷ []

-- those of a CIO call: 134, then by its command
unfoldable pub answers : Block → List ℕ
answers c =
    check (leb 8 c.channel) (bad_channel ∷ []) λ _.
    command_answers c.direction (command_of c.command)

-- those of a recovery
abbrev pub recovery_answers : List ℕ
recovery_answers = success ∷ write_protected ∷ not_found ∷ bad_table ∷ bad_name ∷ name_taken ∷ lost_chain ∷ []

-- those of a sector call
abbrev pub sector_answers : List ℕ
sector_answers = success ∷ no_device ∷ bad_request ∷ write_protected ∷ bad_length ∷ []

-- those of the header's writer
abbrev pub header_answers : List ℕ
header_answers = success ∷ bad_image ∷ write_protected ∷ []

-- on image l, which is served, every call answers one of its numbers and no other
pub record Answers (l : List ℕ) : Type 0 where
  pub calls : (t : Table) (c : Block) (text b : List ℕ) → member (cio_call l t c text b).answer.status (answers c) ≡ true
  pub recoveries : (protected : Bool) (s : ℕ) → member (recover_call l protected s).reply.status recovery_answers ≡ true
  pub sectors : (protected : Bool) (device unit command k : ℕ) (b : List ℕ) → member (sector_call l protected device unit command k b).reply.status sector_answers ≡ true
  pub thin_gets : (c : Channel) (b : List ℕ) → member (thin_get l c b).answer.status get_answers ≡ true
  pub thin_puts : (protected : Bool) (c : Channel) (b : List ℕ) → member (thin_put l protected c b).answer.status put_answers ≡ true

-- on image l, which is not served, 203 or 205 comes first: each of these calls answers it, whatever else it was given
pub record Unserved (l : List ℕ) (n : ℕ) : Type 0 where
  pub calls : (t : Table) (c : Block) (text b : List ℕ) → (cio_call l t c text b).answer.status ≡ n
  pub recoveries : (protected : Bool) (s : ℕ) → (recover_call l protected s).reply.status ≡ n
  pub sectors : (protected : Bool) (device unit command k : ℕ) (b : List ℕ) → (sector_call l protected device unit command k b).reply.status ≡ n
  pub thin_gets : (c : Channel) (b : List ℕ) → (thin_get l c b).answer.status ≡ n
  pub thin_puts : (protected : Bool) (c : Channel) (b : List ℕ) → (thin_put l protected c b).answer.status ≡ n
  -- showing answers no
  pub shown : (s k : ℕ) → shows l s k ≡ false

-- why an image is not served: 203 for any length but those of a raw image and of the two ATR files, 205 for an ATR file whose header does not agree
pub record Reasons (l : List ℕ) : Type 0 where
  pub lengths : (served_as l ≡ Err bad_image) ↔ (member (length l) (92160 ∷ 92176 ∷ 183952 ∷ []) ≡ false)
  pub headers : (served_as l ≡ Err bad_header) ↔ ((m : Medium) × ((m ≡ atr_single) ⊎ (m ≡ atr_double)) × (length l ≡ (geometry_of m).total) × (agrees m l ≡ false))
  pub only : (n : ℕ) → served_as l ≡ Err n → (n ≡ bad_image) ⊎ (n ≡ bad_header)

-- the partial transfers: get with 136 (file ended) or 164, get record with 137 too, put and put record with 162; close frees its channel even with 164
unfoldable pub partials : Command → List ℕ
partials (Moves (Get Characters)) = end_of_file ∷ bad_chain ∷ []
partials (Moves (Get Record)) = truncated ∷ end_of_file ∷ bad_chain ∷ []
partials (Moves (Put f)) = disk_full ∷ []
partials Close = bad_chain ∷ []
partials (Files k) = []
partials (Unlisted status) = []

-- the answer to this command is a refusal, and no partial transfer
pub record Refusal (command : Command) (status : ℕ) : Type 0 where
  pub failed : Fails status
  pub whole : member status (partials command) ≡ false

-- no bytes reported; image, channels and buffer are what went in
pub record Unchanged (l : List ℕ) (t : Table) (b : List ℕ) (o : ImageOutcome) : Type 0 where
  pub count : o.answer.count ≡ 0
  pub image : o.image ≡ l
  pub table : o.answer.table ≡ t
  pub buffer : o.buffer ≡ b

-- a refused call reports no bytes and changes nothing
pub record Refusals : Type 0 where
  pub calls : (l : List ℕ) (t : Table) (c : Block) (text b : List ℕ) → let o = cio_call l t c text b in Refusal (command_of c.command) o.answer.status → Unchanged l t b o
  pub recoveries : (l : List ℕ) (protected : Bool) (s : ℕ) → let r = recover_call l protected s in Fails r.reply.status → (r.reply.count ≡ 0) × (r.image ≡ l)
  pub sectors : (l : List ℕ) (protected : Bool) (device unit command k : ℕ) (b : List ℕ) → let o = sector_call l protected device unit command k b in Fails o.reply.status → (o.reply.count ≡ 0) × (o.image ≡ l) × (o.buffer ≡ b)
  -- a thin call on one lent record
  pub thin_gets : (l : List ℕ) (c : Channel) (b : List ℕ) → let o = thin_get l c b in Refusal (Moves (Get Characters)) o.answer.status → (o.answer.count ≡ 0) × (o.answer.state ≡ c.state) × (o.buffer ≡ b)
  pub thin_puts : (l : List ℕ) (protected : Bool) (c : Channel) (b : List ℕ) → let o = thin_put l protected c b in Refusal (Moves (Put Characters)) o.answer.status → (o.answer.count ≡ 0) × (o.answer.state ≡ c.state) × (o.image ≡ l)
  -- the header's writer
  pub headers : (l : List ℕ) (protected : Bool) → let o = header_call l protected in Fails o.reply.status → (o.reply.count ≡ 0) × (o.image ≡ l)

-- of n bytes reported and the buffer after them: no more than were lent, and the rest of the buffer is left
pub record Moved (n : ℕ) (after b : List ℕ) : Type 0 where
  pub few : n ≤ length b
  pub rest : drop n after ≡ drop n b

-- only channel i differs
abbrev pub OnlyChannel : Table → ℕ → Table → Type 0
OnlyChannel t i u = (st : State) × (u ≡ with_state t i st)

-- the file's end: a put on a channel in this state changes no sector but the volume table, the slot's sector of the directory, the file's last sector, and those that it gives out
abbrev pub OnlyEnd : State → Disk → Disk → List ℕ → Type 0
OnlyEnd st d e given = (s p : ℕ) → st ≡ Writing s p → (k : ℕ) → k ≢ 360 → k ≢ 361 + s / 8 → k ≢ p → member k given ≡ false → e k ≡ d k

-- the same of the disks that two images hold, as whichever medium the first is served; the header is sector 0
abbrev pub OnlyEndOn : State → List ℕ → List ℕ → List ℕ → Type 0
OnlyEndOn st l after given = (m : Medium) → served_as l ≡ Ok m → let g = geometry_of m in OnlyEnd st (view g l) (view g after) given

-- what a partial transfer leaves, as every get, put and close does
pub record Transfers : Type 0 where
  -- a get or a get record leaves the image, the rest of the buffer and the other channels
  pub gets : (l : List ℕ) (t : Table) (c : Block) (text b : List ℕ) (f : Form) → Asks c (Moves (Get f))
      → let o = cio_call l t c text b in (o.image ≡ l) × Moved o.answer.count o.buffer b × OnlyChannel t c.channel o.answer.table
  pub thin_gets : (l : List ℕ) (c : Channel) (b : List ℕ) → let o = thin_get l c b in Moved o.answer.count o.buffer b
  -- with 137 the buffer is full
  pub cut : (l : List ℕ) (t : Table) (c : Block) (text b : List ℕ) → Asks c (Moves (Get Record)) → let o = cio_call l t c text b in o.answer.status ≡ truncated → o.answer.count ≡ length b
  -- a put or a put record leaves the buffer, the other channels and all of the disk but the file's end
  pub puts : (l : List ℕ) (t : Table) (c : Block) (text b : List ℕ) (f : Form) → Asks c (Moves (Put f))
      → let o = cio_call l t c text b in (o.answer.count ≤ length b) × (o.buffer ≡ b) × OnlyChannel t c.channel o.answer.table × OnlyEndOn (state_of t c.channel) l o.image o.given
  pub thin_puts : (l : List ℕ) (protected : Bool) (c : Channel) (b : List ℕ) → let o = thin_put l protected c b in (o.answer.count ≤ length b) × OnlyEndOn c.state l o.image o.given
  -- a close with 164 frees its channel, and changes nothing else
  pub closes : (l : List ℕ) (t : Table) (c : Block) (text b : List ℕ) → Asks c Close → let o = cio_call l t c text b in o.answer.status ≡ bad_chain → Unchanged l (with_state t c.channel Closed) b o

-- demand 1: any image of any length, with the notch either way, any channels, command block, name, buffer, slot and channel record
pub record Demand1 : Type 0 where
  pub answers : (l : List ℕ) (m : Medium) → served_as l ≡ Ok m → Answers l
  pub unserved : (l : List ℕ) (n : ℕ) → served_as l ≡ Err n → Unserved l n
  pub reasons : (l : List ℕ) → Reasons l
  pub headers : (l : List ℕ) (protected : Bool) → member (header_call l protected).reply.status header_answers ≡ true
  pub refusals : Refusals
  pub transfers : Transfers
