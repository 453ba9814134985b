-- Demand 2: on a sound disk, what was written and closed reads back the same, whatever other calls stand between.
use Rattle.std.specs.Prelude.{Bool, true, false, not, ◌&&◌, ◌||◌, List, [], ◌∷◌, ◌++◌, ◌≢◌, ◌⊎◌, ◌≡◌, ℕ, ◌<◌, min, leb, eqb, length, take, drop, Some, Result, Ok}
use Rattle.layout.specs.declared.State.TheVariants.{Reading, Writing}
use Rattle.layout.specs.declared.Table.{Table}
use Rattle.layout.specs.declared.FileName.{FileName}
use Rattle.layout.specs.declared.density.Medium.{Medium}
use Rattle.rules.specs.declared.Block.{Block}
use Rattle.rules.specs.declared.Form.{Form}
use Rattle.rules.specs.declared.Form.TheVariants.{Characters, Record}
use Rattle.rules.specs.declared.Transfer.TheVariants.{Get, Put}
use Rattle.rules.specs.declared.FileCommand.TheVariants.{Open, Rename, Delete, Format}
use Rattle.rules.specs.declared.Command.{Command}
use Rattle.rules.specs.declared.Command.TheVariants.{Moves, Close, Files, Unlisted}
use Rattle.layout.specs.Basics.{if, member, through, behind}
use Rattle.layout.specs.Image.{Disk, Geometry, geometry_of}
use Rattle.layout.specs.Directory.{flag, count, find}
use Rattle.layout.specs.File.{end_of_line, next, in_use, chain, file}
use Rattle.layout.specs.Channels.{state_of, open_at}
use Rattle.layout.specs.Names.{name_byte, read_name, old_name, file_name}
use Rattle.layout.specs.Status.{success, end_reached, succeeds, Succeeds, Fails, write_protected, disk_full, end_of_file, truncated}
use Rattle.rules.specs.Get.{or_end_reached}
use Rattle.rules.specs.Put.{sent}
use Rattle.rules.specs.Commands.{Effect}
use Rattle.rules.specs.Cio.{Outcome, is_get, command_of, Asks}
use Rattle.rules.specs.Sound.{Stands, SameName, Sound}
use Rattle.rules.specs.Lists.{Call, cio_of, recovery_of, protected_in, System, Event, Machine, run, events, disks, ImageTable, images, SoundImage}

-- the call is this command on channel i
abbrev pub On : ℕ → Command → Call → Type 0
On i command (cio_of c text b) = (c.channel ≡ i) × Asks c command
On i command (recovery_of protected s) = ⊥

-- no call of the list closes channel i: a close of it answered 144, which leaves it open
abbrev pub StaysOpen : ℕ → List Event → Type 0
StaysOpen i [] = Unit {0}
StaysOpen i (e ∷ es) = (On i Close e.call → e.outcome.effect.status ≡ write_protected) × StaysOpen i es

-- what a put or a put record on a channel that writes answers on a sound disk: with the notch open 1 or 162, with it closed 144
abbrev pub PutAnswers : Bool → ℕ → Type 0
PutAnswers false n = (n ≡ success) ⊎ (n ≡ disk_full)
PutAnswers true n = n ≡ write_protected

-- the name that was taken apart is found in slot s
abbrev pub Finds : Disk → Result FileName ℕ → ℕ → Type 0
Finds d n s = (word : ℕ) × (extension : ℕ) × (n ≡ Ok (file_name word extension)) × (find d (name_byte word extension) ≡ Some s)

-- channel i writes slot s
abbrev pub WritesTo : Table → ℕ → ℕ → Type 0
WritesTo t i s = (p : ℕ) × (state_of t i ≡ Writing s p)

-- channel i reads slot s
abbrev pub ReadsFrom : Table → ℕ → ℕ → Type 0
ReadsFrom t i s = (k : ℕ) × (o : ℕ) × (l : ℕ) × (state_of t i ≡ Reading s k o l)

-- channel i reads slot s and is before its first byte
abbrev pub AtStart : System → ℕ → ℕ → Type 0
AtStart y i s = state_of y.table i ≡ Reading s 0 0 (count y.disk s)

-- the bytes of b that a command with this effect added to a file: a put as many as it reports, also with 162; a put record those and its own $9B, where it succeeded and b has none
abbrev pub added_by : Command → List ℕ → Effect → List ℕ
added_by (Moves (Put Characters)) b e = take e.count b
added_by (Moves (Put Record)) b e = take e.count b ++ if (succeeds e.status && not (member end_of_line b)) (end_of_line ∷ []) []
added_by (Moves (Get f)) b e = []
added_by Close b e = []
added_by (Files k) b e = []
added_by (Unlisted status) b e = []

-- the bytes that a call with this outcome put on channel i; none where it is no put and no put record on this channel
unfoldable pub put_by : ℕ → Call → Outcome → List ℕ
put_by i (cio_of c text b) o = if (eqb c.channel i) (added_by (command_of c.command) b o.effect) []
put_by i (recovery_of protected s) o = []

-- what of r, the bytes yet to come, a get or a get record can hand out: a get record goes through the first $9B
abbrev pub offered : Form → List ℕ → List ℕ
offered Characters r = r
offered Record r = through end_of_line r

-- what one with a buffer of n bytes leaves of r: a get what is behind n bytes; a get record what is behind the line's $9B, whether or not the line fitted
abbrev pub left_of : Form → ℕ → List ℕ → List ℕ
left_of Characters n r = drop n r
left_of Record n r = if (eqb n 0) r (behind end_of_line r)

-- what it answers, 3 aside: a get 1 where the buffer was filled, otherwise 136; a get record 1 where the $9B came, 137 where the buffer filled first, otherwise 136, and 1 for an empty buffer
abbrev pub answered : Form → ℕ → List ℕ → ℕ
answered Characters n r = if (leb n (length r)) success end_of_file
answered Record n r = if (eqb n 0 || member end_of_line (take n r)) success (if (leb n (length r)) truncated end_of_file)

-- what a command with a buffer of n bytes leaves of r, on the channel that has r yet to hand out
abbrev pub left_behind : Command → ℕ → List ℕ → List ℕ
left_behind (Moves (Get f)) n r = left_of f n r
left_behind (Moves (Put f)) n r = r
left_behind Close n r = r
left_behind (Files k) n r = r
left_behind (Unlisted status) n r = r

-- what a call leaves of the bytes r that channel i has yet to hand out
unfoldable pub left_by : ℕ → Call → List ℕ → List ℕ
left_by i (cio_of c text b) r = if (eqb c.channel i) (left_behind (command_of c.command) (length b) r) r
left_by i (recovery_of protected s) r = r

-- what all calls of a list leave of them
unfoldable pub left_after : ℕ → List Call → List ℕ → List ℕ
left_after i [] r = r
left_after i (c ∷ cs) r = left_after i cs (left_by i c r)

-- no get record of the list from channel i answered 137, so that none dropped a byte
abbrev pub Uncut : ℕ → List Event → Type 0
Uncut i [] = Unit {0}
Uncut i (e ∷ es) = (On i (Moves (Get Record)) e.call → e.outcome.effect.status ≢ truncated) × Uncut i es

-- the bytes that a call got from channel i, as many as it reports, out of the buffer after it
unfoldable pub got_by : ℕ → Call → Outcome → List ℕ
got_by i (cio_of c text b) o = if (eqb c.channel i && is_get (command_of c.command)) (take o.effect.count o.buffer) []
got_by i (recovery_of protected s) o = []

-- those that all calls of a list put on channel i, in order
unfoldable pub put_bytes : ℕ → List Event → List ℕ
put_bytes i [] = []
put_bytes i (e ∷ es) = put_by i e.call e.outcome ++ put_bytes i es

-- those that they got from it, in order
unfoldable pub got_bytes : ℕ → List Event → List ℕ
got_bytes i [] = []
got_bytes i (e ∷ es) = got_by i e.call e.outcome ++ got_bytes i es

-- a put or a put record with this effect added no byte: a put that reports none; a put record that reports none and does not succeed
abbrev pub AddsNone : Form → Effect → Type 0
AddsNone Characters e = e.count ≡ 0
AddsNone Record e = (e.count ≡ 0) × Fails e.status

-- a CIO call that found y and had the effect e leaves the file of slot s: it is no open for output and no delete of that file that succeeds, no put and no put record on a channel that writes it but one that added no byte, and no format that succeeds
pub record LeavesFile (s : ℕ) (c : Block) (text : List ℕ) (y : System) (e : Effect) : Type 0 where
  pub opens : Asks c (Files Open) → c.direction ≡ 8 → Finds y.disk (read_name text) s → Fails e.status
  pub deletes : Asks c (Files Delete) → Finds y.disk (read_name text) s → Fails e.status
  pub puts : (f : Form) → Asks c (Moves (Put f)) → WritesTo y.table c.channel s → AddsNone f e
  pub formats : Asks c (Files Format) → Fails e.status

-- a call leaves the file of slot s; a recovery leaves every file
abbrev pub Leaves : ℕ → Call → System → Effect → Type 0
Leaves s (cio_of c text b) y e = LeavesFile s c text y e
Leaves s (recovery_of protected x) y e = Unit {0}

-- a call leaves the name of that file: it is no rename of it that succeeds
abbrev pub LeavesName : ℕ → Call → System → Effect → Type 0
LeavesName s (cio_of c text b) y e = Asks c (Files Rename) → Finds y.disk (old_name text) s → Fails e.status
LeavesName s (recovery_of protected x) y e = Unit {0}

-- every call of the list leaves the file
abbrev pub LeavesAll : ℕ → List Event → Type 0
LeavesAll s [] = Unit {0}
LeavesAll s (e ∷ es) = Leaves s e.call e.found e.outcome.effect × LeavesAll s es

-- and its name
abbrev pub LeavesNameAll : ℕ → List Event → Type 0
LeavesNameAll s [] = Unit {0}
LeavesNameAll s (e ∷ es) = LeavesName s e.call e.found e.outcome.effect × LeavesNameAll s es

module _ (g : Geometry) where
  -- the file's last sector is not empty
  abbrev pub LastInUse : Disk → ℕ → Type 0
  LastInUse d s = (k : ℕ) → member k (chain g d s) ≡ true → next g (d k) ≡ 0 → in_use g (d k) ≢ 0

  -- a get or a get record from channel i on disk d hands out what is left of a file: as much as its buffer b takes or as there is, through the line's $9B for a get record, behind which the buffer is as it was
  pub record HandsOut (d : Disk) (i : ℕ) (sure : Type 0) (f : Form) (left b : List ℕ) (o : Outcome) : Type 0 where
    pub status : o.effect.status ≡ or_end_reached g d b (state_of o.effect.table i) (answered f (length b) left)
    pub count : o.effect.count ≡ min (length b) (length (offered f left))
    pub buffer : o.buffer ≡ take (length b) (offered f left) ++ drop (length (offered f left)) b
    -- with 3 nothing is left
    pub last : o.effect.status ≡ end_reached → left_of f (length b) left ≡ []
    -- and where `sure` holds it answers 3 wherever it succeeds, of at least one byte, and nothing is left
    pub reached : sure → length b ≢ 0 → answered f (length b) left ≡ success → left_of f (length b) left ≡ [] → o.effect.status ≡ end_reached

  -- the file of slot s on disk d stands on disk e, in the same slot, with the same bytes
  pub record FileKept (d e : Disk) (s : ℕ) : Type 0 where
    pub stands : Stands e s
    pub bytes : file g e s ≡ file g d s

  -- an open for output that succeeded: its channel writes a slot that is found under the name read, and whose file is empty
  pub record OpenedOutput (c : Block) (text : List ℕ) (y : System) : Type 0 where
    pub small : c.channel < 8
    pub slot : ℕ
    pub writes : WritesTo y.table c.channel slot
    pub finds : Finds y.disk (read_name text) slot
    pub empty : file g y.disk slot ≡ []

  -- channel i wrote slot s of y; a list of calls that did not close it put these bytes on it and left z, where a call has the outcome that `does` gives
  pub record Stored (y z : System) (does : Call → Outcome) (i s : ℕ) (put : List ℕ) : Type 0 where
    -- the channel still writes it
    pub writes : WritesTo z.table i s
    -- the file stands, with its name, and has what was put behind what it had
    pub stands : Stands z.disk s
    pub named : SameName z.disk s y.disk s
    pub bytes : file g z.disk s ≡ file g y.disk s ++ put
    -- a put or a put record on the channel then answers 1 or 162, or 144; where it succeeds it puts all that it was lent, or the line
    pub next : (f : Form) (c : Block) (text b : List ℕ) → On i (Moves (Put f)) (cio_of c text b) → PutAnswers c.protected (does (cio_of c text b)).effect.status
    pub whole : (f : Form) (c : Block) (text b : List ℕ) → On i (Moves (Put f)) (cio_of c text b) → let o = does (cio_of c text b) in Succeeds o.effect.status → put_by i (cio_of c text b) o ≡ sent f b
    -- a close of the channel with the notch closed answers 144
    pub stays : (c : Call) → On i Close c → protected_in c ≡ true → (does c).effect.status ≡ write_protected
    -- with the notch open it answers 1 and leaves file and name, and the file is no longer open for output
    pub closes : (c : Call) → On i Close c → protected_in c ≡ false → let e = (does c).effect in (e.status ≡ success) × FileKept z.disk e.disk s × SameName e.disk s y.disk s × (flag e.disk s ≡ 0x42)

  -- channel i of y was before the first byte of slot s, whose file has these bytes; a list of calls that did not close it got these from it, left these, and left z; its last sector is not empty where `sure` holds, and none of it was cut off where `uncut` does
  pub record Delivered (bytes : List ℕ) (sure : Type 0) (y z : System) (does : Call → Outcome) (i s : ℕ) (got left : List ℕ) (uncut : Type 0) : Type 0 where
    -- the channel still reads it
    pub reads : ReadsFrom z.table i s
    -- file and name are what they were
    pub kept : FileKept y.disk z.disk s
    pub named : SameName z.disk s y.disk s
    -- what is left is the end of the file, and where nothing was cut off what was got is its beginning
    pub passed : List ℕ
    pub ends : bytes ≡ passed ++ left
    pub begins : uncut → passed ≡ got
    -- a get or a get record from the channel then hands out of what is left
    pub next : (f : Form) (c : Block) (text b : List ℕ) → On i (Moves (Get f)) (cio_of c text b) → HandsOut z.disk i sure f left b (does (cio_of c text b))
    -- and where it answers 136 that is all of it
    pub ended : (f : Form) (c : Block) (text b : List ℕ) → On i (Moves (Get f)) (cio_of c text b) → let o = does (cio_of c text b) in o.effect.status ≡ end_of_file → got_by i (cio_of c text b) o ≡ left

  module _ {X : Type 0} (m : Machine X) where
    -- the two over a list of calls made from x on
    abbrev pub StoredOver : X → ℕ → ℕ → List Call → Type 0
    StoredOver x i s cs = let z = run m cs x in Stored (m.system x) (m.system z) (λ c. m.outcome c z) i s (put_bytes i (events m cs x))

    abbrev pub DeliveredOver : List ℕ → Type 0 → X → ℕ → ℕ → List Call → Type 0
    DeliveredOver bytes sure x i s cs = let z = run m cs x in Delivered bytes sure (m.system x) (m.system z) (λ c. m.outcome c z) i s (got_bytes i (events m cs x)) (left_after i cs bytes) (Uncut i (events m cs x))

    -- a file that was opened for output under the name in text, written and closed; these bytes were put. A list of calls that leave the file left z; it left its name too where `same` holds
    pub record Returns (text put : List ℕ) (s : ℕ) (same : Type 0) (z : X) : Type 0 where
      -- it stands, with these bytes
      pub stands : Stands (m.system z).disk s
      pub bytes : file g (m.system z).disk s ≡ put
      -- and is found under its name, unless it was renamed
      pub finds : same → Finds (m.system z).disk (read_name text) s
      -- an open for input under the name that it has answers 1 on every closed channel
      pub opens : (c : Block) (again b : List ℕ) → Asks c (Files Open) → c.direction ≡ 4 → Finds (m.system z).disk (read_name again) s → c.channel < 8 → open_at (m.system z).table c.channel ≡ false
          → (m.outcome (cio_of c again b) z).effect.status ≡ success
      -- and then gets among any other calls hand out these bytes, from the first to the last; where there are any, 3 comes with the last
      pub reads : (c : Block) (again b : List ℕ) → Asks c (Files Open) → c.direction ≡ 4 → Finds (m.system z).disk (read_name again) s → let call = cio_of c again b in Succeeds (m.outcome call z).effect.status
          → (es : List Call) → StaysOpen c.channel (events m es (m.next call z)) → DeliveredOver put (put ≢ []) (m.next call z) c.channel s es

    -- demand 2, from x on
    pub record Demand2 (x : X) : Type 0 where
      -- an open for output that succeeds
      pub opens : (c : Block) (text b : List ℕ) → Asks c (Files Open) → c.direction ≡ 8 → let call = cio_of c text b in Succeeds (m.outcome call x).effect.status → OpenedOutput c text (m.system (m.next call x))
      -- puts among any other calls, up to the channel's close
      pub puts : (i s : ℕ) → i < 8 → WritesTo (m.system x).table i s → (cs : List Call) → StaysOpen i (events m cs x) → StoredOver x i s cs
      -- any calls that leave a standing file: it keeps its bytes, and its name unless it was renamed
      pub keeps : (s : ℕ) → Stands (m.system x).disk s → (cs : List Call) → LeavesAll s (events m cs x) → FileKept (m.system x).disk (m.system (run m cs x)).disk s
      pub names : (s : ℕ) → Stands (m.system x).disk s → (cs : List Call) → LeavesAll s (events m cs x) → LeavesNameAll s (events m cs x) → SameName (m.system (run m cs x)).disk s (m.system x).disk s
      -- an open for input that succeeds
      pub reopens : (c : Block) (text b : List ℕ) → Asks c (Files Open) → c.direction ≡ 4 → (s : ℕ) → Finds (m.system x).disk (read_name text) s → let call = cio_of c text b in Succeeds (m.outcome call x).effect.status
          → (c.channel < 8) × ((m.system (m.next call x)).disk ≡ (m.system x).disk) × AtStart (m.system (m.next call x)) c.channel s
      -- gets among any other calls, up to the channel's close; where the file's last sector is not empty 3 comes with the last byte
      pub gets : (i s : ℕ) → i < 8 → AtStart (m.system x) i s → (cs : List Call) → StaysOpen i (events m cs x) → DeliveredOver (file g (m.system x).disk s) (LastInUse (m.system x).disk s) x i s cs
      -- the whole: an open for output that succeeds, puts among any other calls, closes with the notch closed too, the close with it open, which answers 1, and any calls that leave the file
      pub whole : (c : Block) (text b : List ℕ) → Asks c (Files Open) → c.direction ≡ 8 → let call = cio_of c text b in Succeeds (m.outcome call x).effect.status
          → (s : ℕ) → WritesTo (m.system (m.next call x)).table c.channel s → (cs : List Call) → StaysOpen c.channel (events m cs (m.next call x)) → (close : Call) → On c.channel Close close → protected_in close ≡ false
          → let y = run m cs (m.next call x) in let put = put_bytes c.channel (events m cs (m.next call x)) in
          ((m.outcome close y).effect.status ≡ success)
          × ((ds : List Call) → let es = events m ds (m.next close y) in LeavesAll s es → Returns text put s (LeavesNameAll s es) (run m ds (m.next close y)))

  -- on any sound disk
  abbrev pub DiskDemand2 : Type 0
  DiskDemand2 = (x : System) → Sound g x.disk x.table → Demand2 (disks g) x

-- on any image that is served, as any medium, and whose disk is sound
abbrev pub ImageDemand2 : Type 0
ImageDemand2 = (m : Medium) (x : ImageTable) → SoundImage m x → let g = geometry_of m in Demand2 g (images g) x
