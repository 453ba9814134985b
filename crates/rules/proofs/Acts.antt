-- What a call can end in: a refusal, or one of the acts of the commands and of recovery, with what the checks before it have shown.
use mathlib.Core.Bool.{Bool, true, false, not, ◌&&◌, ◌||◌}
use mathlib.Core.Logic.{◌≢◌}
use mathlib.Core.List.{List, []}
use mathlib.Core.Path.{◌≡◌}
use Prim.Native.Nat.{ℕ, ◌<◌}
use lib.Dec.{eqb}
use lib.ListN.{length}
use Rattle.layout.specs.declared.State.{State}
use Rattle.layout.specs.declared.State.TheVariants.{Closed, Reading, Writing}
use Rattle.layout.specs.declared.Table.{Table}
use Rattle.std.specs.Prelude.{Some, None, Result, Ok}
use Rattle.layout.specs.declared.FileName.{FileName}
use Rattle.rules.specs.declared.Block.{Block}
use Rattle.rules.specs.declared.Form.{Form}
use Rattle.rules.specs.declared.Transfer.TheVariants.{Get, Put}
use Rattle.rules.specs.declared.FileCommand.{FileCommand}
use Rattle.rules.specs.declared.FileCommand.TheVariants.{Open, Status, Rename, Delete, Lock, Unlock, Format}
use Rattle.rules.specs.declared.Command.{Command}
use Rattle.rules.specs.declared.Command.TheVariants.{Moves, Close, Files}
use Rattle.layout.specs.Basics.{member}
use Rattle.layout.specs.Image.{Disk, Geometry}
use Rattle.layout.specs.Volume.{bit_on, bit_off, good, lowest, formatted}
use Rattle.layout.specs.Directory.{flag, count, name, write_flag, write_name, locked, output_flag, find, another, is43}
use Rattle.layout.specs.File.{clean, clean_free, chain, delete, restore}
use Rattle.layout.specs.Channels.{state_of, with_state, open_at, any_open, held, new_slot}
use Rattle.layout.specs.Names.{name_byte, read_name, old_name, new_name, legal, file_name}
use Rattle.layout.specs.Status.{success, succeeds, channel_closed, write_only, write_protected, bad_table, bad_chain}
use Rattle.rules.specs.Get.{Reads, place, readable, fill, gets, GetOutcome, get_keeps, or_end_reached, tells_end}
use Rattle.rules.specs.Put.{Adds, sent, reported, writable, put_from, puts, PutOutcome, put_keeps}
use Rattle.rules.specs.Commands.{Effect, effect, refused, could_change, done, rewritten, made}
use Rattle.rules.specs.Cio.{Outcome, outcome, command_of, Asks}
use Rattle.rules.specs.Recovery.{recoverable, recovered}
use Rattle.rules.specs.Demand1.{put_answers, answers, recovery_answers}
use Rattle.rules.specs.Lists.{Call, cio_of, recovery_of, protected_in, recovering}

-- a refusal's number that tells nothing of the notch, the table or a chain: no success, and neither 144, 163 nor 164
abbrev pub plainly : ℕ → Bool
plainly n = not (succeeds n || eqb n 144 || eqb n 163 || eqb n 164)

-- what is asked of a call: its command, or a recovery
pub data Kind : Type 0 where
  asks : Command → Kind
  recovers : Kind

abbrev pub kind_of : Call → Kind
kind_of (cio_of c text b) = asks (command_of c.command)
kind_of (recovery_of protected s) = recovers

-- the buffer that a call brings
abbrev pub buffer_of : Call → List ℕ
buffer_of (cio_of c text b) = b
buffer_of (recovery_of protected s) = []

-- the numbers that it can answer
abbrev pub answers_to : Call → List ℕ
answers_to (cio_of c text b) = answers c
answers_to (recovery_of protected s) = recovery_answers

-- this command, on a channel below 8
pub record On (c : Block) (k : Command) : Type 0 where
  pub small : c.channel < 8
  pub command : Asks c k

-- a name that was read
pub record Told (n : Result FileName ℕ) : Type 0 where
  pub word : ℕ
  pub extension : ℕ
  pub read : n ≡ Ok (file_name word extension)

abbrev pub bytes : {n : Result FileName ℕ} → Told n → ℕ → ℕ
bytes r = name_byte r.word r.extension

module _ (g : Geometry) (d : Disk) where
  -- a get or a get record on one channel: one that does not read; a sector that cannot be read on; no bytes wanted; bytes read
  pub data GetEnds (f : Form) (b : List ℕ) : State → GetOutcome → Type 0 where
    get_closed : GetEnds f b Closed (get_keeps channel_closed Closed b)
    get_writing : (s p : ℕ) → GetEnds f b (Writing s p) (get_keeps write_only (Writing s p) b)
    get_broken : (s k o l : ℕ) → readable g d s k o ≡ false → GetEnds f b (Reading s k o l) (get_keeps bad_chain (Reading s k o l) b)
    get_none : (s k o l : ℕ) → length b ≡ 0 → GetEnds f b (Reading s k o l) (get_keeps success (Reading s k o l) b)
    get_some : (s k o l : ℕ) → length b ≢ 0 → readable g d s k o ≡ true → GetEnds f b (Reading s k o l) (tells_end g d b (gets s (fill g f d s (place k o l) b)))

  -- why a put on one channel is refused: 144, 163 and 164 tell which test failed
  pub data PutWhy (protected : Bool) : State → ℕ → Type 0 where
    put_plain : {st : State} (n : ℕ) → plainly n ≡ true → PutWhy protected st n
    put_barred : {st : State} → protected ≡ true → PutWhy protected st write_protected
    put_no-table : {st : State} → good (d 360) ≡ false → PutWhy protected st bad_table
    put_broken : (s p : ℕ) → writable g d s p ≡ false → PutWhy protected (Writing s p) bad_chain

  -- a put on one channel: a refusal; no bytes to add; bytes added, with the notch open
  pub data PutEnds (protected : Bool) (b : List ℕ) : State → PutOutcome → Type 0 where
    put_refuses : (st : State) (n : ℕ) → PutWhy protected st n → member n put_answers ≡ true → PutEnds protected b st (put_keeps n d st)
    put_none : (s p : ℕ) → length b ≡ 0 → PutEnds protected b (Writing s p) (put_keeps success d (Writing s p))
    put_some : (s p : ℕ) → protected ≡ false → length b ≢ 0 → good (d 360) ≡ true → writable g d s p ≡ true → PutEnds protected b (Writing s p) (puts s (put_from g b d s p 0))

-- the outcome of bytes read and the effect of bytes added on channel i, for slot s
abbrev pub gotten : Geometry → Disk → Table → ℕ → ℕ → List ℕ → Reads → Outcome
gotten g d t i s b r =
    let p = r.got.place in
    let st = Reading s p.sector p.offset p.left in
    outcome (record { status = or_end_reached g d b st r.got.status; count = r.got.count; disk = d; table = with_state t i st; given = []; took = None }) r.buffer

abbrev pub added : Table → ℕ → ℕ → Form → List ℕ → Adds → Effect
added t i s f b a = record { status = a.added.status; count = reported f b a.added.count; disk = a.disk; table = with_state t i (Writing s a.added.last); given = a.given; took = None }

module _ (g : Geometry) (d : Disk) (t : Table) where
  -- why a call is refused, by what is asked of it: 144, 163 and 164 tell which test failed
  pub data Why (protected : Bool) : Kind → ℕ → Type 0 where
    plain : {k : Kind} (n : ℕ) → plainly n ≡ true → Why protected k n
    barred : {k : Kind} → protected ≡ true → Why protected k write_protected
    no_table : {k : Kind} → good (d 360) ≡ false → Why protected k bad_table
    no-chain : {f : FileCommand} (w : ℕ → ℕ) (s : ℕ) → find d w ≡ Some s → clean g d s ≡ false → Why protected (asks (Files f)) bad_chain
    no_read : {f : Form} (i s k o l : ℕ) → i < 8 → state_of t i ≡ Reading s k o l → readable g d s k o ≡ false → Why protected (asks (Moves (Get f))) bad_chain
    no_write : {f : Form} (i s p : ℕ) → i < 8 → state_of t i ≡ Writing s p → writable g d s p ≡ false → Why protected (asks (Moves (Put f))) bad_chain

  -- what the checks before an act have shown: this command on a closed channel, and where it could change the image the notch is open
  pub record Ready (c : Block) (k : FileCommand) : Type 0 where
    pub on : On c (Files k)
    pub shut : open_at t c.channel ≡ false
    pub permitted : (could_change c.direction k && c.protected) ≡ false

  -- the name read and the slot found, on a good table
  pub record Aimed (n : Result FileName ℕ) (s : ℕ) : Type 0 where
    pub told : Told n
    pub table : good (d 360) ≡ true
    pub at : find d (bytes told) ≡ Some s

  pub record Opens (c : Block) (text : List ℕ) (s : ℕ) : Type 0 where
    pub ready : Ready c Open
    pub direction : c.direction ≡ 4
    pub told : Told (read_name text)
    pub at : find d (bytes told) ≡ Some s
    pub quiet : output_flag (flag d s) ≡ false

  pub record Rewrites (c : Block) (text : List ℕ) (s : ℕ) : Type 0 where
    pub ready : Ready c Open
    pub direction : c.direction ≡ 8
    pub aim : Aimed (read_name text) s
    pub unlocked : locked (flag d s) ≡ false
    pub unheld : held d t s ≡ false
    pub clear : clean g d s ≡ true

  pub record Makes (c : Block) (text : List ℕ) (s : ℕ) : Type 0 where
    pub ready : Ready c Open
    pub direction : c.direction ≡ 8
    pub told : Told (read_name text)
    pub table : good (d 360) ≡ true
    pub missing : find d (bytes told) ≡ None
    pub vacant : new_slot d t ≡ Some s
    pub room : lowest (d 360) ≢ 0

  pub record Gets (f : Form) (c : Block) (b : List ℕ) (s k o l : ℕ) : Type 0 where
    pub on : On c (Moves (Get f))
    pub state : state_of t c.channel ≡ Reading s k o l
    pub wanted : length b ≢ 0
    pub passes : readable g d s k o ≡ true

  pub record Puts (f : Form) (c : Block) (b : List ℕ) (s p : ℕ) : Type 0 where
    pub on : On c (Moves (Put f))
    pub state : state_of t c.channel ≡ Writing s p
    pub permitted : c.protected ≡ false
    pub waiting : length (sent f b) ≢ 0
    pub table : good (d 360) ≡ true
    pub passes : writable g d s p ≡ true

  pub record Renames (c : Block) (text : List ℕ) (s : ℕ) : Type 0 where
    pub ready : Ready c Rename
    pub aim : Aimed (old_name text) s
    pub told : Told (new_name text)
    pub unlocked : locked (flag d s) ≡ false
    pub unheld : held d t s ≡ false
    pub alone : another d (bytes told) s ≡ false

  pub record Deletes (c : Block) (text : List ℕ) (s : ℕ) : Type 0 where
    pub ready : Ready c Delete
    pub aim : Aimed (read_name text) s
    pub unlocked : locked (flag d s) ≡ false
    pub unheld : held d t s ≡ false
    pub clear : clean g d s ≡ true

  -- lock and unlock
  pub record Flags (c : Block) (k : FileCommand) (text : List ℕ) (s : ℕ) : Type 0 where
    pub ready : Ready c k
    pub aim : Aimed (read_name text) s
    pub unheld : held d t s ≡ false

  -- close of a writing channel
  pub record Closes (c : Block) (s p : ℕ) : Type 0 where
    pub on : On c Close
    pub state : state_of t c.channel ≡ Writing s p
    pub permitted : c.protected ≡ false

  pub record Formats (c : Block) : Type 0 where
    pub ready : Ready c Format
    pub none : any_open t ≡ false

  pub record Restores (protected : Bool) (s : ℕ) : Type 0 where
    pub permitted : protected ≡ false
    pub passes : recoverable d s ≡ true
    pub table : good (d 360) ≡ true
    pub legals : legal (name d s) ≡ true
    pub alone : another d (name d s) s ≡ false
    pub clear : clean_free g d s ≡ true

  -- what a call ends in, by what is asked of it
  pub data Ends : Kind → Call → Outcome → Type 0 where
    -- a refusal: all is as it was
    refuses : {k : Kind} {c : Call} (n : ℕ) → Why (protected_in c) k n → member n (answers_to c) ≡ true → Ends k c (outcome (refused n d t) (buffer_of c))
    -- get and get record, of some bytes and of none
    reads : {f : Form} {c : Block} {text b : List ℕ} (s k o l : ℕ) → Gets f c b s k o l → Ends (asks (Moves (Get f))) (cio_of c text b) (gotten g d t c.channel s b (fill g f d s (place k o l) b))
    reads_none : {f : Form} {c : Block} {text b : List ℕ} → On c (Moves (Get f)) → length b ≡ 0 → Ends (asks (Moves (Get f))) (cio_of c text b) (outcome (done g d t d t) b)
    -- put and put record, of some bytes; a put of none
    writes : {f : Form} {c : Block} {text b : List ℕ} (s p : ℕ) → Puts f c b s p → Ends (asks (Moves (Put f))) (cio_of c text b) (outcome (added t c.channel s f b (put_from g (sent f b) d s p 0)) b)
    writes-none : {f : Form} {c : Block} {text b : List ℕ} → On c (Moves (Put f)) → length (sent f b) ≡ 0 → Ends (asks (Moves (Put f))) (cio_of c text b) (outcome (done g d t d t) b)
    -- close of a channel that does not write, of a writing one whose slot is $43, and of one whose slot is not
    frees : {c : Block} {text b : List ℕ} → On c Close → ((s p : ℕ) → state_of t c.channel ≢ Writing s p) → Ends (asks Close) (cio_of c text b) (outcome (done g d t d (with_state t c.channel Closed)) b)
    closes : {c : Block} {text b : List ℕ} (s p : ℕ) → Closes c s p → is43 d s ≡ true → Ends (asks Close) (cio_of c text b) (outcome (done g d t (write_flag d s 0x42) (with_state t c.channel Closed)) b)
    drops : {c : Block} {text b : List ℕ} (s p : ℕ) → Closes c s p → is43 d s ≡ false → Ends (asks Close) (cio_of c text b) (outcome (effect bad_chain d (with_state t c.channel Closed) [] None) b)
    -- open for input, for output over a found file, and of a new one
    opens : {c : Block} {text b : List ℕ} (s : ℕ) → Opens c text s → Ends (asks (Files Open)) (cio_of c text b) (outcome (done g d t d (with_state t c.channel (Reading s 0 0 (count d s)))) b)
    rewrites : {c : Block} {text b : List ℕ} (s : ℕ) → Rewrites c text s → Ends (asks (Files Open)) (cio_of c text b) (outcome (rewritten g d t c.channel s) b)
    makes : {c : Block} {text b : List ℕ} (s : ℕ) (h : Makes c text s) → Ends (asks (Files Open)) (cio_of c text b) (outcome (made g d t c.channel (bytes h.told) s) b)
    -- status, rename, delete, lock, unlock, format
    tells : {c : Block} {text b : List ℕ} → Ready c Status → Ends (asks (Files Status)) (cio_of c text b) (outcome (done g d t d t) b)
    renames : {c : Block} {text b : List ℕ} (s : ℕ) (h : Renames c text s) → Ends (asks (Files Rename)) (cio_of c text b) (outcome (done g d t (write_name d s (bytes h.told)) t) b)
    deletes : {c : Block} {text b : List ℕ} (s : ℕ) → Deletes c text s → Ends (asks (Files Delete)) (cio_of c text b) (outcome (done g d t (delete g d s) t) b)
    locks : {c : Block} {text b : List ℕ} (s : ℕ) → Flags c Lock text s → Ends (asks (Files Lock)) (cio_of c text b) (outcome (done g d t (write_flag d s (bit_on (flag d s) 5)) t) b)
    unlocks : {c : Block} {text b : List ℕ} (s : ℕ) → Flags c Unlock text s → Ends (asks (Files Unlock)) (cio_of c text b) (outcome (done g d t (write_flag d s (bit_off (flag d s) 5)) t) b)
    formats : {c : Block} {text b : List ℕ} → Formats c → Ends (asks (Files Format)) (cio_of c text b) (outcome (done g d t (formatted d) t) b)
    -- recovery
    restores : {protected : Bool} (s : ℕ) → Restores protected s → Ends recovers (recovery_of protected s) (outcome (recovering (recovered success (length (chain g d s)) (restore g d s)) t) [])
