-- Lines there and back: lines put by put record, none with a $9B inside, come out again by get records into buffers that are long enough, line by line, the last with 3, then 136; whatever other calls stand between.
use Rattle.std.specs.Prelude.{true, false, List, [], ◌∷◌, ◌++◌, ◌≢◌, ◌≡◌, ℕ, ◌+◌, ◌≤◌, ◌<◌, length, drop}
use Rattle.layout.specs.declared.density.Medium.{Medium}
use Rattle.rules.specs.declared.Block.{Block}
use Rattle.rules.specs.declared.Form.{Form}
use Rattle.rules.specs.declared.Form.TheVariants.{Record}
use Rattle.rules.specs.declared.Transfer.TheVariants.{Get, Put}
use Rattle.rules.specs.declared.FileCommand.TheVariants.{Open}
use Rattle.rules.specs.declared.Command.TheVariants.{Moves, Close, Files}
use Rattle.rules.specs.declared.Place.{Place}
use Rattle.layout.specs.Basics.{member}
use Rattle.layout.specs.Image.{Disk, Geometry, geometry_of}
use Rattle.layout.specs.File.{end_of_line}
use Rattle.layout.specs.Names.{read_name}
use Rattle.layout.specs.Status.{success, end_reached, Succeeds, end_of_file, truncated}
use Rattle.rules.specs.Get.{read_from, most, readable}
use Rattle.rules.specs.Cio.{Outcome, Asks}
use Rattle.rules.specs.Lists.{Call, cio_of, protected_in, System, Event, Machine, run, events, disks, ImageTable, images, SoundImage}
use Rattle.rules.specs.Sound.{Sound}
use Rattle.rules.specs.Demand2.{On, StaysOpen, WritesTo, Finds, LeavesAll}

-- lines joined, each with its $9B
unfoldable pub joined : List (List ℕ) → List ℕ
joined [] = []
joined (l ∷ ls) = l ++ end_of_line ∷ joined ls

-- the puts on channel i among these calls are put records of these lines, in order, none with a $9B inside, and each succeeded
pub data PutsLines (i : ℕ) : List (List ℕ) → List Event → Type 0 where
  none : PutsLines i [] []
  other : {ls : List (List ℕ)} {es : List Event} (e : Event) → ((f : Form) → On i (Moves (Put f)) e.call → ⊥) → PutsLines i ls es → PutsLines i ls (e ∷ es)
  line : {ls : List (List ℕ)} {es : List Event} (c : Block) (text l : List ℕ) (y : System) (o : Outcome) → On i (Moves (Put Record)) (cio_of c text l) → Succeeds o.effect.status → member end_of_line l ≡ false
      → PutsLines i ls es → PutsLines i (l ∷ ls) (record { call = cio_of c text l; found = y; outcome = o } ∷ es)

-- the gets from channel i among these calls are get records of the first of the lines ls, in order, each into a buffer that is longer than its line, or behind the last line; the lines ms are left
pub data GetsLines (i : ℕ) : List (List ℕ) → List Call → List (List ℕ) → Type 0 where
  none : {ls : List (List ℕ)} → GetsLines i ls [] ls
  other : {ls ms : List (List ℕ)} {cs : List Call} (c : Call) → ((f : Form) → On i (Moves (Get f)) c → ⊥) → GetsLines i ls cs ms → GetsLines i ls (c ∷ cs) ms
  line : {ls ms : List (List ℕ)} {cs : List Call} (c : Block) (text b l : List ℕ) → On i (Moves (Get Record)) (cio_of c text b) → length l < length b → GetsLines i ls cs ms → GetsLines i (l ∷ ls) (cio_of c text b ∷ cs) ms
  end : {ms : List (List ℕ)} {cs : List Call} (c : Block) (text b : List ℕ) → On i (Moves (Get Record)) (cio_of c text b) → GetsLines i [] cs ms → GetsLines i [] (cio_of c text b ∷ cs) ms

-- what the get record of a line answers behind which these are left: 1, and 3 for the last
abbrev pub line_answer : List (List ℕ) → ℕ
line_answer [] = end_reached
line_answer (l ∷ ls) = success

-- what a get record into the buffer b gives, where these lines are left: the first of them with its $9B, into a buffer that is longer than it; 136 and no bytes where none is left and the buffer is not empty
abbrev pub NextLine : List (List ℕ) → List ℕ → Outcome → Type 0
NextLine [] b o = length b ≢ 0 → (o.effect.status ≡ end_of_file) × (o.effect.count ≡ 0) × (o.buffer ≡ b)
NextLine (l ∷ ls) b o = length l < length b → (o.effect.status ≡ line_answer ls) × (o.effect.count ≡ length l + 1) × (o.buffer ≡ l ++ end_of_line ∷ drop (length l + 1) b)

module _ {X : Type 0} (m : Machine X) where
  -- an open for output that succeeds, put records of lines, the close with the notch open, any calls that leave the file, an open for input that succeeds, get records: each gives the next line
  abbrev pub LinesBack : X → Type 0
  LinesBack x =
      (c : Block) (text b : List ℕ) → Asks c (Files Open) → c.direction ≡ 8 → let call = cio_of c text b in Succeeds (m.outcome call x).effect.status
      → (s : ℕ) → WritesTo (m.system (m.next call x)).table c.channel s → (cs : List Call) → let put = events m cs (m.next call x) in StaysOpen c.channel put → (ls : List (List ℕ)) → PutsLines c.channel ls put
      → (close : Call) → On c.channel Close close → protected_in close ≡ false → let y = m.next close (run m cs (m.next call x)) in
      (ds : List Call) → LeavesAll s (events m ds y) → let z = run m ds y in
      (c' : Block) (again b' : List ℕ) → Asks c' (Files Open) → c'.direction ≡ 4 → Finds (m.system z).disk (read_name again) s → let reopen = cio_of c' again b' in Succeeds (m.outcome reopen z).effect.status
      → (es : List Call) → StaysOpen c'.channel (events m es (m.next reopen z)) → (ms : List (List ℕ)) → GetsLines c'.channel ls es ms
      → (k : Block) (name into : List ℕ) → On c'.channel (Moves (Get Record)) (cio_of k name into) → NextLine ms into (m.outcome (cio_of k name into) (run m es (m.next reopen z)))

-- on any sound disk, and on any image that is served, as any medium, and whose disk is sound
abbrev pub DiskLinesBack : Geometry → Type 0
DiskLinesBack g = (x : System) → Sound g x.disk x.table → LinesBack (disks g) x

abbrev pub ImageLinesBack : Type 0
ImageLinesBack = (m : Medium) (x : ImageTable) → SoundImage m x → LinesBack (images (geometry_of m)) x

-- on any disk, damaged too: a line that does not fit is dropped through its $9B, the file's end or a bad sector. However many more bytes were allowed than `most` has, the rest of the line would be the same
abbrev pub DropsAll : Type 0
DropsAll = (g : Geometry) (d : Disk) (s : ℕ) (p : Place) (b : List ℕ) → readable g d s p.sector p.offset ≡ true → length b ≢ 0
    → let r = read_from g Record d s (length b) 0 p b in r.got.status ≡ truncated → let q = r.got.place in (n : ℕ) → most g q ≤ n → read_from g Record d s n 0 q [] ≡ read_from g Record d s (most g q) 0 q []
