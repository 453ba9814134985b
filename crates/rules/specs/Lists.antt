-- Lists of calls: each finds what the one before left, on disks and on images.
use Rattle.std.specs.Prelude.{Bool, List, [], ◌∷◌, ◌≡◌, ℕ, length, None, Ok}
use Rattle.layout.specs.declared.Table.{Table}
use Rattle.layout.specs.declared.density.Medium.{Medium}
use Rattle.rules.specs.declared.Block.{Block}
use Rattle.rules.specs.declared.FileCommand.TheVariants.{Format}
use Rattle.rules.specs.declared.Command.TheVariants.{Files}
use Rattle.layout.specs.Image.{Disk, Geometry, geometry_of, view}
use Rattle.layout.specs.Header.{served_as}
use Rattle.layout.specs.Status.{Succeeds}
use Rattle.rules.specs.Commands.{Effect}
use Rattle.rules.specs.Cio.{Outcome, outcome, ImageOutcome, Asks, cio, cio_call}
use Rattle.rules.specs.Recovery.{Recovered, ImageRecovered, recover, recover_call}
use Rattle.rules.specs.Sound.{Sound}

-- CIO calls, with any command, channel, direction, name and buffer, and recoveries of any slot; each has the notch either way
pub data Call : Type 0 where
  cio_of : Block → List ℕ → List ℕ → Call
  recovery_of : Bool → ℕ → Call

-- whether the call has the notch closed
abbrev pub protected_in : Call → Bool
protected_in (cio_of c text b) = c.protected
protected_in (recovery_of protected s) = protected

-- a disk with its channels
pub record System : Type 0 where
  pub disk : Disk
  pub table : Table

-- a call that was made: what it found, and its whole outcome
pub record Event : Type 0 where
  pub call : Call
  pub found : System
  pub outcome : Outcome

-- what calls run on. X is what a call finds: the disk with its channels that it holds, a call's outcome there, and what the call leaves for the next
pub record Machine (X : Type 0) : Type 0 where
  pub system : X → System
  pub outcome : Call → X → Outcome
  pub next : Call → X → X

module _ {X : Type 0} (m : Machine X) where
  -- each call finds what the one before left
  unfoldable pub run : List Call → X → X
  run [] x = x
  run (c ∷ cs) x = run cs (m.next c x)

  -- the calls of the list as they were made, one after the other
  unfoldable pub events : List Call → X → List Event
  events [] x = []
  events (c ∷ cs) x = record { call = c; found = m.system x; outcome = m.outcome c x } ∷ events cs (m.next c x)

-- a recovery leaves the channels, gives out nothing and takes no slot for a new file
abbrev pub recovering : Recovered → Table → Effect
recovering r t = record { status = r.reply.status; count = r.reply.count; disk = r.disk; table = t; given = []; took = None }

-- what a call leaves for the next
abbrev pub after : Effect → System
after e = record { disk = e.disk; table = e.table }

module _ (g : Geometry) where
  -- a call on a disk
  unfoldable pub outcome_of : Call → System → Outcome
  outcome_of (cio_of c text b) x = cio g x.disk x.table c text b
  outcome_of (recovery_of protected s) x = outcome (recovering (recover g x.disk protected s) x.table) []

  -- what it does
  abbrev pub perform : Call → System → Effect
  perform c x = (outcome_of c x).effect

  -- calls on disks
  abbrev pub disks : Machine System
  disks = record { system = λ x. x; outcome = outcome_of; next = λ c x. after (perform c x) }

-- an image and a table of channels
pub record ImageTable : Type 0 where
  pub image : List ℕ
  pub table : Table

-- a recovery on an image leaves the channels, gives out nothing and takes no slot for a new file
abbrev pub recovering_on : ImageRecovered → Table → ImageOutcome
recovering_on r t = record { answer = record { status = r.reply.status; count = r.reply.count; table = t }; image = r.image; buffer = []; given = []; took = None }

-- a call on an image, as the contracts of the two functions have it
unfoldable pub outcome_on : Call → ImageTable → ImageOutcome
outcome_on (cio_of c text b) x = cio_call x.image x.table c text b
outcome_on (recovery_of protected s) x = recovering_on (recover_call x.image protected s) x.table

-- what it leaves for the next
abbrev pub after_on : ImageOutcome → ImageTable
after_on o = record { image = o.image; table = o.answer.table }

module _ (g : Geometry) where
  -- the disk that the image holds, with the channels
  abbrev pub system_of : ImageTable → System
  system_of x = record { disk = view g x.image; table = x.table }

  -- a call's outcome, with the disk read from the image that it left
  abbrev pub left_on : ImageOutcome → Outcome
  left_on o = outcome (record { status = o.answer.status; count = o.answer.count; disk = view g o.image; table = o.answer.table; given = o.given; took = o.took }) o.buffer

  -- calls on images, whose disks are read by this geometry
  abbrev pub images : Machine ImageTable
  images = record { system = system_of; outcome = λ c x. left_on (outcome_on c x); next = λ c x. after_on (outcome_on c x) }

-- an image that is served as this medium
abbrev pub IsServed : Medium → ImageTable → Type 0
IsServed m x = served_as x.image ≡ Ok m

-- and whose disk with its channels is sound
pub record SoundImage (m : Medium) (x : ImageTable) : Type 0 where
  pub served : IsServed m x
  pub sound : let g = geometry_of m in Sound g (view g x.image) x.table

-- of every medium: any list of calls leaves an image that is served as it was, and a sound one where it was sound; a format that succeeds makes a sound one of any that is served
pub record ImageSound (m : Medium) : Type 0 where
  pub kept : (x : ImageTable) → IsServed m x → (cs : List Call) → IsServed m (run (images (geometry_of m)) cs x)
  pub calls : (x : ImageTable) → SoundImage m x → (cs : List Call) → SoundImage m (run (images (geometry_of m)) cs x)
  pub formats : (x : ImageTable) → IsServed m x → length x.table.channels ≡ 8 → (c : Block) (text b : List ℕ) → Asks c (Files Format)
      → let call = cio_of c text b in Succeeds (outcome_on call x).answer.status → SoundImage m (after_on (outcome_on call x))
