-- Calls of dos_cio and dos_recover in a row, on an image and the words of a table: each is the rules' call on the table that the words say, so demands 2 and 3 hold of them.
use Rattle.std.specs.Prelude.{true, List, [], ◌≡◌, ℕ, ◌/◌, ◌%◌, replicate}
use Rattle.layout.specs.declared.density.Medium.{Medium}
use Rattle.layout.specs.Image.{Geometry, geometry_of, view}
use Rattle.layout.specs.Channels.{fresh_table}
use Rattle.rules.specs.Cio.{Outcome, outcome}
use Rattle.rules.specs.Recovery.{recover_call}
use Rattle.rules.specs.Lists.{Call, cio_of, recovery_of, Machine, run, ImageTable, system_of, outcome_on, images, SoundImage}
use Rattle.rules.specs.Demand2.{Demand2}
use Rattle.rules.specs.Demand3.{Demand3}
use Rattle.words.specs.Result.{result_of}
use Rattle.words.specs.Words.{is_table, table_of}
use Rattle.capi.specs.Leaves.{cio_leaves}
use Rattle.theory.specs.LinesBack.{LinesBack}

-- what a caller in C keeps between the calls: the image, and the words of the table
pub record ImageWords : Type 0 where
  pub image : List ℕ
  pub words : List ℕ

-- the image with the table that the words say: what the rules speak of
abbrev pub said : ImageWords → ImageTable
said x = record { image = x.image; table = table_of x.words }

-- what one call leaves: its result, the lent buffer, and what the next call finds
pub record Leaves : Type 0 where
  pub result : ℕ
  pub buffer : List ℕ
  pub after : ImageWords

-- a call, as the contracts of dos_cio and dos_recover have it. A recovery is lent neither words nor a buffer
unfoldable pub call_words : Call → ImageWords → Leaves
call_words (cio_of c text b) x = let o = cio_leaves x.image x.words c text b in
    record { result = o.result; buffer = o.buffer; after = record { image = o.image; words = o.table } }
call_words (recovery_of protected s) x = let o = recover_call x.image protected s in
    record { result = result_of o.reply.status o.reply.count; buffer = []; after = record { image = o.image; words = x.words } }

module _ (g : Geometry) where
  -- a call as its caller sees it: status and count as the header takes them out of the result (dos_answer_status, dos_answer_count), the disk and the channels after it, and the buffer. The sectors given out and the slot taken are not told: they are those of the rules
  abbrev pub seen : Call → ImageWords → Outcome
  seen c x = let o = call_words c x in let e = outcome_on c (said x) in
      outcome (record { status = o.result % 256; count = o.result / 256; disk = view g o.after.image; table = table_of o.after.words; given = e.given; took = e.took }) o.buffer

  -- calls of the exported functions on images, whose disks are read by this geometry
  abbrev pub words : Machine ImageWords
  words = record { system = λ x. system_of g (said x); outcome = seen; next = λ c x. (call_words c x).after }

  -- after this list of calls
  pub record AsRules (x : ImageWords) (cs : List Call) : Type 0 where
    -- the words are a table again
    pub table : is_table (run words cs x).words ≡ true
    -- the image, and the channels that the words say, are those of the rules
    pub same : said (run words cs x) ≡ run (images g) cs (said x)
    -- the next call, whichever it is, answers the status and the count of the rules and leaves their buffer
    pub result : (c : Call) → let a = (outcome_on c (run (images g) cs (said x))).answer in (call_words c (run words cs x)).result ≡ result_of a.status a.count
    pub buffer : (c : Call) → (call_words c (run words cs x)).buffer ≡ (outcome_on c (run (images g) cs (said x))).buffer

-- from any image, served or not, and any words that are a table
abbrev pub WordsRun : Type 0
WordsRun = (g : Geometry) (x : ImageWords) → is_table x.words ≡ true → (cs : List Call) → AsRules g x cs

-- a table of forty zeros is the fresh table
abbrev pub zeros : List ℕ
zeros = replicate 40 0

abbrev pub FreshWords : Type 0
FreshWords = (is_table zeros ≡ true) × (table_of zeros ≡ fresh_table)

-- demands 2 and 3 of the exported functions: on an image that is served, as any medium, and whose disk is sound with the channels that the words say
abbrev pub WordsDemand2 : Type 0
WordsDemand2 = (m : Medium) (x : ImageWords) → is_table x.words ≡ true → SoundImage m (said x) → let g = geometry_of m in Demand2 g (words g) x

abbrev pub WordsDemand3 : Type 0
WordsDemand3 = (m : Medium) (x : ImageWords) → is_table x.words ≡ true → SoundImage m (said x) → let g = geometry_of m in Demand3 g (words g) x

-- and lines there and back
abbrev pub WordsLinesBack : Type 0
WordsLinesBack = (m : Medium) (x : ImageWords) → is_table x.words ≡ true → SoundImage m (said x) → LinesBack (words (geometry_of m)) x
