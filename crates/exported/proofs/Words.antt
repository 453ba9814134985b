-- A call on words is the call of the rules on the table that they say, and so on along a list: the exported functions run alike to the rules.
use mathlib.Core.Bool.{true}
use mathlib.Core.List.{List, [], ◌∷◌}
use mathlib.Core.Path.{◌≡◌, refl, sym, ap, subst, ◌∙◌}
use Prim.Native.Nat.{ℕ, ◌+◌, ◌*◌, ◌/◌, ◌%◌, ◌<◌}
use native.Mathlib.Omega.{arith}
use lib.Dec.{ltb}
use lib.ListN.{length}
use borrow.Author.Tests.{ltb-true}
use Rattle.layout.specs.declared.Table.{Table}
use Rattle.layout.specs.Basics.{all_below, member}
use Rattle.layout.specs.Image.{Disk, Geometry, geometry_of, view}
use Rattle.layout.specs.Channels.{fresh_table}
use Rattle.layout.proofs.Channels.{with_length}
use Rattle.layout.proofs.Check.{by_served}
use Rattle.layout.proofs.Members.{passes, passes_each}
use Rattle.rules.specs.declared.Block.{Block}
use Rattle.rules.specs.Cio.{Outcome, ImageOutcome, cio_call}
use Rattle.rules.specs.Lists.{Call, cio_of, recovery_of, run, ImageTable, system_of, outcome_on, after_on, images, SoundImage}
use Rattle.rules.proofs.Acts.{Kind, Ends, refuses, reads, reads_none, writes, writes-none, frees, closes, drops, opens, rewrites, makes, tells, renames, deletes, locks, unlocks, formats, restores}
use Rattle.rules.proofs.Ends.{ends_as}
use Rattle.words.specs.Result.{result_of}
use Rattle.words.specs.Words.{in_force, state_in, channel_at, kind_in_force, is_table, channels_from, table_of}
use Rattle.words.proofs.Tables.{table_length, table-eight, words_say, words-table}
use Rattle.capi.proofs.Laws.{on-table}
use Rattle.theory.proofs.Never161.{numbers, every_status}
use Rattle.theory.proofs.Alike.{Alike, demand2_alike, demand3_alike}
use Rattle.theory.proofs.OnImages.{image-sound, image_demand2, image_demand3}
use Rattle.theory.proofs.LinesBack.{lines_back}
use Rattle.exported.specs.Words.{ImageWords, said, call_words, seen, words, WordsRun, FreshWords, WordsDemand2, WordsDemand3, WordsLinesBack}

-- a call leaves as many channels as there were
many : {g : Geometry} {d : Disk} (t : Table) {k : Kind} {c : Call} {o : Outcome} → Ends g d t k c o → length o.effect.table.channels ≡ length t.channels
many t (refuses n w m) = refl
many t (reads {c = c} s k o l h) = with_length t c.channel _
many t (reads_none o e) = refl
many t (writes {c = c} s p h) = with_length t c.channel _
many t (writes-none o e) = refl
many t (frees {c = c} o h) = with_length t c.channel _
many t (closes {c = c} s p h e) = with_length t c.channel _
many t (drops {c = c} s p h e) = with_length t c.channel _
many t (opens {c = c} s h) = with_length t c.channel _
many t (rewrites {c = c} s h) = with_length t c.channel _
many t (makes {c = c} s h) = with_length t c.channel _
many t (tells h) = refl
many t (renames s h) = refl
many t (deletes s h) = refl
many t (locks s h) = refl
many t (unlocks s h) = refl
many t (formats h) = refl
many t (restores s h) = refl

call_many : (l : List ℕ) (t : Table) (c : Block) (text b : List ℕ) → length (cio_call l t c text b).answer.table.channels ≡ length t.channels
unfolding cio_call
call_many l t c text b = by_served (λ (o : ImageOutcome). length o.answer.table.channels ≡ length t.channels) _ _ _ (λ _ _. refl) (λ m _. many t (ends_as (geometry_of m) (view (geometry_of m) l) t c text b _ refl))

-- every status is a byte, so that a result can be taken apart again
pub number_byte : (n : ℕ) → member n numbers ≡ true → n < 256
unfolding passes numbers
number_byte n m = ltb-true n 256 (passes_each (λ k. ltb k 256) numbers refl n m)

status_byte : (c : Call) (x : ImageTable) → (outcome_on c x).answer.status < 256
unfolding outcome_on
status_byte (cio_of c text b) x = (every_status _ number_byte).calls x.image x.table c text b
status_byte (recovery_of protected s) x = (every_status _ number_byte).recoveries x.image protected s

-- one call
module _ (x : ImageWords) (h : is_table x.words ≡ true) where
  call_table : (c : Call) → is_table (call_words c x).after.words ≡ true
  unfolding call_words
  call_table (cio_of c text b) = rw (on-table x.image x.words c text b h) (words-table x.words _ h)
  call_table (recovery_of protected s) = h

  call_said : (c : Call) → said (call_words c x).after ≡ after_on (outcome_on c (said x))
  unfolding call_words outcome_on
  call_said (cio_of c text b) =
      let t = table_of x.words in
      let o = cio_call x.image t c text b in
      rw (on-table x.image x.words c text b h)
      (ap (λ u. record { image = o.image; table = u }) (words_say x.words o.answer.table (table_length x.words h) (call_many x.image t c text b ∙ table-eight x.words)))
  call_said (recovery_of protected s) = refl

  call_result : (c : Call) → let a = (outcome_on c (said x)).answer in (call_words c x).result ≡ result_of a.status a.count
  unfolding call_words outcome_on
  call_result (cio_of c text b) = rw (on-table x.image x.words c text b h)
  call_result (recovery_of protected s) = refl

  call_buffer : (c : Call) → (call_words c x).buffer ≡ (outcome_on c (said x)).buffer
  unfolding call_words outcome_on
  call_buffer (cio_of c text b) = rw (on-table x.image x.words c text b h)
  call_buffer (recovery_of protected s) = refl

  -- what the caller sees of a call is its outcome on the image
  call_seen : (g : Geometry) (c : Call) → seen g c x ≡ (images g).outcome c (said x)
  call_seen g c =
      let e = (outcome_on c (said x)).answer in
      let y = call_said c in
      rw (call_result c, call_buffer c, ap (λ (z : ImageTable). z.image) y, ap (λ (z : ImageTable). z.table) y, status_in e.status e.count (status_byte c (said x)), count_in e.status e.count (status_byte c (said x)))
    where
      status_in : (status count : ℕ) → status < 256 → (status + 256 * count) % 256 ≡ status
      status_in status count h = omega arith

      count_in : (status count : ℕ) → status < 256 → (status + 256 * count) / 256 ≡ count
      count_in status count h = omega arith

-- a list of calls
module _ (g : Geometry) where
  run-table : (cs : List Call) (x : ImageWords) → is_table x.words ≡ true → is_table (run (words g) cs x).words ≡ true
  unfolding run
  run-table [] x h = h
  run-table (c ∷ cs) x h = run-table cs (call_words c x).after (call_table x h c)

  run-said : (cs : List Call) (x : ImageWords) → is_table x.words ≡ true → said (run (words g) cs x) ≡ run (images g) cs (said x)
  unfolding run
  run-said [] x h = refl
  run-said (c ∷ cs) x h = run-said cs (call_words c x).after (call_table x h c) ∙ ap (run (images g) cs) (call_said x h c)

  -- so the exported functions run alike to the rules on images
  words-alike : (x : ImageWords) → is_table x.words ≡ true → Alike (words g) (images g) x (said x)
  words-alike x h = record {
    systems = λ cs. ap (system_of g) (run-said cs x h);
    outcomes = λ cs c. call_seen (run (words g) cs x) (run-table cs x h) g c ∙ ap ((images g).outcome c) (run-said cs x h);
  }

pub words-run : WordsRun
words-run g x h cs =
    let y = run (words g) cs x in
    let t = run-table g cs x h in
    let e = run-said g cs x h in
    record {
      table = t;
      same = e;
      result = λ c. call_result y t c ∙ ap (λ z. result_of (outcome_on c z).answer.status (outcome_on c z).answer.count) e;
      buffer = λ c. call_buffer y t c ∙ ap (λ z. (outcome_on c z).buffer) e;
    }

pub words_demand2 : WordsDemand2
words_demand2 m x h a = let g = geometry_of m in demand2_alike (words g) (images g) g x (said x) (words-alike g x h) (image_demand2 m (said x) a)

pub words_demand3 : WordsDemand3
words_demand3 m x h a = let g = geometry_of m in demand3_alike (words g) (images g) g x (said x) (words-alike g x h) (image_demand3 m (said x) a)

pub words_lines_back : WordsLinesBack
unfolding run
words_lines_back m x h a = let g = geometry_of m in
    lines_back (words g) g x (words_demand2 m x h a) (λ c. words_demand2 m (call_words c x).after (call_table x h c) (subst (SoundImage m) (sym (call_said x h c)) ((image-sound m).calls (said x) a (c ∷ []))))

-- forty zeros
pub fresh-words : FreshWords
unfolding is_table all_below kind_in_force in_force table_of channels_from channel_at state_in fresh_table
fresh-words = (refl, refl)
