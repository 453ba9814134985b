-- Demand 1: a refused call reports no bytes and changes nothing, but for the partial transfers.
use mathlib.Core.Bool.{Bool, true, true≢false}
use mathlib.Core.List.{List}
use mathlib.Core.Path.{◌≡◌, refl, sym, ◌∙◌}
use Prim.Native.Nat.{ℕ}
use Rattle.layout.specs.declared.State.{State}
use Rattle.layout.specs.declared.Table.{Table}
use Rattle.layout.specs.declared.density.Medium.{Medium}
use Rattle.std.specs.Prelude.{Ok}
use Rattle.rules.specs.declared.Place.{Place}
use Rattle.rules.specs.declared.Form.{Form}
use Rattle.rules.specs.declared.Form.TheVariants.{Characters, Record}
use Rattle.rules.specs.declared.Transfer.TheVariants.{Get, Put}
use Rattle.rules.specs.declared.Command.{Command}
use Rattle.rules.specs.declared.Command.TheVariants.{Moves}
use Rattle.layout.specs.Basics.{member}
use Rattle.layout.specs.Image.{Disk, Geometry, geometry_of, view}
use Rattle.layout.specs.Header.{served_as}
use Rattle.layout.specs.Channels.{fresh_table}
use Rattle.layout.specs.Status.{Succeeds, Fails}
use Rattle.layout.proofs.Check.{by_check, by_served}
use Rattle.rules.specs.Get.{GetOutcome, fill, gets, or_end_reached}
use Rattle.rules.specs.Put.{PutOutcome, sent, put_from, puts}
use Rattle.rules.specs.Cio.{Outcome, ImageOutcome, command_of, leaves, cio_call}
use Rattle.rules.specs.Recovery.{ImageRecovered, recover_call}
use Rattle.rules.specs.Sectors.{SectorOutcome, ImageSectorOutcome, sector, sector_call}
use Rattle.rules.specs.Thin.{ImagePutOutcome, read_lent, write_lent}
use Rattle.rules.specs.WriteHeader.{HeaderOutcome, header_call}
use Rattle.rules.specs.Lists.{Call, cio_of, recovery_of, outcome_of}
use Rattle.rules.specs.Demand1.{partials, Refusal, Unchanged, Refusals}
use Rattle.rules.proofs.Acts.{Kind, asks, recovers, buffer_of, GetEnds, get_closed, get_writing, get_broken, get_none, get_some, PutEnds, put_refuses, put_none, put_some, Ends, refuses, reads, reads_none, writes, writes-none, frees, closes, drops, opens, rewrites, makes, tells, renames, deletes, locks, unlocks, formats, restores}
use Rattle.rules.proofs.Ends.{get_ends, put_ends, ends}
use Rattle.rules.proofs.Reached.{by_end}
use Rattle.theory.proofs.Served.{kept-image}
use Rattle.theory.proofs.Answers.{by_fill, by_put_from}

-- what is no refusal: success, and a partial transfer
module _ {A : Type 0} {k : Command} where
  done : {status : ℕ} → Succeeds status → Refusal k status → A
  done e h = absurd (h.failed e)

  partial : {status : ℕ} → member status (partials k) ≡ true → Refusal k status → A
  partial m h = absurd (true≢false (sym m ∙ h.whole))

-- so what bytes read answer is no refusal, nor what bytes added do
bytes_read : {A : Type 0} (g : Geometry) (d : Disk) (f : Form) (s : ℕ) (p : Place) (b : List ℕ) (st : State) → Refusal (Moves (Get f)) (or_end_reached g d b st (fill g f d s p b).got.status) → A
unfolding partials member
bytes_read {A = A} g d Characters s p b st = by_end g d b st (λ n. Refusal (Moves (Get Characters)) n → A) _ (by_fill g (λ n. Refusal (Moves (Get Characters)) n → A) (done refl) Characters (done refl) (partial refl) (partial refl) d s p b) (λ _ _ _. done refl)
bytes_read {A = A} g d Record s p b st = by_end g d b st (λ n. Refusal (Moves (Get Record)) n → A) _ (by_fill g (λ n. Refusal (Moves (Get Record)) n → A) (done refl) Record (partial refl) (partial refl) (partial refl) d s p b) (λ _ _ _. done refl)

bytes-added : {A : Type 0} (g : Geometry) (d : Disk) (f : Form) (s p : ℕ) (b : List ℕ) → Refusal (Moves (Put f)) (put_from g b d s p 0).added.status → A
unfolding partials member
bytes-added {A = A} g d f s p b = by_put_from g (λ n. Refusal (Moves (Put f)) n → A) (done refl) (partial refl) b d s p 0

-- what a refused get, put or sector call leaves of a disk and of what it was lent
abbrev GetKept : State → List ℕ → GetOutcome → Type 0
GetKept st b o = (o.answer.count ≡ 0) × (o.answer.state ≡ st) × (o.buffer ≡ b)

abbrev PutKept : Disk → State → PutOutcome → Type 0
PutKept d st o = (o.answer.count ≡ 0) × (o.answer.state ≡ st) × (o.disk ≡ d)

abbrev SectorKept : Disk → List ℕ → SectorOutcome → Type 0
SectorKept d b o = (o.reply.count ≡ 0) × (o.disk ≡ d) × (o.buffer ≡ b)

-- and a call
pub record Kept (d : Disk) (t : Table) (b : List ℕ) (o : Outcome) : Type 0 where
  pub count : o.effect.count ≡ 0
  pub disk : o.effect.disk ≡ d
  pub table : o.effect.table ≡ t
  pub buffer : o.buffer ≡ b

-- the call answered a refusal: a recovery's is any number that is no success
abbrev Refuses : Kind → ℕ → Type 0
Refuses (asks k) n = Refusal k n
Refuses recovers n = Fails n

module _ (g : Geometry) (d : Disk) where
  -- a get and a put on one channel
  get_kept : {st : State} {b : List ℕ} {o : GetOutcome} → GetEnds g d Characters b st o → Refusal (Moves (Get Characters)) o.answer.status → GetKept st b o
  unfolding gets
  get_kept get_closed h = (refl, refl, refl)
  get_kept (get_writing s p) h = (refl, refl, refl)
  get_kept (get_broken s k o l p) h = (refl, refl, refl)
  get_kept (get_none s k o l p) h = (refl, refl, refl)
  get_kept {b = b} (get_some s k o l n p) h = bytes_read g d Characters s _ b _ h

  put_kept : {protected : Bool} {st : State} {b : List ℕ} {o : PutOutcome} → PutEnds g d protected b st o → Refusal (Moves (Put Characters)) o.answer.status → PutKept d st o
  unfolding puts
  put_kept (put_refuses st n w m) h = (refl, refl, refl)
  put_kept (put_none s p q) h = (refl, refl, refl)
  put_kept {b = b} (put_some s p u n q r) h = bytes-added g d Characters s p b h

  sector-refused : (protected : Bool) (device unit command k : ℕ) (b : List ℕ) → Fails (sector g d protected device unit command k b).reply.status → SectorKept d b (sector g d protected device unit command k b)
  unfolding sector
  sector-refused protected device unit command k b = by_check P _ _ _ (λ _ _. (refl, refl, refl)) λ _. by_check P _ _ _ (λ _ _. (refl, refl, refl)) λ _. by_check P _ _ _ (λ _ _. (refl, refl, refl)) λ _.
      by_check P _ _ _ (λ _ _. (refl, refl, refl)) λ _. by_check P _ _ _ (λ _ h. absurd (h refl)) λ _ h. absurd (h refl)
    where
      P : SectorOutcome → Type 0
      P o = Fails o.reply.status → SectorKept d b o

  call_kept : {t : Table} {k : Kind} {c : Call} {o : Outcome} → Ends g d t k c o → Refuses k o.effect.status → Kept d t (buffer_of c) o
  unfolding partials member
  call_kept (refuses n w m) h = record { count = refl; disk = refl; table = refl; buffer = refl }
  call_kept (reads {f = f} {b = b} s k o l p) h = bytes_read g d f s _ b _ h
  call_kept (reads_none o e) h = done refl h
  call_kept (writes {f = f} {b = b} s p q) h = bytes-added g d f s p (sent f b) h
  call_kept (writes-none o e) h = done refl h
  call_kept (frees o p) h = done refl h
  call_kept (closes s p q e) h = done refl h
  call_kept (drops s p q e) h = partial refl h
  call_kept (opens s p) h = done refl h
  call_kept (rewrites s p) h = done refl h
  call_kept (makes s p) h = done refl h
  call_kept (tells p) h = done refl h
  call_kept (renames s p) h = done refl h
  call_kept (deletes s p) h = done refl h
  call_kept (locks s p) h = done refl h
  call_kept (unlocks s p) h = done refl h
  call_kept (formats p) h = done refl h
  call_kept (restores s p) h = absurd (h refl)

-- the same of the image that holds the disk
pub unchanged : (l : List ℕ) (m : Medium) (w : served_as l ≡ Ok m) (t : Table) (b : List ℕ) (o : Outcome) → Kept (view (geometry_of m) l) t b o → Unchanged l t b (leaves (geometry_of m) l o)
unchanged l m w t b o u = record { count = u.count; image = kept-image l m w _ u.disk; table = u.table; buffer = u.buffer }

-- 203, 205 and a refusal of the call on the disk alike
pub refusals : Refusals
unfolding cio_call recover_call outcome_of sector_call read_lent write_lent header_call
refusals = record {
  calls = λ l t c text b. by_served (λ (o : ImageOutcome). Refusal (command_of c.command) o.answer.status → Unchanged l t b o) _ _ _
      (λ _ _ _. record { count = refl; image = refl; table = refl; buffer = refl }) (λ m w h. unchanged l m w t b _ (call_kept _ _ (ends (geometry_of m) (cio_of c text b) (record { disk = view (geometry_of m) l; table = t })) h));
  recoveries = λ l protected s. by_served (λ (r : ImageRecovered). Fails r.reply.status → (r.reply.count ≡ 0) × (r.image ≡ l)) _ _ _ (λ _ _ _. (refl, refl))
      (λ m w h. let k = call_kept _ _ (ends (geometry_of m) (recovery_of protected s) (record { disk = view (geometry_of m) l; table = fresh_table })) h in (k.count, kept-image l m w _ k.disk));
  sectors = λ l protected device unit command k b. by_served (λ (o : ImageSectorOutcome). Fails o.reply.status → (o.reply.count ≡ 0) × (o.image ≡ l) × (o.buffer ≡ b)) _ _ _ (λ _ _ _. (refl, refl, refl))
      (λ m w h. let (n, e, f) = sector-refused (geometry_of m) (view (geometry_of m) l) protected device unit command k b h in (n, kept-image l m w _ e, f));
  thin_gets = λ l c b. by_served (λ (o : GetOutcome). Refusal (Moves (Get Characters)) o.answer.status → GetKept c.state b o) _ _ _ (λ _ _ _. (refl, refl, refl)) (λ m _. get_kept _ _ (get_ends (geometry_of m) (view (geometry_of m) l) Characters c.state b));
  thin_puts = λ l protected c b. by_served (λ (o : ImagePutOutcome). Refusal (Moves (Put Characters)) o.answer.status → (o.answer.count ≡ 0) × (o.answer.state ≡ c.state) × (o.image ≡ l)) _ _ _ (λ _ _ _. (refl, refl, refl))
      (λ m w h. let (n, f, e) = put_kept _ _ (put_ends (geometry_of m) (view (geometry_of m) l) protected c.state b) h in (n, f, kept-image l m w _ e));
  headers = λ l protected.
      let P : HeaderOutcome → Type 0 = λ o. Fails o.reply.status → (o.reply.count ≡ 0) × (o.image ≡ l) in
      by_check P _ _ _ (λ _ _. (refl, refl)) λ _. by_check P _ _ _ (λ _ _. (refl, refl)) λ _. by_check P _ _ _ (λ _ h. absurd (h refl)) λ _ h. absurd (h refl);
}
