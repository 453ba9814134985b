-- The status numbers that each call can answer.
use mathlib.Core.Bool.{Bool, true, false}
use mathlib.Core.List.{List, [], ◌∷◌}
use mathlib.Core.Path.{◌≡◌, refl}
use Prim.Native.Nat.{ℕ, suc, zero, ◌+◌}
use lib.Dec.{eqb}
use lib.ListN.{length}
use Rattle.layout.specs.declared.State.{State}
use Rattle.layout.specs.declared.Table.{Table}
use Rattle.layout.specs.declared.density.Medium.{Medium}
use Rattle.std.specs.Prelude.{Ok}
use Rattle.rules.specs.declared.Form.{Form}
use Rattle.rules.specs.declared.Form.TheVariants.{Characters, Record}
use Rattle.rules.specs.declared.Place.{Place}
use Rattle.rules.specs.declared.Transfer.TheVariants.{Get}
use Rattle.rules.specs.declared.Command.TheVariants.{Moves}
use Rattle.layout.specs.Basics.{check, member}
use Rattle.layout.specs.Image.{Disk, Geometry, geometry_of, view}
use Rattle.layout.specs.Header.{served_as}
use Rattle.layout.specs.Channels.{fresh_table}
use Rattle.layout.specs.Status.{success, end_of_file, bad_chain, disk_full}
use Rattle.layout.proofs.Check.{by_check}
use Rattle.rules.specs.Get.{GetOutcome, filled, read_from, fill, gets, or_end_reached}
use Rattle.rules.specs.Put.{PutOutcome, sent, room_for, put_from, puts}
use Rattle.rules.specs.Cio.{Outcome}
use Rattle.rules.specs.Sectors.{SectorOutcome, sector}
use Rattle.rules.specs.WriteHeader.{HeaderOutcome, header_call}
use Rattle.rules.specs.Lists.{Call, cio_of, recovery_of, outcome_of}
use Rattle.rules.specs.Demand1.{open_answers, get_answers, get_record_answers, put_answers, command_answers, sector_answers, header_answers, Answers}
use Rattle.rules.proofs.Acts.{Kind, answers_to, GetEnds, get_closed, get_writing, get_broken, get_none, get_some, PutEnds, put_refuses, put_none, put_some, Ends, refuses, reads, reads_none, writes, writes-none, frees, closes, drops, opens, rewrites, makes, tells, renames, deletes, locks, unlocks, formats, restores}
use Rattle.rules.proofs.Ends.{get_ends, put_ends, answers_are, ends}
use Rattle.rules.proofs.Reached.{by_end}
use Rattle.rules.proofs.Steps.{read_step, fill_record, drop_status}
use Rattle.theory.proofs.Served.{cio-on, recover-on, sector-on, thin_get_on, thin_put_on}

-- what ends a get and a put: what holds of these numbers holds of the status
module _ (g : Geometry) (Q : ℕ → Type 0) (p1 : Q success) where
  -- bytes read: 1, 136 or 164; a get record 137 too
  module _ (f : Form) (p0 : Q (filled f)) (p2 : Q end_of_file) (p3 : Q bad_chain) (d : Disk) (s : ℕ) where
    by_read_from : (n i : ℕ) (p : Place) (b : List ℕ) → Q (read_from g f d s n i p b).got.status
    unfolding read_from
    by_read_from zero i p b = p0
    by_read_from (suc n) i p b = read_step g d s (λ r. Q r.got.status) f n i p b (λ _ _ _. p1) (λ _ _ _. by_read_from n (i + 1) _ _) (λ _ _. p2) (λ _ _. p3)

  pub by_fill : (f : Form) → Q (filled f) → Q end_of_file → Q bad_chain → (d : Disk) (s : ℕ) (p : Place) (b : List ℕ) → Q (fill g f d s p b).got.status
  unfolding fill
  by_fill Characters p0 p2 p3 d s p b = by_read_from Characters p0 p2 p3 d s (length b) 0 p b
  by_fill Record p0 p2 p3 d s p b = fill_record g d s (λ r. Q r.got.status) p b (λ _. drop_status Q g d s _ (λ _. p3) (λ _. p0)) (λ _. by_read_from Record p0 p2 p3 d s (length b) 0 p b)

  -- bytes added: 1 or 162
  pub by_put_from : Q disk_full → (xs : List ℕ) (d : Disk) (s p n : ℕ) → Q (put_from g xs d s p n).added.status
  unfolding put_from
  by_put_from p2 [] d s p n = p1
  by_put_from p2 (x ∷ xs) d s p n = go (eqb (room_for g d s p).sector 0) refl (by_put_from p2 xs)
    where
      go : (c : Bool) → eqb (room_for g d s p).sector 0 ≡ c → ((d : Disk) (s p n : ℕ) → Q (put_from g xs d s p n).added.status) → Q (put_from g (x ∷ xs) d s p n).added.status
      go true e f = rw (e, put_from) p2
      go false e f = rw (e, put_from) (f _ _ _ _)

-- a status is among these
abbrev Among : List ℕ → ℕ → Type 0
Among l n = member n l ≡ true

module _ (g : Geometry) (d : Disk) where
  pub get_answers_lem : {st : State} {b : List ℕ} {o : GetOutcome} → GetEnds g d Characters b st o → Among get_answers o.answer.status
  unfolding gets member
  get_answers_lem get_closed = refl
  get_answers_lem (get_writing s p) = refl
  get_answers_lem (get_broken s k o l p) = refl
  get_answers_lem (get_none s k o l p) = refl
  get_answers_lem {b = b} (get_some s k o l n p) = by_end g d b _ (Among get_answers) _ (by_fill g (Among get_answers) refl Characters refl refl refl d s _ b) (λ _ _ _. refl)

  put_answers_lem : {protected : Bool} {st : State} {b : List ℕ} {o : PutOutcome} → PutEnds g d protected b st o → Among put_answers o.answer.status
  unfolding puts member
  put_answers_lem (put_refuses st n w m) = m
  put_answers_lem (put_none s p q) = refl
  put_answers_lem {b = b} (put_some s p u n q r) = by_put_from g (Among put_answers) refl refl b d s p 0

  read_answers_lem : (f : Form) (direction s : ℕ) (p : Place) (b : List ℕ) (st : State) → Among (command_answers direction (Moves (Get f))) (or_end_reached g d b st (fill g f d s p b).got.status)
  unfolding command_answers member
  read_answers_lem Characters direction s p b st = by_end g d b st (Among get_answers) _ (by_fill g (Among get_answers) refl Characters refl refl refl d s p b) (λ _ _ _. refl)
  read_answers_lem Record direction s p b st = by_end g d b st (Among get_record_answers) _ (by_fill g (Among get_record_answers) refl Record refl refl refl d s p b) (λ _ _ _. refl)

  none_answers : (f : Form) (direction : ℕ) → Among (command_answers direction (Moves (Get f))) success
  unfolding command_answers member
  none_answers Characters direction = refl
  none_answers Record direction = refl

  call_answers : {t : Table} {k : Kind} {c : Call} {o : Outcome} → Ends g d t k c o → Among (answers_to c) o.effect.status
  unfolding command_answers open_answers check member
  call_answers (refuses n w m) = m
  call_answers (reads {f = f} {c = c} {b = b} s k o l h) = rw (answers_are _ _ h.on) (read_answers_lem f c.direction s _ b _)
  call_answers (reads_none {f = f} {c = c} o e) = rw (answers_are _ _ o) (none_answers f c.direction)
  call_answers (writes {f = f} {b = b} s p h) = rw (answers_are _ _ h.on) (by_put_from g (Among put_answers) refl refl (sent f b) d s p 0)
  call_answers (writes-none o e) = rw (answers_are _ _ o) refl
  call_answers (frees o h) = rw (answers_are _ _ o) refl
  call_answers (closes s p h e) = rw (answers_are _ _ h.on) refl
  call_answers (drops s p h e) = rw (answers_are _ _ h.on) refl
  call_answers (opens s h) = rw (answers_are _ _ h.ready.on, h.direction)
  call_answers (rewrites s h) = rw (answers_are _ _ h.ready.on, h.direction)
  call_answers (makes s h) = rw (answers_are _ _ h.ready.on, h.direction)
  call_answers (tells h) = rw (answers_are _ _ h.on) refl
  call_answers (renames s h) = rw (answers_are _ _ h.ready.on) refl
  call_answers (deletes s h) = rw (answers_are _ _ h.ready.on) refl
  call_answers (locks s h) = rw (answers_are _ _ h.ready.on) refl
  call_answers (unlocks s h) = rw (answers_are _ _ h.ready.on) refl
  call_answers (formats h) = rw (answers_are _ _ h.ready.on) refl
  call_answers (restores s h) = refl

  sector-answers : (protected : Bool) (device unit command k : ℕ) (b : List ℕ) → Among sector_answers (sector g d protected device unit command k b).reply.status
  unfolding sector member
  sector-answers protected device unit command k b = by_check P _ _ _ (λ _. refl) λ _. by_check P _ _ _ (λ _. refl) λ _. by_check P _ _ _ (λ _. refl) λ _. by_check P _ _ _ (λ _. refl) λ _. by_check P _ _ _ (λ _. refl) λ _. refl
    where
      P : SectorOutcome → Type 0
      P o = Among sector_answers o.reply.status

-- no call on an image that is served answers anything else
pub all_answers : (l : List ℕ) (m : Medium) → served_as l ≡ Ok m → Answers l
unfolding outcome_of
all_answers l m w = let g = geometry_of m in let d = view g l in record {
  calls = λ t c text b. rw (cio-on l m w t c text b) (call_answers g d (ends g (cio_of c text b) (record { disk = d; table = t })));
  recoveries = λ protected s. rw (recover-on l m w protected s) (call_answers g d (ends g (recovery_of protected s) (record { disk = d; table = fresh_table })));
  sectors = λ protected device unit command k b. rw (sector-on l m w protected device unit command k b) (sector-answers g d protected device unit command k b);
  thin_gets = λ c b. rw (thin_get_on l m w c b) (get_answers_lem g d (get_ends g d Characters c.state b));
  thin_puts = λ protected c b. rw (thin_put_on l m w protected c b) (put_answers_lem g d (put_ends g d protected c.state b));
}

-- nor does the header's writer
pub header-answers : (l : List ℕ) (protected : Bool) → member (header_call l protected).reply.status header_answers ≡ true
unfolding header_call member
header-answers l protected = by_check P _ _ _ (λ _. refl) λ _. by_check P _ _ _ (λ _. refl) λ _. by_check P _ _ _ (λ _. refl) λ _. refl
  where
    P : HeaderOutcome → Type 0
    P o = Among header_answers o.reply.status
