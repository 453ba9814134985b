-- 3, the file's end reached: exactly where the request says so, and the next get answers 136.
use mathlib.Core.Bool.{Bool, true, false, ◌&&◌, true≢false}
use mathlib.Core.List.{List}
use mathlib.Core.Logic.{◌≢◌, ◌⊎◌, inl, inr}
use mathlib.Core.Path.{◌≡◌, refl, sym, ap, ◌∙◌}
use Prim.Native.Nat.{ℕ, suc, zero}
use native.Mathlib.Omega.{arith}
use lib.Dec.{eqb, leb, ltb}
use lib.ListN.{length}
use borrow.Author.Tests.{eqb-true, le-leb}
use Rattle.layout.specs.declared.State.{State}
use Rattle.layout.specs.declared.State.TheVariants.{Closed, Reading, Writing}
use Rattle.layout.specs.declared.Table.{Table}
use Rattle.rules.specs.declared.Block.{Block}
use Rattle.rules.specs.declared.Transfer.{Transfer}
use Rattle.rules.specs.declared.Transfer.TheVariants.{Get, Put}
use Rattle.rules.specs.declared.FileCommand.{FileCommand}
use Rattle.rules.specs.declared.FileCommand.TheVariants.{Open, Status, Rename, Delete, Lock, Unlock, Format}
use Rattle.rules.specs.declared.Command.TheVariants.{Moves, Files}
use Rattle.rules.specs.declared.Form.{Form}
use Rattle.rules.specs.declared.Form.TheVariants.{Characters, Record}
use Rattle.rules.specs.declared.Place.{Place}
use Rattle.layout.specs.Basics.{member}
use Rattle.layout.specs.Image.{Disk, Geometry}
use Rattle.layout.specs.File.{in_use, fits}
use Rattle.layout.specs.Status.{success, end_reached, end_of_file}
use Rattle.layout.proofs.Check.{by_check}
use Rattle.layout.proofs.Members.{member_apart}
use Rattle.layout.proofs.Logic.{and_left, and_right, or_cases, or_right}
use Rattle.rules.specs.Get.{Reads, GetOutcome, get_keeps, place, reads, read_from, fill, gets, readable, read_on, at_end, or_end_reached, tells_end, get_as}
use Rattle.rules.specs.Cio.{command_of, is_get, cio_call}
use Rattle.rules.specs.Demand1.{open_answers, put_answers, command_answers, answers, recovery_answers, sector_answers, header_answers, Answers, Unserved}
use Rattle.rules.proofs.Acts.{GetEnds, get_closed, get_writing, get_broken, get_none, get_some}
use Rattle.rules.proofs.Ends.{get_ends, by_command}
use Rattle.rules.proofs.Reached.{by_end, or_end, or_refused, Finished, finished, gets_some}
use Rattle.rules.proofs.Steps.{seek-ended, fill_record, fill_place}
use Rattle.theory.proofs.Answers.{by_fill}
use Rattle.theory.proofs.Demand1.{demand1, on_any}
use Rattle.theory.specs.EndReached.{AtTheEnd, OnlyGets, EndReached}

module _ (g : Geometry) (d : Disk) where
  -- from a place at the end no byte comes
  module _ (s k o l : ℕ) (h : Finished g d k o) where
    read_end : (f : Form) (n : ℕ) (b : List ℕ) → n ≢ 0 → read_from g f d s n 0 (place k o l) b ≡ reads end_of_file 0 (place k o l) b
    unfolding read_from
    read_end f zero b n = absurd (n refl)
    read_end f (suc m) b n = rw (seek-ended g d s k o l h.none h.last, read_from)

    fill_end : (f : Form) (b : List ℕ) → length b ≢ 0 → fill g f d s (place k o l) b ≡ reads end_of_file 0 (place k o l) b
    unfolding fill
    fill_end Characters b n = read_end Characters (length b) b n
    fill_end Record b n = fill_record g d s (λ z. z ≡ reads end_of_file 0 (place k o l) b) (place k o l) b (λ e. absurd (let q = ap (λ (z : Reads). z.got.status) (sym (read_end Record (length b) b n)) ∙ e in omega arith)) (λ _. read_end Record (length b) b n)

    -- so the next get of at least one byte
    next_get : readable g d s k o ≡ true → (f : Form) (b : List ℕ) → length b ≢ 0 → get_as g f d (Reading s k o l) b ≡ get_keeps end_of_file (Reading s k o l) b
    unfolding gets
    next_get r f b n =
        gets_some g d s k o l f b n r ∙ ap (λ z. tells_end g d b (gets s z)) (fill_end f b n)
        ∙ ap (λ m. get_keeps m (Reading s k o l) b) (or_refused g d b (Reading s k o l) (λ e. omega arith))

  -- a channel that bytes were read on may be read on where it is at the end
  abbrev Enterable : ℕ → ℕ → Type 0
  Enterable s k = (k ≡ 0) ⊎ (fits g (d k) s k ≡ true)

  begun : (s k o : ℕ) → readable g d s k o ≡ true → (ltb s 64 ≡ true) × Enterable s k
  unfolding readable
  begun s k o e = (and_left (ltb s 64) _ e, go (or_cases (eqb k 0) (fits g (d k) s k && leb o (in_use g (d k))) (and_right (ltb s 64) _ e)))
    where
      go : (eqb k 0 ≡ true) ⊎ ((fits g (d k) s k && leb o (in_use g (d k))) ≡ true) → Enterable s k
      go (inl z) = inl (eqb-true k 0 z)
      go (inr f) = inr (and_left (fits g (d k) s k) (leb o (in_use g (d k))) f)

  still : (s k o : ℕ) → ltb s 64 ≡ true → Enterable s k → Finished g d k o → readable g d s k o ≡ true
  unfolding readable
  still s k o u (inl z) h = absurd (h.entered z)
  still s k o u (inr f) h = let e = h.used in rw (u, f, le-leb o (in_use g (d k)) (omega arith)) (or_right (eqb k 0) true refl)

  -- reading by itself never answers 3
  fill_else : (f : Form) (s : ℕ) (p : Place) (b : List ℕ) → (fill g f d s p b).got.status ≢ end_reached
  fill_else Characters = by_fill g (λ n. n ≢ end_reached) (λ e. omega arith) Characters (λ e. omega arith) (λ e. omega arith) (λ e. omega arith) d
  fill_else Record = by_fill g (λ n. n ≢ end_reached) (λ e. omega arith) Record (λ e. omega arith) (λ e. omega arith) (λ e. omega arith) d

  read_else : (f : Form) (st : State) (b : List ℕ) → (read_on g f d st b).answer.status ≢ end_reached
  unfolding read_on gets
  read_else f Closed b = λ e. omega arith
  read_else f (Writing s p) b = λ e. omega arith
  read_else f (Reading s k o l) b = by_check P _ _ _ (λ _ e. omega arith) λ _. by_check P _ _ _ (λ _ e. omega arith) λ _. fill_else f s (place k o l) b
    where
      P : GetOutcome → Type 0
      P z = z.answer.status ≢ end_reached

  -- after a 3
  Next : GetOutcome → Type 0
  Next z = z.answer.status ≡ end_reached → (form : Form) (into : List ℕ) → length into ≢ 0 → get_as g form d z.answer.state into ≡ get_keeps end_of_file z.answer.state into

  next : (f : Form) (b : List ℕ) {st : State} {z : GetOutcome} → GetEnds g d f b st z → Next z
  unfolding Next gets
  next f b get_closed = λ e. absurd (omega arith)
  next f b (get_writing s p) = λ e. absurd (omega arith)
  next f b (get_broken s k o l q) = λ e. absurd (omega arith)
  next f b (get_none s k o l q) = λ e. absurd (omega arith)
  next f b (get_some s k i l n q) = λ e form into m.
      let r = (fill g f d s (place k i l) b).got in
      let p = r.place in
      let (u, v) = begun s k i q in
      let h = by_end g d b (Reading s p.sector p.offset p.left) (λ x. x ≡ end_reached → Finished g d p.sector p.offset) r.status (λ y. absurd (fill_else f s (place k i l) b y)) (λ _ _ y _. finished g d s p.sector p.offset p.left y) e in
      next_get s p.sector p.offset p.left h (still s p.sector p.offset u (fill_place g d s (Enterable s) (λ _ y. inr y) f (place k i l) b v) h) form into m

  at_the_end : (f : Form) (st : State) (b : List ℕ) → AtTheEnd g d f st b
  unfolding Next get_as
  at_the_end f st b =
      let p = (read_on g f d st b).answer in
      record {
        count = refl;
        state = refl;
        buffer = refl;
        exactly = (
          by_end g d b p.state (λ n. n ≡ end_reached → (length b ≢ 0) × (p.status ≡ success) × (at_end g d p.state ≡ true)) p.status (λ e. absurd (read_else f st b e)) (λ s n e _. (n, s, e)),
          λ (n, s, e). ap (or_end_reached g d b p.state) s ∙ or_end g d b p.state n e,
        );
        otherwise = by_end g d b p.state (λ n. n ≢ end_reached → n ≡ p.status) p.status (λ _. refl) (λ _ _ _ h. absurd (h refl));
        next = next f b (get_ends g d f st b);
      }

-- 3 is in no list of answers but those of gets
not_among : (c : Block) → is_get (command_of c.command) ≡ false → member end_reached (answers c) ≡ false
unfolding answers command_answers open_answers member
not_among c = by_check (λ l. is_get (command_of c.command) ≡ false → member end_reached l ≡ false) _ _ _ (λ _ _. refl) λ _. by_command (λ k. is_get k ≡ false → member end_reached (command_answers c.direction k) ≡ false) c.command moved (λ _. refl) filed (λ _. refl) (λ _. refl)
  where
    moved : (k : Transfer) → is_get (Moves k) ≡ false → member end_reached (command_answers c.direction (Moves k)) ≡ false
    moved (Get f) e = absurd (true≢false e)
    moved (Put f) e = refl

    filed : (k : FileCommand) → is_get (Files k) ≡ false → member end_reached (command_answers c.direction (Files k)) ≡ false
    filed Open e = by_check (λ l. member end_reached l ≡ false) _ _ _ (λ _. refl) λ _. by_check (λ l. member end_reached l ≡ false) _ _ _ (λ _. refl) λ _. refl
    filed Status e = refl
    filed Rename e = refl
    filed Delete e = refl
    filed Lock e = refl
    filed Unlock e = refl
    filed Format e = refl

-- a status among the numbers of a list without 3
else : (l : List ℕ) {status : ℕ} (list : List ℕ) → member end_reached list ≡ false → (Answers l → member status list ≡ true) → ((n : ℕ) → Unserved l n → status ≡ n) → status ≢ end_reached
else l {status = status} list n on = on_any (λ x. x ≢ end_reached) (λ e. omega arith) (λ e. omega arith) l (λ a. member_apart end_reached list n status (on a))

only_gets : OnlyGets
unfolding member
only_gets = record {
  calls = λ l t c text b e. go l t c text b e (is_get (command_of c.command)) refl;
  recoveries = λ l protected s. else l recovery_answers refl (λ a. a.recoveries protected s) (λ n u. u.recoveries protected s);
  sectors = λ l protected device unit command k b. else l sector_answers refl (λ a. a.sectors protected device unit command k b) (λ n u. u.sectors protected device unit command k b);
  thin_puts = λ l protected c b. else l put_answers refl (λ a. a.thin_puts protected c b) (λ n u. u.thin_puts protected c b);
  headers = λ l protected. member_apart end_reached header_answers refl _ (demand1.headers l protected);
}
  where
    go : (l : List ℕ) (t : Table) (c : Block) (text b : List ℕ) → (cio_call l t c text b).answer.status ≡ end_reached → (r : Bool) → is_get (command_of c.command) ≡ r → r ≡ true
    go l t c text b e true h = refl
    go l t c text b e false h = absurd (else l (answers c) (not_among c h) (λ a. a.calls t c text b) (λ n u. u.calls t c text b) e)

pub end-reached : EndReached
end-reached = record { gets = at_the_end; only = only_gets }
