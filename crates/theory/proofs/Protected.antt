-- The notch: with it closed no call changes the image, and 144 is answered with it closed alone.
use mathlib.Core.Bool.{Bool, true, false, ◌&&◌, true≢false}
use mathlib.Core.List.{List, [], ◌∷◌}
use mathlib.Core.Logic.{◌≢◌}
use mathlib.Core.Path.{◌≡◌, refl, sym, ap, ◌∙◌}
use Prim.Native.Nat.{ℕ}
use native.Mathlib.Omega.{arith}
use lib.Dec.{eqb}
use Rattle.layout.specs.declared.State.{State}
use Rattle.layout.specs.declared.Table.{Table}
use Rattle.std.specs.Prelude.{Err}
use Rattle.rules.specs.declared.Form.{Form}
use Rattle.rules.specs.declared.Form.TheVariants.{Characters, Record}
use Rattle.rules.specs.declared.Block.{Block}
use Rattle.rules.specs.declared.Place.{Place}
use Rattle.layout.specs.Basics.{member}
use Rattle.layout.specs.Image.{Disk, Geometry, geometry_of, view}
use Rattle.layout.specs.Header.{served_as}
use Rattle.layout.specs.Channels.{fresh_table}
use Rattle.layout.specs.Status.{write_protected}
use Rattle.layout.proofs.Check.{by_check, by_served}
use Rattle.layout.proofs.Logic.{and_right}
use Rattle.layout.proofs.Members.{member_apart}
use Rattle.rules.specs.Get.{GetOutcome, fill, or_end_reached}
use Rattle.rules.specs.Put.{PutOutcome, sent, put_from, puts}
use Rattle.rules.specs.Cio.{Outcome, ImageOutcome, cio_call}
use Rattle.rules.specs.Recovery.{ImageRecovered, recover_call}
use Rattle.rules.specs.Sectors.{SectorOutcome, ImageSectorOutcome, is_write, sector, sector_call}
use Rattle.rules.specs.Thin.{ImagePutOutcome, read_lent, write_lent}
use Rattle.rules.specs.WriteHeader.{HeaderOutcome, header_call}
use Rattle.rules.specs.Lists.{Call, cio_of, recovery_of, protected_in, Machine, run, ImageTable, outcome_of, outcome_on, images}
use Rattle.rules.specs.Demand1.{get_answers}
use Rattle.rules.specs.Protected.{AllProtected, Protects, OnlyProtected}
use Rattle.rules.proofs.Acts.{Kind, plainly, Why, plain, barred, no_table, no-chain, no_read, no_write, put_plain, put_barred, put_no-table, put_broken, PutEnds, put_refuses, put_none, put_some, Ends, refuses, reads, reads_none, writes, writes-none, frees, closes, drops, opens, rewrites, makes, tells, renames, deletes, locks, unlocks, formats, restores}
use Rattle.rules.proofs.Ends.{get_ends, put_ends, ends}
use Rattle.rules.proofs.Reached.{by_end}
use Rattle.theory.proofs.Served.{kept-image, unserved-apart}
use Rattle.theory.proofs.Answers.{by_fill, by_put_from, get_answers_lem}

-- the notch is not both closed and open
clash : {A : Type 0} {protected : Bool} → protected ≡ true → protected ≡ false → A
clash p q = absurd (true≢false (sym p ∙ q))

-- an open for output went on where the notch is open
output : (c : Block) → c.direction ≡ 8 → (eqb c.direction 8 && c.protected) ≡ false → c.protected ≡ false
output c e p = rw e at p

module _ (g : Geometry) (d : Disk) where
  -- with the notch closed the rows before every act that changes the disk refuse
  ends_protected : {t : Table} {k : Kind} {c : Call} {o : Outcome} → Ends g d t k c o → protected_in c ≡ true → o.effect.disk ≡ d
  ends_protected (refuses n w m) q = refl
  ends_protected (reads s k o l h) q = refl
  ends_protected (reads_none o e) q = refl
  ends_protected (writes s p h) q = clash q h.permitted
  ends_protected (writes-none o e) q = refl
  ends_protected (frees o h) q = refl
  ends_protected (closes s p h e) q = clash q h.permitted
  ends_protected (drops s p h e) q = refl
  ends_protected (opens s h) q = refl
  ends_protected (rewrites {c = c} s h) q = clash q (output c h.direction h.ready.permitted)
  ends_protected (makes {c = c} s h) q = clash q (output c h.direction h.ready.permitted)
  ends_protected (tells h) q = refl
  ends_protected (renames s h) q = clash q h.ready.permitted
  ends_protected (deletes s h) q = clash q h.ready.permitted
  ends_protected (locks s h) q = clash q h.ready.permitted
  ends_protected (unlocks s h) q = clash q h.ready.permitted
  ends_protected (formats h) q = clash q h.ready.permitted
  ends_protected (restores s h) q = clash q h.permitted

  put_protected : {st : State} {b : List ℕ} {o : PutOutcome} → PutEnds g d true b st o → o.disk ≡ d
  put_protected (put_refuses st n w m) = refl
  put_protected (put_none s p n) = refl
  put_protected (put_some s p u n t q) = clash refl u

  sector_protected : (device unit command k : ℕ) (b : List ℕ) → (sector g d true device unit command k b).disk ≡ d
  unfolding sector
  sector_protected device unit command k b = by_check P _ _ _ (λ _. refl) λ _. by_check P _ _ _ (λ _. refl) λ _. by_check P _ _ _ (λ _. refl) λ n. by_check P _ _ _ (λ _. refl) λ _. by_check P _ _ _ (λ w. absurd (true≢false (rw w at n))) λ _. refl
    where
      P : SectorOutcome → Type 0
      P o = o.disk ≡ d

-- one call
calls : (l : List ℕ) (t : Table) (c : Block) (text b : List ℕ) → c.protected ≡ true → (cio_call l t c text b).image ≡ l
unfolding cio_call outcome_of
calls l t c text b q = by_served (λ (o : ImageOutcome). o.image ≡ l) _ _ _ (λ _ _. refl)
    (λ m w. kept-image l m w _ (ends_protected _ _ (ends (geometry_of m) (cio_of c text b) (record { disk = view (geometry_of m) l; table = t })) q))

recoveries : (l : List ℕ) (protected : Bool) (s : ℕ) → protected ≡ true → (recover_call l protected s).image ≡ l
unfolding recover_call outcome_of
recoveries l protected s q = by_served (λ (o : ImageRecovered). o.image ≡ l) _ _ _ (λ _ _. refl)
    (λ m w. kept-image l m w _ (ends_protected _ _ (ends (geometry_of m) (recovery_of protected s) (record { disk = view (geometry_of m) l; table = fresh_table })) q))

call_image : (c : Call) (x : ImageTable) → protected_in c ≡ true → (outcome_on c x).image ≡ x.image
unfolding outcome_on
call_image (cio_of c text b) x q = calls x.image x.table c text b q
call_image (recovery_of protected s) x q = recoveries x.image protected s q

-- a list keeps the image where each of its calls does
module _ {X : Type 0} (m : Machine X) (image : X → List ℕ) (keeps : (c : Call) (x : X) → protected_in c ≡ true → image (m.next c x) ≡ image x) where
  pub list_image : (cs : List Call) (x : X) → AllProtected cs → image (run m cs x) ≡ image x
  unfolding run
  list_image [] x q = refl
  list_image (c ∷ cs) x (q, qs) = list_image cs (m.next c x) qs ∙ keeps c x q

pub protects : Protects
unfolding sector_call write_lent header_call
protects = record {
  calls = calls;
  recoveries = λ l s. recoveries l true s refl;
  sectors = λ l device unit command k b. by_served (λ (o : ImageSectorOutcome). o.image ≡ l) _ _ _ (λ _ _. refl) (λ m w. kept-image l m w _ (sector_protected (geometry_of m) (view (geometry_of m) l) device unit command k b));
  thin_puts = λ l c b. by_served (λ (o : ImagePutOutcome). o.image ≡ l) _ _ _ (λ _ _. refl) (λ m w. kept-image l m w _ (put_protected _ _ (put_ends (geometry_of m) (view (geometry_of m) l) true c.state b)));
  headers = λ l.
      let P : HeaderOutcome → Type 0 = λ o. o.image ≡ l in
      by_check P _ _ _ (λ _. refl) λ _. by_check P _ _ _ (λ _. refl) λ n. absurd (true≢false n);
  lists = λ g. list_image (images g) (λ x. x.image) call_image;
}

-- any other number
abbrev Other : ℕ → Type 0
Other n = n ≢ write_protected

-- with the notch open no row answers 144, and no act does
module _ (g : Geometry) (d : Disk) where
  why_other : {t : Table} {protected : Bool} {k : Kind} {n : ℕ} → Why g d t protected k n → protected ≡ false → Other n
  why_other (plain n p) q e = true≢false (sym p ∙ ap plainly e)
  why_other (barred p) q e = clash p q
  why_other (no_table h) q e = omega arith
  why_other (no-chain w s f h) q e = omega arith
  why_other (no_read i s k o l z p h) q e = omega arith
  why_other (no_write i s p z r h) q e = omega arith

  -- bytes read, and bytes added
  read_other : (f : Form) (s : ℕ) (p : Place) (b : List ℕ) (st : State) → Other (or_end_reached g d b st (fill g f d s p b).got.status)
  read_other f s p b st = by_end g d b st Other _ (filled-other f) (λ _ _ _ e. omega arith)
    where
      filled-other : (f : Form) → Other (fill g f d s p b).got.status
      filled-other Characters = by_fill g Other (λ e. omega arith) Characters (λ e. omega arith) (λ e. omega arith) (λ e. omega arith) d s p b
      filled-other Record = by_fill g Other (λ e. omega arith) Record (λ e. omega arith) (λ e. omega arith) (λ e. omega arith) d s p b

  added-other : (b : List ℕ) (s p : ℕ) → Other (put_from g b d s p 0).added.status
  added-other b s p = by_put_from g Other (λ e. omega arith) (λ e. omega arith) b d s p 0

  ends-other : {t : Table} {k : Kind} {c : Call} {o : Outcome} → Ends g d t k c o → protected_in c ≡ false → Other o.effect.status
  ends-other (refuses n w m) q = why_other w q
  ends-other (reads {f = f} {b = b} s k o l h) q = read_other f s _ b _
  ends-other (reads_none o n) q = λ e. omega arith
  ends-other (writes {f = f} {b = b} s p h) q = added-other (sent f b) s p
  ends-other (writes-none o n) q = λ e. omega arith
  ends-other (frees o h) q = λ e. omega arith
  ends-other (closes s p h v) q = λ e. omega arith
  ends-other (drops s p h v) q = λ e. omega arith
  ends-other (opens s h) q = λ e. omega arith
  ends-other (rewrites s h) q = λ e. omega arith
  ends-other (makes s h) q = λ e. omega arith
  ends-other (tells h) q = λ e. omega arith
  ends-other (renames s h) q = λ e. omega arith
  ends-other (deletes s h) q = λ e. omega arith
  ends-other (locks s h) q = λ e. omega arith
  ends-other (unlocks s h) q = λ e. omega arith
  ends-other (formats h) q = λ e. omega arith
  ends-other (restores s h) q = λ e. omega arith

  put_other : {st : State} {b : List ℕ} {o : PutOutcome} → PutEnds g d false b st o → Other o.answer.status
  unfolding puts
  put_other (put_refuses st n (put_plain _ p) m) = λ e. true≢false (sym p ∙ ap plainly e)
  put_other (put_refuses st n (put_barred p) m) = λ e. true≢false (sym p)
  put_other (put_refuses st n (put_no-table h) m) = λ e. omega arith
  put_other (put_refuses st n (put_broken s p w) m) = λ e. omega arith
  put_other (put_none s p n) = λ e. omega arith
  put_other {b = b} (put_some s p u n t q) = added-other b s p

  sector-other : (device unit command k : ℕ) (b : List ℕ) → Other (sector g d false device unit command k b).reply.status
  unfolding sector
  sector-other device unit command k b = by_check P _ _ _ (λ _ e. omega arith) λ _. by_check P _ _ _ (λ _ e. omega arith) λ _. by_check P _ _ _ (λ p _. true≢false (sym (and_right (is_write command) false p))) λ _. by_check P _ _ _ (λ _ e. omega arith) λ _. by_check P _ _ _ (λ _ e. omega arith) λ _ e. omega arith
    where
      P : SectorOutcome → Type 0
      P o = Other o.reply.status

-- nor do 203 and 205
unserved-other : (l : List ℕ) (n : ℕ) → served_as l ≡ Err n → Other n
unserved-other l = unserved-apart l write_protected (λ e. omega arith) (λ e. omega arith)

pub only_protected : OnlyProtected
unfolding cio_call recover_call outcome_of sector_call read_lent write_lent header_call member
only_protected = record {
  calls = λ l t c text b q. by_served (λ (o : ImageOutcome). Other o.answer.status) _ _ _ (unserved-other l) (λ m _. ends-other _ _ (ends (geometry_of m) (cio_of c text b) (record { disk = view (geometry_of m) l; table = t })) q);
  recoveries = λ l s. by_served (λ (o : ImageRecovered). Other o.reply.status) _ _ _ (unserved-other l) (λ m _. ends-other _ _ (ends (geometry_of m) (recovery_of false s) (record { disk = view (geometry_of m) l; table = fresh_table })) refl);
  sectors = λ l device unit command k b. by_served (λ (o : ImageSectorOutcome). Other o.reply.status) _ _ _ (unserved-other l) (λ m _. sector-other (geometry_of m) (view (geometry_of m) l) device unit command k b);
  thin_gets = λ l c b. by_served (λ (o : GetOutcome). Other o.answer.status) _ _ _ (unserved-other l) (λ m _. member_apart write_protected get_answers refl _ (get_answers_lem _ _ (get_ends (geometry_of m) (view (geometry_of m) l) Characters c.state b)));
  thin_puts = λ l c b. by_served (λ (o : ImagePutOutcome). Other o.answer.status) _ _ _ (unserved-other l) (λ m _. put_other _ _ (put_ends (geometry_of m) (view (geometry_of m) l) false c.state b));
  headers = λ l.
      let P : HeaderOutcome → Type 0 = λ o. Other o.reply.status in
      by_check P _ _ _ (λ _ e. omega arith) λ _. by_check P _ _ _ (λ p _. true≢false (sym p)) λ _. by_check P _ _ _ (λ _ e. omega arith) λ _ e. omega arith;
}
