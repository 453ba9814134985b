-- What is got from a channel, among any other calls, is the file from its first byte on, but for what get records dropped.
use mathlib.Core.Bool.{Bool, true, false, ◌||◌}
use mathlib.Core.List.{List, [], ◌∷◌, ◌++◌, append_assoc}
use mathlib.Core.Logic.{◌≢◌, ◌⊎◌, inl, inr}
use mathlib.Core.Path.{◌≡◌, refl, sym, ap, subst, ◌∙◌}
use Prim.Native.Nat.{ℕ, ◌<◌}
use native.Mathlib.Omega.{arith}
use lib.Dec.{leb, eqb}
use lib.ListN.{length, take, drop, take-append-drop, length-take}
use lib.Seq.{take_all, take-append_seam}
use borrow.Author.Tests.{eqb-true, leb-false}
use Rattle.layout.specs.declared.State.TheVariants.{Writing}
use Rattle.rules.specs.declared.Form.{Form}
use Rattle.rules.specs.declared.Form.TheVariants.{Characters, Record}
use Rattle.rules.specs.declared.Transfer.TheVariants.{Get}
use Rattle.rules.specs.declared.Command.TheVariants.{Moves, Close}
use Rattle.layout.specs.Basics.{if, member, through, behind}
use Rattle.layout.specs.Image.{Disk, Geometry}
use Rattle.layout.specs.Directory.{count}
use Rattle.layout.specs.File.{end_of_line, chain, file}
use Rattle.layout.specs.Channels.{state_of}
use Rattle.layout.specs.Status.{success, end_reached, write_protected, end_of_file, truncated}
use Rattle.layout.proofs.Lines.{through-behind, through_length, through-within, through_beyond}
use Rattle.rules.specs.Get.{or_end_reached}
use Rattle.rules.specs.Cio.{Outcome}
use Rattle.rules.specs.Lists.{Call, cio_of, recovery_of, System, after, perform, run, disks, outcome_of, events}
use Rattle.rules.specs.Sound.{Stands, OnPlace, before, on, Sound}
use Rattle.rules.specs.Demand2.{On, offered, left_of, answered, left_by, left_after, Uncut, LastInUse, HandsOut, StaysOpen, AtStart, got_by, got_bytes, DeliveredOver}
use Rattle.rules.proofs.Reached.{or_same, or_refused}
use Rattle.theory.proofs.Standing.{bytes_same}
use Rattle.theory.proofs.Delete.{Chain, clean_used}
use Rattle.theory.proofs.Contents.{bytes_of, content-same}
use Rattle.theory.proofs.Reading.{member-behind, rest, rest-before, rest-on, on_pos}
use Rattle.theory.proofs.Stays.{Stays, Both, both-none, both_join, stays-file, stays-last}
use Rattle.theory.proofs.SoundChange.{reads-holds}
use Rattle.theory.proofs.SoundCalls.{call_sound}
use Rattle.theory.proofs.Moving.{got-on, left-on, NoGet, getting}
use Rattle.theory.proofs.Reader.{Reads, get_call}
use Rattle.theory.proofs.Channel.{QuietCall, quiet_state, quiet_keeps}

-- what is left of a file that stays is what was left
stays-rest : (g : Geometry) (d d' : Disk) (s : ℕ) → Stays g d d' s → Chain g d s (chain g d s) → (k o l : ℕ) → OnPlace g d s k o l → rest g d' s k o ≡ rest g d s k o
stays-rest g d d' s p c k o l (before z _ _) = rest-before g d' s k o z ∙ stays-file g d d' s p ∙ sym (rest-before g d s k o z)
stays-rest g d d' s p c k o l (on m _ _) =
    let n = on_pos g d s c k m in
    rest-on g d' s k o n ∙ rw (p.sectors k m, p.links, content-same g d d' _ (λ x i. ap (bytes_of g) (p.sectors x (member-behind k x (chain g d s) i)))) (sym (rest-on g d s k o n))

-- the bytes that it passes over: with a get record of a buffer that is not empty all of the line
passed_of : Form → ℕ → List ℕ → List ℕ
passed_of Characters n r = take n r
passed_of Record n r = if (eqb n 0) [] (through end_of_line r)

passed-left : (f : Form) (n : ℕ) (r : List ℕ) → passed_of f n r ++ left_of f n r ≡ r
unfolding passed_of
passed-left Characters n r = take-append-drop n r
passed-left Record n r = go (eqb n 0)
  where
    go : (t : Bool) → if t [] (through end_of_line r) ++ if t r (behind end_of_line r) ≡ r
    go true = refl
    go false = through-behind end_of_line r

module _ (g : Geometry) (d : Disk) (i : ℕ) (sure : Type 0) where
  -- an answer but 3 is what is answered, 3 aside
  told : (f : Form) (r b : List ℕ) (o : Outcome) → HandsOut g d i sure f r b o → (m : ℕ) → o.effect.status ≡ m → m ≢ end_reached → answered f (length b) r ≡ m
  told f r b o h m e = or_same g d b _ _ m (sym h.status ∙ e)

  -- the bytes that a get or a get record reports are those that it handed out
  got_is : (f : Form) (r b : List ℕ) (o : Outcome) → HandsOut g d i sure f r b o → take o.effect.count o.buffer ≡ take (length b) (offered f r)
  got_is f r b o h = rw (h.count, h.buffer, ← length-take (length b) (offered f r)) (take-append_seam (take (length b) (offered f r)) (drop (length (offered f r)) b))

  -- where it answers 136 they are all that was left
  got_all : (f : Form) (r b : List ℕ) (o : Outcome) → HandsOut g d i sure f r b o → o.effect.status ≡ end_of_file → take (length b) (offered f r) ≡ r
  got_all Characters r b o h e = go (leb (length b) (length r)) refl (told Characters r b o h end_of_file e (λ q. omega arith))
    where
      go : (t : Bool) → leb (length b) (length r) ≡ t → if t success end_of_file ≡ end_of_file → take (length b) r ≡ r
      go true p q = absurd (omega arith)
      go false p q = take_all (length b) r (let n = leb-false (length b) (length r) p in omega arith)
  got_all Record r b o h e = go (eqb (length b) 0) (member end_of_line (take (length b) r)) refl (leb (length b) (length r)) refl (told Record r b o h end_of_file e (λ q. omega arith))
    where
      go : (z a : Bool) → member end_of_line (take (length b) r) ≡ a → (t : Bool) → leb (length b) (length r) ≡ t → if (z || a) success (if t truncated end_of_file) ≡ end_of_file → take (length b) (through end_of_line r) ≡ r
      go true a m t p q = absurd (omega arith)
      go false true m t p q = absurd (omega arith)
      go false false m true p q = absurd (omega arith)
      go false false m false p q = through_beyond end_of_line (length b) r m ∙ take_all (length b) r (let n = leb-false (length b) (length r) p in omega arith)

  -- but for 137 these are the bytes handed out
  got-passed : (f : Form) (r b : List ℕ) (o : Outcome) → HandsOut g d i sure f r b o → (f ≡ Record → o.effect.status ≢ truncated) → passed_of f (length b) r ≡ take (length b) (offered f r)
  unfolding passed_of
  got-passed Characters r b o h u = refl
  got-passed Record r b o h u = go (eqb (length b) 0) refl (member end_of_line (take (length b) r)) refl (leb (length b) (length r)) refl (λ e. u refl (h.status ∙ ap (or_end_reached g d b _) e ∙ or_refused g d b _ (λ q. omega arith)))
    where
      go : (z : Bool) → eqb (length b) 0 ≡ z → (a : Bool) → member end_of_line (take (length b) r) ≡ a → (t : Bool) → leb (length b) (length r) ≡ t → (if (z || a) success (if t truncated end_of_file) ≢ truncated)
          → if z [] (through end_of_line r) ≡ take (length b) (through end_of_line r)
      go true e a m t p q = rw (eqb-true (length b) 0 e)
      go false e true m t p q = sym (take_all (length b) (through end_of_line r) (through-within end_of_line (length b) r m))
      go false e false m true p q = absurd (q refl)
      go false e false m false p q = let n = leb-false (length b) (length r) p in let l = through_length end_of_line r in sym (take_all (length b) (through end_of_line r) (omega arith))

module _ (g : Geometry) (roomy : 0 < g.room) (i s : ℕ) (z : i < 8) where
  -- a call that is no get from the channel and does not close it
  quiet_reads : (c : Call) (r : List ℕ) (y : System) → Reads g s r y i → QuietCall i c y.table (perform g c y).status → Reads g s r (after (perform g c y)) i × Both g y.disk (perform g c y).disk s
  quiet_reads c r y h q =
      let m = reads-holds (state_of y.table i) s h.sector h.offset h.left h.reads in
      let (p, n) = quiet_keeps g roomy y h.sound i z s m c q in
      let (v, _, l) = h.sound.reading i s h.sector h.offset h.left z h.reads in (
        record {
          sound = call_sound g roomy c y h.sound;
          sector = h.sector;
          offset = h.offset;
          left = h.left;
          reads = quiet_state g roomy y h.sound i z s m c q ∙ h.reads;
          bytes = stays-rest g y.disk (perform g c y).disk s p (clean_used g y.disk s (h.sound.chains s v)).whole h.sector h.offset h.left l ∙ h.bytes;
        },
        (p, n),
      )

  -- a call passes over the first of what was left before, and but for 137 these are the bytes that it got
  record Leaves (c : Call) (r : List ℕ) (y : System) : Type 0 where
    passed : List ℕ
    ends : r ≡ passed ++ left_by i c r
    begins : (On i (Moves (Get Record)) c → (perform g c y).status ≢ truncated) → passed ≡ got_by i c (outcome_of g c y)
    reads : Reads g s (left_by i c r) (after (perform g c y)) i
    both : Both g y.disk (perform g c y).disk s

  -- a put on the channel finds it reading
  not_writing : (y : System) (r : List ℕ) → Reads g s r y i → (x p : ℕ) → state_of y.table i ≡ Writing x p → ⊥
  not_writing y r h x p e = let f = h.reads in let v : ◌≡◌ {A = ℕ} 0 1 = cc in omega arith

  stands : (r : List ℕ) (y : System) → Reads g s r y i → Stands y.disk s
  stands r y h = (h.sound.reading i s h.sector h.offset h.left z h.reads).0

  call_reads : (c : Call) (r : List ℕ) (y : System) → (On i Close c → (perform g c y).status ≡ write_protected) → Reads g s r y i → Leaves c r y
  unfolding got_by left_by
  call_reads (cio_of c text b) r y n h = go (getting i c text b)
    where
      call : Call
      call = cio_of c text b

      o : Outcome
      o = outcome_of g call y

      go : ((f : Form) × On i (Moves (Get f)) call) ⊎ NoGet i c text b → Leaves call r y
      go (inl (f, k)) =
          let (q, m, d) = get_call g s i z f c text b k r y h ⊥ absurd in
          let e = left-on i c text b k r in
          record {
            passed = passed_of f (length b) r;
            ends = rw e (sym (passed-left f (length b) r));
            begins = λ u. got-passed g y.disk i ⊥ f r b o q (λ x. u (subst (λ form. On i (Moves (Get form)) call) x k)) ∙ sym (got-on i c text b k o ∙ got_is g y.disk i ⊥ f r b o q);
            reads = rw e m;
            both = rw d (both-none g y.disk s (stands r y h));
          }
      go (inr k) =
          let (p, q) = quiet_reads call r y h (record { closes = λ m j. n (j, m); gets = λ f m j x p o l _. k.none (j, m); puts = λ f _ _ x p. not_writing y r h x p }) in
          record { passed = []; ends = rw (k.left r); begins = λ _. sym (k.got o); reads = rw (k.left r) p; both = q }
  call_reads (recovery_of protected x) r y n h = let (p, q) = quiet_reads (recovery_of protected x) r y h tt in record { passed = []; ends = refl; begins = λ _. refl; reads = p; both = q }

  -- and after any list that does not close the channel
  record LeavesAll (cs : List Call) (r : List ℕ) (y : System) : Type 0 where
    passed : List ℕ
    ends : r ≡ passed ++ left_after i cs r
    begins : Uncut i (events (disks g) cs y) → passed ≡ got_bytes i (events (disks g) cs y)
    reads : Reads g s (left_after i cs r) (run (disks g) cs y) i
    both : Both g y.disk (run (disks g) cs y).disk s

  calls_read : (cs : List Call) (r : List ℕ) (y : System) → StaysOpen i (events (disks g) cs y) → Reads g s r y i → LeavesAll cs r y
  unfolding got_bytes left_after run events
  calls_read [] r y n h = record { passed = []; ends = refl; begins = λ _. refl; reads = h; both = both-none g y.disk s (stands r y h) }
  calls_read (c ∷ cs) r y (n, ns) h =
      let p = call_reads c r y n h in
      let q = calls_read cs (left_by i c r) (after (perform g c y)) ns p.reads in
      record {
        passed = p.passed ++ q.passed;
        ends = p.ends ∙ ap (λ l. p.passed ++ l) q.ends ∙ sym (append_assoc p.passed q.passed (left_after i cs (left_by i c r)));
        begins = λ u. rw (p.begins u.0, q.begins u.1);
        reads = q.reads;
        both = both_join g y.disk (perform g c y).disk (run (disks g) cs (after (perform g c y))).disk s p.both q.both;
      }

pub get_calls : (g : Geometry) → 0 < g.room → (y : System) → Sound g y.disk y.table → (i s : ℕ) → i < 8 → AtStart y i s → (sure : Type 0) → (sure → LastInUse g y.disk s) → (cs : List Call) → StaysOpen i (events (disks g) cs y) → DeliveredOver g (disks g) (file g y.disk s) sure y i s cs
get_calls g roomy y a i s z e sure u cs n =
    let x = run (disks g) cs y in
    let r = file g y.disk s in
    let left = left_after i cs r in
    let h = calls_read g roomy i s z cs r y n (record { sound = a; sector = 0; offset = 0; left = count y.disk s; reads = e; bytes = rest-before g y.disk s 0 0 refl }) in
    let p = h.reads in
    let v : sure → LastInUse g x.disk s = λ q. stays-last g y.disk x.disk s h.both.0 (u q) in
    record {
      reads = (p.sector, p.offset, p.left, p.reads);
      kept = record { stands = h.both.0.stands; bytes = stays-file g y.disk x.disk s h.both.0 };
      named = bytes_same x.disk s _ h.both.1;
      passed = h.passed;
      ends = h.ends;
      begins = h.begins;
      next = λ f c text b k. (get_call g s i z f c text b k left x p sure v).0;
      ended = λ f c text b k m.
          let o = outcome_of g (cio_of c text b) x in
          let q = (get_call g s i z f c text b k left x p sure v).0 in
          got-on i c text b k o ∙ got_is g x.disk i sure f left b o q ∙ got_all g x.disk i sure f left b o q m;
    }
