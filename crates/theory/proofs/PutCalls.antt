-- What is put on a channel, among any other calls, is the file, and stays after the close.
use mathlib.Core.List.{List, [], ◌∷◌, ◌++◌, append_assoc, append-nil}
use mathlib.Core.Logic.{◌⊎◌, inl, inr}
use mathlib.Core.Path.{◌≡◌, refl, sym, ◌∙◌}
use Prim.Native.Nat.{ℕ, ◌<◌}
use native.Mathlib.Omega.{arith}
use Rattle.layout.specs.declared.State.TheVariants.{Reading}
use Rattle.rules.specs.declared.Block.{Block}
use Rattle.rules.specs.declared.Form.{Form}
use Rattle.rules.specs.declared.Transfer.TheVariants.{Put}
use Rattle.rules.specs.declared.FileCommand.TheVariants.{Open}
use Rattle.rules.specs.declared.Command.TheVariants.{Moves, Close, Files}
use Rattle.layout.specs.Image.{Geometry}
use Rattle.layout.specs.Directory.{name}
use Rattle.layout.specs.File.{file}
use Rattle.layout.specs.Channels.{state_of}
use Rattle.layout.specs.Status.{Succeeds, write_protected}
use Rattle.rules.specs.Cio.{Asks}
use Rattle.rules.specs.Lists.{Call, cio_of, recovery_of, System, after, perform, run, disks, outcome_of, events}
use Rattle.rules.specs.Sound.{Sound}
use Rattle.rules.specs.Demand2.{On, StaysOpen, WritesTo, put_by, put_bytes, OpenedOutput, StoredOver}
use Rattle.rules.proofs.Acts.{bytes}
use Rattle.rules.proofs.Ends.{ends_as}
use Rattle.theory.proofs.Standing.{bytes_same, same_bytes}
use Rattle.theory.proofs.Stays.{stays-file}
use Rattle.theory.proofs.SoundChange.{writes-holds}
use Rattle.theory.proofs.SoundCalls.{call_sound}
use Rattle.theory.proofs.Writer.{Written, writer}
use Rattle.theory.proofs.Moving.{put_on_lem, NoPut, putting}
use Rattle.theory.proofs.Written.{open_written, put_answers_lem, put_call}
use Rattle.theory.proofs.Shut.{close_call_lem, close_stays, find_is}
use Rattle.theory.proofs.Channel.{QuietCall, quiet_state, quiet_keeps}

module _ (g : Geometry) (roomy : 0 < g.room) (i s : ℕ) (z : i < 8) (w : ℕ → ℕ) (before : List ℕ) where
  -- a call that is no put on the channel and does not close it
  quiet_written : (c : Call) (r : List ℕ) (y : System) → Written g i s w before r y → QuietCall i c y.table (perform g c y).status → Written g i s w before r (after (perform g c y))
  quiet_written c r y h q =
      let m = writes-holds (state_of y.table i) s h.last h.writes in
      let (p, n) = quiet_keeps g roomy y h.sound i z s m c q in
      record {
        sound = call_sound g roomy c y h.sound;
        last = h.last;
        writes = quiet_state g roomy y h.sound i z s m c q ∙ h.writes;
        named = bytes_same (perform g c y).disk s w (λ j l. n j l ∙ same_bytes y.disk s w h.named j l);
        bytes = stays-file g y.disk (perform g c y).disk s p ∙ h.bytes;
        used = λ u. rw (p.sectors h.last (writer g y.disk y.table h.sound i s h.last z h.writes).inside) (h.used u);
      }

  -- a get from the channel finds it writing
  not_reading : (y : System) (r : List ℕ) → Written g i s w before r y → (x k o l : ℕ) → state_of y.table i ≡ Reading x k o l → ⊥
  not_reading y r h x k o l e = let f = h.writes in let v : ◌≡◌ {A = ℕ} 0 1 = cc in omega arith

  call_written : (c : Call) (r : List ℕ) (y : System) → (On i Close c → (perform g c y).status ≡ write_protected) → Written g i s w before r y → Written g i s w before (r ++ put_by i c (outcome_of g c y)) (after (perform g c y))
  unfolding put_by
  call_written (cio_of c text b) r y n h = go (putting i c text b)
    where
      call : Call
      call = cio_of c text b

      go : ((f : Form) × On i (Moves (Put f)) call) ⊎ NoPut i c text b → Written g i s w before (r ++ put_by i call (outcome_of g call y)) (after (perform g call y))
      go (inl (f, q)) = rw (put_on_lem i c text b q (outcome_of g call y)) (put_call g roomy i s z w before r y h f c text b q).0
      go (inr q) = rw (q.put (outcome_of g call y), append-nil) (quiet_written call r y h (record { closes = λ e k. n (k, e); gets = λ f e k x p o l. not_reading y r h x p o l; puts = λ f e k x p _. q.none (k, e) }))
  call_written (recovery_of protected x) r y n h = rw append-nil (quiet_written (recovery_of protected x) r y h tt)

  calls-written : (cs : List Call) (r : List ℕ) (y : System) → StaysOpen i (events (disks g) cs y) → Written g i s w before r y → Written g i s w before (r ++ put_bytes i (events (disks g) cs y)) (run (disks g) cs y)
  unfolding put_bytes run events
  calls-written [] r y n h = rw append-nil h
  calls-written (c ∷ cs) r y (n, ns) h = rw append_assoc at (calls-written cs (r ++ put_by i c (outcome_of g c y)) (after (perform g c y)) ns (call_written c r y n h))

-- an open for output that succeeds
pub opened_output : (g : Geometry) (x : System) → Sound g x.disk x.table → (c : Block) (text b : List ℕ) → Asks c (Files Open) → c.direction ≡ 8
    → let e = perform g (cio_of c text b) x in Succeeds e.status → OpenedOutput g c text (after e)
unfolding outcome_of
opened_output g x a c text b e f o =
    let w = open_written g x a (ends_as g x.disk x.table c text b _ e) f o in
    let h = w.written in
    let y = after (perform g (cio_of c text b) x) in
    let v = (writer g y.disk y.table h.sound c.channel w.slot h.last w.small h.writes).stands in
    let r = w.told in
    record {
      small = w.small;
      slot = w.slot;
      writes = (h.last, h.writes);
      finds = (r.word, r.extension, r.read, find_is g y.disk y.table h.sound w.slot (bytes r) v h.named);
      empty = h.bytes;
    }

-- any calls that do not close it
module _ (g : Geometry) (roomy : 0 < g.room) (y : System) (a : Sound g y.disk y.table) (i s : ℕ) (z : i < 8) (o : WritesTo y.table i s) (cs : List Call) (n : StaysOpen i (events (disks g) cs y)) where
  abbrev w : ℕ → ℕ
  w = name y.disk s

  abbrev x : System
  x = run (disks g) cs y

  abbrev put : List ℕ
  put = put_bytes i (events (disks g) cs y)

  pub put_written : Written g i s (name y.disk s) (file g y.disk s) (put_bytes i (events (disks g) cs y)) (run (disks g) cs y)
  put_written = calls-written g roomy i s z w (file g y.disk s) cs [] y n (record { sound = a; last = o.0; writes = o.1; named = bytes_same y.disk s w (λ j l. refl); bytes = sym (append-nil (file g y.disk s)); used = λ u. absurd (u refl) })

  pub put_calls : StoredOver g (disks g) y i s cs
  unfolding put_by
  put_calls =
      let h = put_written in
      let b = file g y.disk s in
      record {
        writes = (h.last, h.writes);
        stands = (writer g x.disk x.table h.sound i s h.last z h.writes).stands;
        bytes = h.bytes;
        named = h.named;
        next = put_answers_lem g roomy i s z w b put x h;
        whole = λ f c text b' q k. put_on_lem i c text b' q (outcome_of g (cio_of c text b') x) ∙ (put_call g roomy i s z w b put x h f c text b' q).1 k;
        stays = close_stays g i s z w b put x h;
        closes = λ c q e.
            let (k, u) = close_call_lem g i s z w b put x h c q e in
            (k, record { stands = u.stands; bytes = u.bytes ∙ sym h.bytes }, u.named, u.flagged);
      }
