-- A file that its channel closed: it stands with its name and its bytes, and is found.
use mathlib.Core.Bool.{true, false}
use mathlib.Core.List.{List, [], ◌++◌}
use mathlib.Core.Logic.{◌≢◌}
use mathlib.Core.Path.{◌≡◌, refl, ap, ◌∙◌}
use Prim.Native.Nat.{ℕ, ◌<◌}
use borrow.Author.Tests.{eq-eqb, lt-ltb}
use Rattle.layout.specs.declared.State.TheVariants.{Closed}
use Rattle.rules.specs.declared.Command.TheVariants.{Close}
use Rattle.std.specs.Prelude.{Option, Some, None}
use Rattle.layout.specs.declared.Table.{Table}
use Rattle.layout.specs.Image.{Disk, Geometry}
use Rattle.layout.specs.Volume.{bit, is_set}
use Rattle.layout.specs.Directory.{flag, same_name, standing_flag, write_flag, find, is43}
use Rattle.layout.specs.File.{chain, file}
use Rattle.layout.specs.Channels.{state_of, with_state}
use Rattle.layout.specs.Status.{success, write_protected}
use Rattle.rules.specs.Lists.{Call, cio_of, recovery_of, protected_in, System, after, perform, outcome_of}
use Rattle.rules.specs.Sound.{Stands, Sound}
use Rattle.rules.specs.Demand2.{On, LastInUse}
use Rattle.rules.proofs.Does.{does_stay, does_close}
use Rattle.theory.proofs.Standing.{stands_where, same_names, same_bytes, bytes_same}
use Rattle.theory.proofs.Find.{find_at, find_none}
use Rattle.theory.proofs.SlotBytes.{flag_is}
use Rattle.theory.proofs.Delete.{chain_is, mark_data, mark_chain, mark_file, mark_name}
use Rattle.theory.proofs.SoundChan.{sound_close}
use Rattle.theory.proofs.Writer.{Written, writer, writer_last}

-- the file in slot s is closed, and has the name w and the bytes b, and r behind them
pub record Shut (g : Geometry) (s : ℕ) (w : ℕ → ℕ) (b r : List ℕ) (y : System) : Type 0 where
  pub sound : Sound g y.disk y.table
  pub stands : Stands y.disk s
  pub flagged : flag y.disk s ≡ 0x42
  pub named : same_name y.disk s w ≡ true
  pub bytes : file g y.disk s ≡ b ++ r
  -- where r are any its last sector is not empty
  pub last : r ≢ [] → LastInUse g y.disk s

module _ (g : Geometry) (i s : ℕ) (z : i < 8) (w : ℕ → ℕ) (before r : List ℕ) (y : System) (h : Written g i s w before r y) where
  abbrev d : Disk
  d = y.disk

  abbrev shut_disk : Disk
  shut_disk = write_flag d s 0x42

  -- so it is open for output
  opened : is43 d s ≡ true
  unfolding is43
  opened = let k = writer g d y.table h.sound i s h.last z h.writes in rw (lt-ltb s 64 k.slot, eq-eqb (flag d s) 0x43 k.opened)

  shut : Shut g s w before r (record { disk = shut_disk; table = with_state y.table i Closed })
  unfolding standing_flag is_set bit
  shut =
      let k = writer g d y.table h.sound i s h.last z h.writes in
      let a = sound_close g d y.table h.sound i z s h.last h.writes in
      let beside : (x : ℕ) → x ≢ 360 → d x ≡ d x = λ x _. refl in
      record {
        sound = a;
        stands = stands_where shut_disk s a.zeros k.slot (rw (flag_is d s 0x42));
        flagged = flag_is d s 0x42;
        named = bytes_same shut_disk s w (λ j l. mark_name d d beside s 0x42 k.slot j l ∙ same_bytes d s w h.named j l);
        bytes = mark_file d d beside s 0x42 k.slot g s false (chain g d s) k.marks ∙ h.bytes;
        last = λ n x m e.
            let l = chain_is g shut_disk s (chain g d s) (mark_chain d d beside s 0x42 k.slot g s false (chain g d s) k.marks) in
            let on = rw l at m in
            let same = mark_data d d beside s 0x42 k.slot x (k.marks.datas x on) in
            rw same (writer_last g d s h.last k (h.used n) x on (rw same at e));
      }

  -- a close with the notch open
  pub close_call_lem : (c : Call) → On i Close c → protected_in c ≡ false → ((perform g c y).status ≡ success) × Shut g s w before r (after (perform g c y))
  unfolding outcome_of
  close_call_lem (cio_of c text b) (e, f) u =
      rw (does_close g d y.table c text b s h.last (record { on = record { small = rw e z; command = f }; state = ap (state_of y.table) e ∙ h.writes; permitted = u }) opened) (refl, rw e shut)
  close_call_lem (recovery_of protected x) e u = absurd e

  -- with the notch closed
  pub close_stays : (c : Call) → On i Close c → protected_in c ≡ true → (perform g c y).status ≡ write_protected
  unfolding outcome_of
  close_stays (cio_of c text b) (e, f) u = rw (does_stay g d y.table c text b s h.last (record { small = rw e z; command = f }) (ap (state_of y.table) e ∙ h.writes) u)
  close_stays (recovery_of protected x) e u = absurd e

-- on a sound disk a standing slot with the name is the one found
pub find_is : (g : Geometry) (d : Disk) (t : Table) → Sound g d t → (s : ℕ) (w : ℕ → ℕ) → Stands d s → same_name d s w ≡ true → find d w ≡ Some s
find_is g d t a s w v n = go (find d w) refl
  where
    go : (f : Option ℕ) → find d w ≡ f → f ≡ Some s
    go (Some x) e = let (u, m) = find_at d w x e in ap Some (a.apart x s u v (same_names d d x s w m n))
    go None e = absurd (find_none d w e s v n)
