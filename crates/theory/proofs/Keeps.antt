-- Every call on a sound disk leaves each standing file that it does not name for output or delete or write to.
use mathlib.Core.Bool.{true, false}
use mathlib.Core.List.{List, [], ◌∷◌}
use mathlib.Core.Logic.{◌≢◌}
use mathlib.Core.Path.{◌≡◌, refl, sym, ap, ◌∙◌}
use Prim.Native.Nat.{ℕ, ◌+◌, ◌<◌}
use native.Mathlib.Decide.{ℕ_discrete}
use native.Mathlib.Omega.{arith}
use Rattle.layout.specs.declared.State.TheVariants.{Writing}
use Rattle.std.specs.Prelude.{Some, Result}
use Rattle.layout.specs.declared.FileName.{FileName}
use Rattle.layout.specs.declared.Table.{Table}
use Rattle.rules.specs.declared.Block.{Block}
use Rattle.rules.specs.declared.Form.{Form}
use Rattle.rules.specs.declared.Form.TheVariants.{Characters, Record}
use Rattle.layout.specs.Image.{Disk, Geometry}
use Rattle.layout.specs.Volume.{bit, is_set, bit_on, bit_off}
use Rattle.layout.specs.Directory.{flag, write_flag, write_name, standing_flag}
use Rattle.layout.specs.File.{chain, delete, restore}
use Rattle.layout.specs.Channels.{held}
use Rattle.layout.specs.Names.{old_name}
use Rattle.rules.specs.Put.{Adds, sent, put_from, puts}
use Rattle.rules.specs.Commands.{Effect}
use Rattle.rules.specs.Cio.{Outcome}
use Rattle.rules.specs.Lists.{Call, System, after, perform, run, disks, events}
use Rattle.rules.specs.Sound.{Stands, sound_flag, Sound}
use Rattle.rules.specs.Demand2.{WritesTo, Finds, AddsNone, Leaves, LeavesName, LeavesAll, LeavesNameAll, FileKept}
use Rattle.rules.proofs.Acts.{Kind, bytes, added, Aimed, Renames, Puts, Ends, refuses, reads, reads_none, writes, writes-none, frees, closes, drops, opens, rewrites, makes, tells, renames, deletes, locks, unlocks, formats, restores}
use Rattle.rules.proofs.Ends.{ends}
use Rattle.theory.proofs.Names.{new_legal}
use Rattle.theory.proofs.Standing.{stands-slot, stands-flag}
use Rattle.theory.proofs.Find.{new_slot_lem, new_fallen, aimed-stands}
use Rattle.theory.proofs.SlotBytes.{only_flag, only_name, name_byte_lem, flag_is, flag_byte}
use Rattle.theory.proofs.Change.{Change}
use Rattle.theory.proofs.Stays.{Stays, Named, Both, both-none, stays-file, stays_join, change_others, change_own}
use Rattle.theory.proofs.SoundDir.{change_delete, change_flag}
use Rattle.theory.proofs.SoundRestore.{change_restore, fallen}
use Rattle.theory.proofs.SoundOpen.{change_over, change_new}
use Rattle.theory.proofs.Writer.{writer}
use Rattle.theory.proofs.SoundPut.{Grown, put_adds}
use Rattle.theory.proofs.PutWalk.{Walks, walk_short}
use Rattle.theory.proofs.Sending.{sent_length}
use Rattle.theory.proofs.Adding.{adds_leave}
use Rattle.theory.proofs.SoundCommands.{Plain, plain_sound, on_plain, off_plain, plain_here, change_rename}
use Rattle.theory.proofs.SoundCalls.{call_sound}

module _ (g : Geometry) (d : Disk) (t : Table) (a : Sound g d t) (x : ℕ) (v : Stands d x) where
  -- nothing on the disk changed
  stay : Both g d d x
  stay = both-none g d x v

  -- slot s changed, which is not x, or only its flag
  beside : (d' : Disk) (s : ℕ) (l : List ℕ) → Change g d d' s l → x ≢ s → Both g d d' x
  beside d' s l c n = change_others g d d' t s l a c x n v

  -- another flag that stands
  flagged : (s f : ℕ) → Stands d s → sound_flag f ≡ true → standing_flag f ≡ true → f ≢ 0x43 → Both g d (write_flag d s f) x
  flagged s f w p q r = go (ℕ_discrete x s)
    where
      c : Change g d (write_flag d s f) s (chain g d s)
      c = change_flag g d t a s w f p q

      go : Dec (x ≡ s) → Both g d (write_flag d s f) x
      go (yes e) = rw e (change_own g d (write_flag d s f) t s a c (only_flag s (stands-slot d s w) d f) w (rw (flag_is d s f) q) (λ _ m. r (sym (flag_is d s f) ∙ m)), λ j l. flag_byte d s f (5 + j) (omega arith))
      go (no n) = beside (write_flag d s f) s (chain g d s) c n

  -- a lock or an unlock of a file that is not held
  relocked : (change : ℕ → ℕ → ℕ) → ((f : ℕ) → Plain f → Plain (change f 5)) → {n : Result FileName ℕ} {s : ℕ} → Aimed g d t n s → held d t s ≡ false → Both g d (write_flag d s (change (flag d s) 5)) x
  relocked change p {s = s} h u =
      let w = aimed-stands g d t h in
      let (m, n, r, _) = plain_sound (change (flag d s) 5) (p (flag d s) (plain_here g d t a s w u)) in
      flagged s (change (flag d s) 5) w m n r

  -- the slot found is x where these are the same
  mine : {n : Result FileName ℕ} {s : ℕ} → Aimed g d t n s → x ≡ s → Finds d n x
  mine h e = let r = h.told in (r.word, r.extension, r.read, h.at ∙ ap Some (sym e))

  -- a rename leaves the file, and its name unless the old name was found in slot x
  renamed : {c : Block} {text : List ℕ} {s : ℕ} (h : Renames g d t c text s) → let e = write_name d s (bytes h.told) in Stays g d e x × ((Finds d (old_name text) x → ⊥) → Named d e x)
  renamed {text = text} {s = s} h = go (ℕ_discrete x s)
    where
      o : Stands d s
      o = aimed-stands g d t h.aim

      w : ℕ → ℕ
      w = bytes h.told

      d' : Disk
      d' = write_name d s w

      ch : Change g d d' s (chain g d s)
      ch = let r = h.told in change_rename g d t a s o w (new_legal text r.word r.extension r.read) h.alone

      byte : flag d' s ≡ flag d s
      byte = name_byte_lem s w d 0 (omega arith)

      go : Dec (x ≡ s) → Stays g d d' x × ((Finds d (old_name text) x → ⊥) → Named d d' x)
      go (yes e) = (rw e (change_own g d d' t s a ch (only_name s (stands-slot d s o) d w) o (rw byte (stands-flag d s o)) (λ m n. m (sym byte ∙ n))), λ f. absurd (f (mine h.aim e)))
      go (no n) = let r = beside d' s (chain g d s) ch n in (r.0, λ _. r.1)

  -- bytes added to another file, or none to this one
  module _ (roomy : 0 < g.room) {f : Form} {c : Block} {b : List ℕ} {s p : ℕ} (h : Puts g d t f c b s p) where
    abbrev adding : Adds
    adding = put_from g (sent f b) d s p 0

    walk : Walks (Grown g c.channel s d t) [] [] (sent f b) 0 adding
    walk = put_adds g c.channel s roomy h.on.small d t p a h.state (sent f b)

    kept-apart : (WritesTo t c.channel x → adding.added.count ≡ 0) → Both g d adding.disk x
    unfolding puts
    kept-apart q = go (ℕ_discrete x s)
      where
        go : Dec (x ≡ s) → Both g d adding.disk x
        go (yes e) = rw ((adds_leave g d s p (sent f b)).idle (q (p, h.state ∙ ap (λ y. Writing y p) (sym e)))) stay
        go (no n) = walk.holds.others x n v

  -- a put or a put record that adds no byte
  none_fitted : (roomy : 0 < g.room) (f : Form) {c : Block} {b : List ℕ} {s p : ℕ} (h : Puts g d t f c b s p) → AddsNone f (added t c.channel s f b (put_from g (sent f b) d s p 0)) → (put_from g (sent f b) d s p 0).added.count ≡ 0
  unfolding puts
  none_fitted roomy Characters h q = q
  none_fitted roomy Record {b = b} {s = s} {p = p} h (q, n) =
      let w = walk roomy h in
      let m = walk_short w n in
      let e = w.count in
      let l = (adds_leave g d s p (sent Record b)).few in
      let k = sent_length b in
      omega (arith, m, l)

  -- the file stays, unless the call takes it; its name too, unless the call renames it
  abbrev Keeps : Call → Effect → Type 0
  Keeps c e = let y : System = record { disk = d; table = t } in Leaves x c y e → Stays g d e.disk x × (LeavesName x c y e → Named d e.disk x)

  both-name : {d' : Disk} {A : Type 0} → Both g d d' x → Stays g d d' x × (A → Named d d' x)
  both-name r = (r.0, λ _. r.1)

  ends_keep : 0 < g.room → {k : Kind} {c : Call} {o : Outcome} → Ends g d t k c o → Keeps c o.effect
  unfolding sound_flag standing_flag is_set bit
  ends_keep roomy (refuses n w m) q = both-name stay
  ends_keep roomy (reads s k o l h) q = both-name stay
  ends_keep roomy (reads_none o e) q = both-name stay
  ends_keep roomy (writes {f = f} s p h) q = both-name (kept-apart roomy h (λ w. none_fitted roomy f h (q.puts f h.on.command w)))
  ends_keep roomy (writes-none o e) q = both-name stay
  ends_keep roomy (frees o h) q = both-name stay
  ends_keep roomy (closes {c = c} s p h e) q = both-name (flagged s 0x42 (writer g d t a c.channel s p h.on.small h.state).stands refl refl (omega arith))
  ends_keep roomy (drops s p h e) q = both-name stay
  ends_keep roomy (opens s h) q = both-name stay
  ends_keep roomy (rewrites s h) q = both-name (beside _ s _ (change_over g d t a h) (λ e. q.opens h.ready.on.command h.direction (mine h.aim e) refl))
  ends_keep roomy (makes s h) q = both-name (beside _ s _ (change_new g d t a h) (λ e. new_fallen d t s (new_slot_lem d t s h.vacant) (rw e at v)))
  ends_keep roomy (tells h) q = both-name stay
  ends_keep roomy (renames s h) q = let r = renamed h in (r.0, λ n. r.1 (λ f. n h.ready.on.command f refl))
  ends_keep roomy (deletes s h) q = both-name (beside (delete g d s) s _ (change_delete g d t a s (aimed-stands g d t h.aim)) (λ e. q.deletes h.ready.on.command (mine h.aim e) refl))
  ends_keep roomy (locks s h) q = both-name (relocked bit_on on_plain h.aim h.unheld)
  ends_keep roomy (unlocks s h) q = both-name (relocked bit_off off_plain h.aim h.unheld)
  ends_keep roomy (formats h) q = absurd (q.formats h.ready.on.command refl)
  ends_keep roomy (restores s h) q = both-name (beside (restore g d s) s (chain g d s) (change_restore g d t a s h) (λ e. fallen g d t a s h (rw e at v)))

module _ (g : Geometry) (roomy : 0 < g.room) where
  -- every call, and every list of calls
  pub call_keeps : (c : Call) (y : System) → Sound g y.disk y.table → (x : ℕ) → Stands y.disk x
      → let e = perform g c y in Leaves x c y e → Stays g y.disk e.disk x × (LeavesName x c y e → Named y.disk e.disk x)
  call_keeps c y a x v = ends_keep g y.disk y.table a x v roomy (ends g c y)

  pub calls_keep : (cs : List Call) (y : System) → Sound g y.disk y.table → (x : ℕ) → Stands y.disk x → LeavesAll x (events (disks g) cs y) → Stays g y.disk (run (disks g) cs y).disk x × (LeavesNameAll x (events (disks g) cs y) → Named y.disk (run (disks g) cs y).disk x)
  unfolding run events
  calls_keep [] y a x v h = let r = both-none g y.disk x v in (r.0, λ _. r.1)
  calls_keep (c ∷ cs) y a x v (h, hs) =
      let e = perform g c y in
      let (p, m) = call_keeps c y a x v h in
      let (q, n) = calls_keep cs (after e) (call_sound g roomy c y a) x p.stands hs in
      (stays_join g y.disk e.disk (run (disks g) cs (after e)).disk x p q, λ k j l. n k.1 j l ∙ m k.0 j l)

-- a file that stays is kept
pub kept-file : (g : Geometry) (d d' : Disk) (x : ℕ) → Stays g d d' x → FileKept g d d' x
kept-file g d d' x p = record { stands = p.stands; bytes = stays-file g d d' x p }
