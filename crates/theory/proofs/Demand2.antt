-- Demand 2 over any calls: what was written and closed reads back the same.
use mathlib.Core.Bool.{false}
use mathlib.Core.Logic.{◌≢◌}
use mathlib.Core.List.{List, [], ◌++◌}
use mathlib.Core.Path.{◌≡◌, refl, sym, ap, ◌∙◌, subst}
use Prim.Native.Nat.{ℕ, ◌<◌}
use native.Mathlib.Omega.{arith}
use Rattle.layout.specs.declared.State.TheVariants.{Reading}
use Rattle.layout.specs.declared.Table.{Table}
use Rattle.rules.specs.declared.Block.{Block}
use Rattle.rules.specs.declared.FileCommand.TheVariants.{Open}
use Rattle.rules.specs.declared.Command.TheVariants.{Close, Files}
use Rattle.layout.specs.Image.{Disk, Geometry}
use Rattle.layout.specs.Directory.{flag, count}
use Rattle.layout.specs.File.{file}
use Rattle.layout.specs.Channels.{state_of, open_at}
use Rattle.layout.specs.Names.{name_byte, read_name}
use Rattle.layout.specs.Status.{success, Succeeds}
use Rattle.rules.specs.Cio.{Outcome, Asks}
use Rattle.rules.specs.Lists.{Call, cio_of, protected_in, System, after, perform, outcome_of, run, events, disks}
use Rattle.rules.specs.Sound.{Stands, Sound}
use Rattle.rules.specs.Demand2.{Finds, WritesTo, AtStart, On, StaysOpen, LeavesAll, LeavesNameAll, put_bytes, LastInUse, DeliveredOver, Returns, DiskDemand2}
use Rattle.rules.proofs.Acts.{asks, Ends, refuses, opens, rewrites, makes}
use Rattle.rules.proofs.Ends.{why_fails, ends_as}
use Rattle.rules.proofs.Does.{does_open}
use Rattle.theory.proofs.Standing.{stands-slot, stands-flag, bytes_same, same_bytes}
use Rattle.theory.proofs.SoundChan.{state_at}
use Rattle.theory.proofs.SoundCommands.{plain_flag, plain_sound}
use Rattle.theory.proofs.SoundCalls.{call_sound, calls-sound}
use Rattle.theory.proofs.Stays.{Stays, Named, stays-file, stays-last}
use Rattle.theory.proofs.Find.{find_at}
use Rattle.theory.proofs.Shut.{close_call_lem, find_is}
use Rattle.theory.proofs.Keeps.{calls_keep, kept-file}
use Rattle.theory.proofs.Channel.{found_is}
use Rattle.theory.proofs.PutCalls.{opened_output, put_written, put_calls}
use Rattle.theory.proofs.GetCalls.{get_calls}

-- an open for input of a name found in slot s
module _ (g : Geometry) (x : System) (a : Sound g x.disk x.table) (c : Block) (text b : List ℕ) (s : ℕ) (k : Finds x.disk (read_name text) s) where
  abbrev d : Disk
  d = x.disk

  abbrev t : Table
  t = x.table

  -- one that succeeds
  opened : {o : Outcome} → Ends g d t (asks (Files Open)) (cio_of c text b) o → c.direction ≡ 4 → Succeeds o.effect.status → (c.channel < 8) × (o.effect.disk ≡ d) × (state_of o.effect.table c.channel ≡ Reading s 0 0 (count d s))
  opened (refuses n w m) e h = absurd (why_fails w h)
  opened (opens v p) e h = let z = p.ready.on.small in (z, refl, state_at g d t a c.channel z _ ∙ rw (found_is d s p.told k p.at))
  opened (rewrites v p) e h = absurd (let f = p.direction in omega arith)
  opened (makes v p) e h = absurd (let f = p.direction in omega arith)

  opened_input : Asks c (Files Open) → c.direction ≡ 4 → let e = perform g (cio_of c text b) x in Succeeds e.status → (c.channel < 8) × (e.disk ≡ x.disk) × AtStart (after e) c.channel s
  unfolding outcome_of
  opened_input m n h =
      let (z, p, q) = opened (ends_as g d t c text b _ m) n h in
      (z, p, q ∙ ap (λ (d : Disk). Reading s 0 0 (count d s)) (sym p))

  -- it answers 1 where the slot is not open for output and the channel is closed
  input_opens : flag d s ≢ 0x43 → Asks c (Files Open) → c.direction ≡ 4 → c.channel < 8 → open_at t c.channel ≡ false → (perform g (cio_of c text b) x).status ≡ success
  unfolding outcome_of
  input_opens n m e z f =
      let (word, extension, q, r) = k in
      let v = (find_at d (name_byte word extension) s r).0 in
      let p = plain_flag (flag d s) (a.flags s (stands-slot d s v)) (stands-flag d s v) n in
      rw (does_open g d t c text b s (record { ready = record { on = record { small = z; command = m }; shut = f; permitted = rw e }; direction = e; told = record { word = word; extension = extension; read = q }; at = r; quiet = (plain_sound (flag d s) p).3 }))

-- a channel writes one slot
slot_is : (t : Table) (i x s : ℕ) → WritesTo t i x → WritesTo t i s → x ≡ s
slot_is t i x s (p, e) (q, f) = cc

module _ (g : Geometry) (roomy : 0 < g.room) where
  -- a file that was opened for output, written and closed, after any calls ds that leave it; y is what the close left
  module _ (text put : List ℕ) (s : ℕ) (y : System) (a1 : Sound g y.disk y.table) (v : Stands y.disk s) (f : flag y.disk s ≡ 0x42) (bytes : file g y.disk s ≡ put) (last : put ≢ [] → LastInUse g y.disk s) (named : Finds y.disk (read_name text) s) (ds : List Call) (hs : LeavesAll s (events (disks g) ds y)) where
    abbrev z : System
    z = run (disks g) ds y

    a2 : Sound g z.disk z.table
    a2 = calls-sound g roomy ds y a1

    stays : Stays g y.disk z.disk s × (LeavesNameAll s (events (disks g) ds y) → Named y.disk z.disk s)
    stays = calls_keep g roomy ds y a1 s v hs

    same : file g z.disk s ≡ put
    same = stays-file g y.disk z.disk s stays.0 ∙ bytes

    shut : flag z.disk s ≢ 0x43
    shut = stays.0.shut (λ e. omega (arith, sym f ∙ e))

    found : LeavesNameAll s (events (disks g) ds y) → Finds z.disk (read_name text) s
    found k =
        let (word, extension, r, q) = named in
        let n = (find_at y.disk (name_byte word extension) s q).1 in
        (word, extension, r, find_is g z.disk z.table a2 s (name_byte word extension) stays.0.stands (bytes_same z.disk s (name_byte word extension) (λ j l. stays.1 k j l ∙ same_bytes y.disk s (name_byte word extension) n j l)))

    returns : Returns g (disks g) text put s (LeavesNameAll s (events (disks g) ds y)) z
    returns = record {
      stands = stays.0.stands;
      bytes = same;
      finds = found;
      opens = λ c again b m n k h o. input_opens g z a2 c again b s k shut m n h o;
      reads = λ c again b m n k h es ns.
          let call = cio_of c again b in
          let (l, d, at) = opened_input g z a2 c again b s k m n h in
          let u : put ≢ [] → LastInUse g (perform g call z).disk s = λ n. rw d (stays-last g y.disk z.disk s stays.0 (last n)) in
          subst (λ r. DeliveredOver g (disks g) r (put ≢ []) (after (perform g call z)) c.channel s es) (ap (λ (d : Disk). file g d s) d ∙ same) (get_calls g roomy (after (perform g call z)) (call_sound g roomy call z a2) c.channel s l at (put ≢ []) u es ns);
    }

  whole : (x : System) → Sound g x.disk x.table → (c : Block) (text b : List ℕ) → Asks c (Files Open) → c.direction ≡ 8 → let call = cio_of c text b in Succeeds (perform g call x).status
      → (s : ℕ) → WritesTo (perform g call x).table c.channel s → (cs : List Call) → StaysOpen c.channel (events (disks g) cs (after (perform g call x))) → (close : Call) → On c.channel Close close → protected_in close ≡ false
      → let y0 = after (perform g call x) in
      let y1 = run (disks g) cs y0 in
      let y2 = after (perform g close y1) in
      ((perform g close y1).status ≡ success)
      × ((ds : List Call) → let es = events (disks g) ds y2 in LeavesAll s es → Returns g (disks g) text (put_bytes c.channel (events (disks g) cs y0)) s (LeavesNameAll s es) (run (disks g) ds y2))
  whole x a c text b m n h s w cs ns close q u =
      let call = cio_of c text b in
      let y0 = after (perform g call x) in
      let a0 = call_sound g roomy call x a in
      let o = opened_output g x a c text b m n h in
      let e : o.slot ≡ s = slot_is y0.table c.channel o.slot s o.writes w in
      let p = put_calls g roomy y0 a0 c.channel s o.small w cs ns in
      let (done, kept, name, closed) = p.closes close q u in
      let y1 = run (disks g) cs y0 in
      let a1 = call_sound g roomy close y1 (calls-sound g roomy cs y0 a0) in
      let y2 = after (perform g close y1) in
      let bytes = kept.bytes ∙ p.bytes ∙ ap (λ l. l ++ put_bytes c.channel (events (disks g) cs y0)) (ap (file g y0.disk) (sym e) ∙ o.empty) in
      let named : Finds y2.disk (read_name text) s =
      let (word, extension, r, f) = o.finds in
      let t = (find_at y0.disk (name_byte word extension) o.slot f).1 in
      (word, extension, r, find_is g y2.disk y2.table a1 s (name_byte word extension) kept.stands (bytes_same y2.disk s (name_byte word extension) (λ j l. same_bytes y2.disk s _ name j l ∙ same_bytes y0.disk s (name_byte word extension) (rw e at t) j l))) in
      let (_, shut) = close_call_lem g c.channel s o.small _ _ _ y1 (put_written g roomy y0 a0 c.channel s o.small w cs ns) close q u in
      (done, λ ds hs. returns text _ s y2 a1 kept.stands closed bytes shut.last named ds hs)

-- on any sound disk
pub demand2 : (g : Geometry) → 0 < g.room → DiskDemand2 g
demand2 g roomy x a = record {
  opens = opened_output g x a;
  puts = put_calls g roomy x a;
  keeps = λ s v cs k. kept-file g x.disk (run (disks g) cs x).disk s (calls_keep g roomy cs x a s v k).0;
  names = λ s v cs k n. bytes_same (run (disks g) cs x).disk s _ ((calls_keep g roomy cs x a s v k).1 n);
  reopens = λ c text b m n s k h. opened_input g x a c text b s k m n h;
  gets = λ i s z e. get_calls g roomy x a i s z e _ (λ u. u);
  whole = whole g roomy x a;
}
