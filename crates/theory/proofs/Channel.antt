-- A channel that holds a slot: which calls leave its state, and that its file is left by every call but its own puts.
use mathlib.Core.Bool.{true, false, true≢false}
use mathlib.Core.List.{List}
use mathlib.Core.Logic.{◌≢◌}
use mathlib.Core.Path.{◌≡◌, refl, sym, ap, ◌∙◌}
use Prim.Native.Nat.{ℕ, ◌≤◌, ◌<◌}
use native.Mathlib.Decide.{dec_lt}
use native.Mathlib.Omega.{arith}
use lib.ListN.{length, get_or-eq_default}
use Rattle.layout.specs.declared.State.{State}
use Rattle.layout.specs.declared.State.TheVariants.{Closed, Reading, Writing}
use Rattle.std.specs.Prelude.{Some, Result}
use Rattle.layout.specs.declared.FileName.{FileName}
use Rattle.layout.specs.declared.Table.{Table}
use Rattle.rules.specs.declared.Block.{Block}
use Rattle.rules.specs.declared.Form.{Form}
use Rattle.rules.specs.declared.Transfer.TheVariants.{Get, Put}
use Rattle.rules.specs.declared.FileCommand.TheVariants.{Open, Rename, Delete, Format}
use Rattle.rules.specs.declared.Command.TheVariants.{Moves, Close, Files}
use Rattle.layout.specs.Image.{Disk, Geometry}
use Rattle.layout.specs.Directory.{find}
use Rattle.layout.specs.Channels.{channel, state_of, with_state, open_at, any_open, holds, holds_at, held_by_channel, held}
use Rattle.layout.specs.Names.{read_name, old_name}
use Rattle.layout.specs.Status.{Fails, write_protected}
use Rattle.layout.proofs.Channels.{state-other, Holding, reads, writes, holding, holds_open}
use Rattle.layout.proofs.Search.{any_at}
use Rattle.layout.proofs.Tells.{same_words}
use Rattle.rules.specs.Cio.{Outcome, Asks}
use Rattle.rules.specs.Lists.{Call, cio_of, recovery_of, System, perform, outcome_of}
use Rattle.rules.specs.Sound.{Sound}
use Rattle.rules.specs.Demand2.{Finds}
use Rattle.rules.proofs.Acts.{Kind, asks, Told, bytes, Aimed, Ends, refuses, reads, reads_none, writes, writes-none, frees, closes, drops, opens, rewrites, makes, tells, renames, deletes, locks, unlocks, formats, restores}
use Rattle.rules.proofs.Ends.{why_fails, ends, ends_as}
use Rattle.theory.proofs.Stays.{Both}
use Rattle.theory.proofs.SoundRestore.{held-stands}
use Rattle.theory.proofs.Keeps.{call_keeps}

-- the call, which answered this, does not close channel i: a close of it answered 144; and it is no get and no get record from it while it reads, and no put and no put record on it while it writes
pub record Quiet (i : ℕ) (c : Block) (t : Table) (status : ℕ) : Type 0 where
  pub closes : Asks c Close → c.channel ≡ i → status ≡ write_protected
  pub gets : (f : Form) → Asks c (Moves (Get f)) → c.channel ≡ i → (s k o l : ℕ) → state_of t i ≢ Reading s k o l
  pub puts : (f : Form) → Asks c (Moves (Put f)) → c.channel ≡ i → (s p : ℕ) → state_of t i ≢ Writing s p

-- a recovery is quiet on every channel
abbrev pub QuietCall : ℕ → Call → Table → ℕ → Type 0
QuietCall i (cio_of c text b) t status = Quiet i c t status
QuietCall i (recovery_of protected s) t status = Unit {0}

-- a call that is quiet on an open channel leaves its state
module _ (g : Geometry) (d : Disk) (t : Table) (i : ℕ) (v : open_at t i ≡ true) where
  -- the state of another channel is set
  other : (st : State) {j : ℕ} → j ≢ i → state_of (with_state t j st) i ≡ state_of t i
  other st {j = j} n = state-other t j st i (λ e. n (sym e))

  -- a closed channel is another
  shut : {j : ℕ} → open_at t j ≡ false → j ≢ i
  shut h e = true≢false (sym v ∙ ap (open_at t) (sym e) ∙ h)

  ends-state : {k : Kind} {c : Call} {o : Outcome} → Ends g d t k c o → QuietCall i c t o.effect.status → state_of o.effect.table i ≡ state_of t i
  ends-state (refuses n w m) q = refl
  ends-state (reads s k o l h) q = other _ (λ e. q.gets _ h.on.command e s k o l (ap (state_of t) (sym e) ∙ h.state))
  ends-state (reads_none o e) q = refl
  ends-state (writes s p h) q = other _ (λ e. q.puts _ h.on.command e s p (ap (state_of t) (sym e) ∙ h.state))
  ends-state (writes-none o e) q = refl
  ends-state (frees o h) q = other _ (λ e. let n = q.closes o.command e in omega arith)
  ends-state (closes s p h e) q = other _ (λ e. let n = q.closes h.on.command e in omega arith)
  ends-state (drops s p h e) q = other _ (λ e. let n = q.closes h.on.command e in omega arith)
  ends-state (opens s h) q = other _ (shut h.ready.shut)
  ends-state (rewrites s h) q = other _ (shut h.ready.shut)
  ends-state (makes s h) q = other _ (shut h.ready.shut)
  ends-state (tells h) q = refl
  ends-state (renames s h) q = refl
  ends-state (deletes s h) q = refl
  ends-state (locks s h) q = refl
  ends-state (unlocks s h) q = refl
  ends-state (formats h) q = refl
  ends-state (restores s h) q = refl

-- there is no channel above 7
past : (t : Table) (j : ℕ) → length t.channels ≡ 8 → 8 ≤ j → state_of t j ≡ Closed
unfolding state_of
past t j e h = ap (λ c. c.state) (get_or-eq_default t.channels (channel Closed) (omega arith))

-- the name that was read is found in slot x
module _ (d : Disk) (x : ℕ) {n : Result FileName ℕ} (r : Told n) where
  found_there : Finds d n x → find d (bytes r) ≡ Some x
  found_there (u, w, q, f) = let (h, k) = same_words (sym r.read ∙ q) in rw (h, k) f

  -- then it is the slot found
  pub found_is : Finds d n x → {s : ℕ} → find d (bytes r) ≡ Some s → s ≡ x
  found_is k f = let h = found_there k in cc

-- channel i holds slot x
module _ (g : Geometry) (d : Disk) (t : Table) (a : Sound g d t) (i : ℕ) (z : i < 8) (x : ℕ) (h : holds (state_of t i) x ≡ true) where
  -- so the slot is held, and some channel is open
  is_held : held d t x ≡ true
  unfolding held held_by_channel holds_at
  is_held = rw (any_at (holds_at t x) 8 i z h)

  is_open_lem : open_at t i ≡ true
  unfolding open_at
  is_open_lem = holds_open (state_of t i) x h

  some_open : any_open t ≡ true
  unfolding any_open
  some_open = any_at (open_at t) 8 i z is_open_lem

  -- a slot found under a name that is found in slot x is not free to change
  not_free : {n : Result FileName ℕ} {s : ℕ} → Aimed g d t n s → held d t s ≡ false → Finds d n x → ⊥
  not_free h u k = true≢false (sym is_held ∙ ap (held d t) (sym (found_is d x h.told k h.at)) ∙ u)

  -- no other channel writes it
  put_held : (j p : ℕ) → state_of t j ≡ Writing x p → j ≡ i
  put_held j p e = go (dec_lt j 8) refl (holding (state_of t i) x h)
    where
      go : Dec (j < 8) → {st : State} → state_of t i ≡ st → Holding x st → j ≡ i
      go (no n) r k = absurd (let q = past t j a.eight (omega arith) in let y : ◌≡◌ {A = ℕ} 0 1 = cc in omega arith)
      go (yes m) r (reads q o l) = absurd ((a.reading i x q o l z r).1 (a.writing j x p m e).1)
      go (yes m) r (writes q) = a.once j i x p q m z e r

  -- so no call that opens for output, deletes or renames it, or formats, succeeds
  module _ {c : Block} {text b : List ℕ} where
    no_open : {o : Outcome} → Ends g d t (asks (Files Open)) (cio_of c text b) o → c.direction ≡ 8 → Finds d (read_name text) x → Fails o.effect.status
    no_open (refuses n w m) e k = why_fails w
    no_open (opens s p) e k = λ _. let f = p.direction in omega arith
    no_open (rewrites s p) e k = λ _. not_free p.aim p.unheld k
    no_open (makes s p) e k = λ _. let f = found_there d x p.told k in let h = p.missing in let y : ◌≡◌ {A = ℕ} 0 1 = cc in omega arith

    no-delete : {o : Outcome} → Ends g d t (asks (Files Delete)) (cio_of c text b) o → Finds d (read_name text) x → Fails o.effect.status
    no-delete (refuses n w m) k = why_fails w
    no-delete (deletes s p) k = λ _. not_free p.aim p.unheld k

    no_rename : {o : Outcome} → Ends g d t (asks (Files Rename)) (cio_of c text b) o → Finds d (old_name text) x → Fails o.effect.status
    no_rename (refuses n w m) k = why_fails w
    no_rename (renames s p) k = λ _. not_free p.aim p.unheld k

    no-format : {o : Outcome} → Ends g d t (asks (Files Format)) (cio_of c text b) o → Fails o.effect.status
    no-format (refuses n w m) = why_fails w
    no-format (formats p) = λ _. true≢false (sym some_open ∙ p.none)

-- so every call that is quiet on the channel leaves its state, its file and the file's name
module _ (g : Geometry) (roomy : 0 < g.room) (y : System) (a : Sound g y.disk y.table) (i : ℕ) (z : i < 8) (x : ℕ) (h : holds (state_of y.table i) x ≡ true) where
  abbrev d : Disk
  d = y.disk

  abbrev t : Table
  t = y.table

  pub quiet_state : (c : Call) → QuietCall i c t (perform g c y).status → state_of (perform g c y).table i ≡ state_of t i
  quiet_state c q = ends-state g d t i (is_open_lem g d t a i z x h) (ends g c y) q

  pub quiet_keeps : (c : Call) → QuietCall i c t (perform g c y).status → Both g d (perform g c y).disk x
  unfolding outcome_of
  quiet_keeps (cio_of c text b) q =
      let (p, n) = call_keeps g roomy (cio_of c text b) y a x (held-stands g d t a x i z h) (record {
        opens = λ m n k. no_open g d t a i z x h (ends_as g d t c text b _ m) n k;
        deletes = λ m k. no-delete g d t a i z x h (ends_as g d t c text b _ m) k;
        puts = λ f m (p, k). let r = put_held g d t a i z x h c.channel p k in absurd (q.puts f m r x p (ap (state_of t) (sym r) ∙ k));
        formats = λ m. no-format g d t a i z x h (ends_as g d t c text b _ m);
      }) in
      (p, n (λ m k. no_rename g d t a i z x h (ends_as g d t c text b _ m) k))
  quiet_keeps (recovery_of protected s) q = let (p, n) = call_keeps g roomy (recovery_of protected s) y a x (held-stands g d t a x i z h) tt in (p, n tt)
