-- What every get, put and close leaves, also in a partial transfer.
use mathlib.Core.Bool.{Bool, true≢false}
use mathlib.Core.List.{List, []}
use mathlib.Core.Logic.{◌≢◌}
use mathlib.Core.Path.{◌≡◌, refl, sym, ap, subst, ◌∙◌}
use Prim.Native.Nat.{ℕ, suc, zero, ◌+◌, ◌≤◌}
use native.Mathlib.Nat.{zero-add}
use native.Mathlib.Omega.{arith}
use lib.ListN.{length, drop, set}
use lib.Seq.{drop-set-lt}
use Rattle.layout.specs.declared.State.{State}
use Rattle.layout.specs.declared.State.TheVariants.{Closed}
use Rattle.layout.specs.declared.Table.{Table}
use Rattle.layout.specs.declared.density.Medium.{Medium}
use Rattle.std.specs.Prelude.{Ok, Err}
use Rattle.rules.specs.declared.Block.{Block}
use Rattle.rules.specs.declared.Form.{Form}
use Rattle.rules.specs.declared.Form.TheVariants.{Characters, Record}
use Rattle.rules.specs.declared.Place.{Place}
use Rattle.rules.specs.declared.Transfer.TheVariants.{Get, Put}
use Rattle.rules.specs.declared.Command.TheVariants.{Moves, Close}
use Rattle.layout.specs.Image.{Disk, Geometry, geometry_of, view, image_of}
use Rattle.layout.specs.Header.{served_as}
use Rattle.layout.specs.Channels.{state_of, with_state}
use Rattle.layout.specs.Status.{success, bad_chain, truncated}
use Rattle.layout.proofs.Check.{by_check, by_served}
use Rattle.layout.proofs.Channels.{with_id}
use Rattle.rules.specs.Get.{GetOutcome, Reads, place, read_from, drop_rest, fill, gets, get_as}
use Rattle.rules.specs.Put.{sent, reported, puts, put_on}
use Rattle.rules.specs.Commands.{refused}
use Rattle.rules.specs.Cio.{Outcome, outcome, ImageOutcome, Asks, leaves, get_at, transfer, command, cio, cio_call}
use Rattle.rules.specs.Demand1.{Unchanged, Moved, OnlyChannel, OnlyEnd, OnlyEndOn, Transfers}
use Rattle.rules.specs.Lists.{cio_of, outcome_of}
use Rattle.rules.specs.Thin.{ImagePutOutcome, read_lent, write_lent}
use Rattle.rules.proofs.Acts.{asks, GetEnds, get_closed, get_writing, get_broken, get_none, get_some, plainly, Why, plain, barred, no_table, Ends, refuses, reads, reads_none, writes, writes-none, frees, closes, drops}
use Rattle.rules.proofs.Ends.{get_ends, put_ends, ends_as}
use Rattle.rules.proofs.Reached.{or_same}
use Rattle.rules.proofs.Steps.{read_step, fill_record, read_full}
use Rattle.theory.proofs.Adding.{adds_leave, put_leaves_lem}
use Rattle.theory.proofs.Refusals.{Kept, unchanged}
use Rattle.theory.proofs.Served.{laws, kept-image, viewed, held-view, unserved-apart}
use Rattle.theory.proofs.Placed.{Placed}
use Rattle.theory.proofs.PlacedCalls.{put_on_placed, call_placed}

-- the channels as they were
same : (t : Table) (i : ℕ) → OnlyChannel t i t
same t i = (state_of t i, sym (with_id t i _ refl))

-- no bytes moved
none : (b : List ℕ) → Moved 0 b b
none b = record { few = omega arith; rest = refl }

module _ (g : Geometry) (d : Disk) where
  -- bytes read into b from i on: at most n more, and what is behind them stays
  record Behind (i n : ℕ) (b : List ℕ) (z : Reads) : Type 0 where
    least : i ≤ z.got.count
    most : z.got.count ≤ i + n
    rest : drop z.got.count z.buffer ≡ drop z.got.count b

  none-behind : (i n : ℕ) (b : List ℕ) {status : ℕ} {p : Place} → Behind i n b (record { got = record { status = status; count = i; place = p }; buffer = b })
  none-behind i n b = record { least = omega arith; most = omega arith; rest = refl }

  behind_more : (i n x : ℕ) (b : List ℕ) (z : Reads) → Behind (i + 1) n (set b i x) z → Behind i (suc n) b z
  behind_more i n x b z r = let l = r.least in let m = r.most in record { least = omega arith; most = omega arith; rest = r.rest ∙ drop-set-lt z.got.count b i x (omega arith) }

  read_behind : (f : Form) (s n i : ℕ) (p : Place) (b : List ℕ) → Behind i n b (read_from g f d s n i p b)
  unfolding read_from
  read_behind f s zero i p b = none-behind i 0 b
  read_behind f s (suc n) i p b = read_step g d s (Behind i (suc n) b) f n i p b (λ q _ _. behind_more i n _ b _ (none-behind (i + 1) n _)) (λ q _ _. behind_more i n _ b _ (read_behind f s n (i + 1) _ _)) (λ _ _. none-behind i (suc n) _) (λ _ _. none-behind i (suc n) _)

  -- so the bytes of a get and of a get record
  read_moved : (f : Form) (s : ℕ) (p : Place) (b : List ℕ) → let z = read_from g f d s (length b) 0 p b in Moved z.got.count z.buffer b
  read_moved f s p b = let r = read_behind f s (length b) 0 p b in let m = r.most in record { few = omega arith; rest = r.rest }

  -- what is dropped behind them moves none
  fill-moved : (f : Form) (s : ℕ) (p : Place) (b : List ℕ) → let z = fill g f d s p b in Moved z.got.count z.buffer b
  unfolding fill drop_rest
  fill-moved Characters s p b = read_moved Characters s p b
  fill-moved Record s p b = fill_record g d s (λ z. Moved z.got.count z.buffer b) p b (λ _. read_moved Record s p b) (λ _. read_moved Record s p b)

  -- a get on one channel
  get_moved : {f : Form} {st : State} {b : List ℕ} {o : GetOutcome} → GetEnds g d f b st o → Moved o.answer.count o.buffer b
  unfolding gets
  get_moved {b = b} get_closed = none b
  get_moved {b = b} (get_writing s p) = none b
  get_moved {b = b} (get_broken s k o l p) = none b
  get_moved {b = b} (get_none s k o l p) = none b
  get_moved {f = f} {b = b} (get_some s k o l n p) = fill-moved f s (place k o l) b

  -- with 137 the buffer is full
  get_full : {st : State} {b : List ℕ} {o : GetOutcome} → GetEnds g d Record b st o → o.answer.status ≡ truncated → o.answer.count ≡ length b
  unfolding gets drop_rest
  get_full get_closed = λ e. absurd (omega arith)
  get_full (get_writing s p) = λ e. absurd (omega arith)
  get_full (get_broken s k o l p) = λ e. absurd (omega arith)
  get_full (get_none s k o l p) = λ e. absurd (omega arith)
  get_full {b = b} (get_some s k o l n p) = λ e. fill_record g d s (λ z. z.got.status ≡ truncated → z.got.count ≡ length b) (place k o l) b (λ h _. read_full g d s (length b) 0 (place k o l) b h ∙ zero-add (length b)) (λ h e. absurd (h e)) (or_same g d b _ _ truncated e (λ q. omega arith))

  cut-full : (t : Table) (c : Block) (text b : List ℕ) → Asks c (Moves (Get Record)) → let o = cio g d t c text b in o.effect.status ≡ truncated → o.effect.count ≡ length b
  unfolding cio command transfer get_at
  cut-full t c text b e = by_check (λ (o : Outcome). o.effect.status ≡ truncated → o.effect.count ≡ length b) _ _ _ (λ _ q. absurd (omega arith))
      λ h. subst (λ (o : Outcome). o.effect.status ≡ truncated → o.effect.count ≡ length b) (sym (ap (λ k. command g d t k c text b) e)) (read_cut (state_of t c.channel))
    where
      read_cut : (st : State) → (get_as g Record d st b).answer.status ≡ truncated → (get_as g Record d st b).answer.count ≡ length b
      read_cut st = get_full (get_ends g d Record st b)

  module _ (t : Table) (c : Block) (text b : List ℕ) where
    get_transfer : {f : Form} {o : Outcome} → Ends g d t (asks (Moves (Get f))) (cio_of c text b) o → (o.effect.disk ≡ d) × Moved o.effect.count o.buffer b × OnlyChannel t c.channel o.effect.table
    get_transfer (refuses n w m) = (refl, none b, same t c.channel)
    get_transfer {f = f} (reads s k p l h) = (refl, fill-moved f s (place k p l) b, (_, refl))
    get_transfer (reads_none h e) = (refl, none b, same t c.channel)

    abbrev PutLeft : Outcome → Type 0
    PutLeft o = (o.effect.count ≤ length b) × (o.buffer ≡ b) × OnlyChannel t c.channel o.effect.table × OnlyEnd (state_of t c.channel) d o.effect.disk o.effect.given

    -- one that adds no bytes
    put_none : (n : ℕ) → PutLeft (outcome (refused n d t) b)
    put_none n = (omega arith, refl, same t c.channel, λ s p _ k _ _ _ _. refl)

    -- no more than the caller's bytes are reported
    reported-few : (f : Form) (n : ℕ) → n ≤ length (sent f b) → reported f b n ≤ length b
    reported-few Characters n h = h
    reported-few Record n h = omega arith

    put_transfer : {f : Form} {o : Outcome} → Ends g d t (asks (Moves (Put f))) (cio_of c text b) o → PutLeft o
    unfolding puts
    put_transfer (refuses n w m) = put_none n
    put_transfer {f = f} (writes s p h) = let l = adds_leave g d s p (sent f b) in (reported-few f _ l.few, refl, (_, refl), rw h.state l.end)
    put_transfer (writes-none h e) = put_none success

    -- a close is not refused with 164; with 164 it frees its channel
    not_refused : {protected : Bool} {n : ℕ} → Why g d t protected (asks Close) n → n ≢ bad_chain
    not_refused (plain n p) e = true≢false (sym p ∙ ap plainly e)
    not_refused (barred q) e = omega arith
    not_refused (no_table h) e = omega arith

    close_transfer : {o : Outcome} → Ends g d t (asks Close) (cio_of c text b) o → o.effect.status ≡ bad_chain → Kept d (with_state t c.channel Closed) b o
    close_transfer (refuses n w m) e = absurd (not_refused w e)
    close_transfer (frees o h) e = absurd (omega arith)
    close_transfer (closes s p h q) e = absurd (omega arith)
    close_transfer (drops s p h q) e = record { count = refl; disk = refl; table = refl; buffer = refl }

-- on an image that is served: the image after it holds the disk after it
module _ (l : List ℕ) (m : Medium) (w : served_as l ≡ Ok m) where
  abbrev g : Geometry
  g = geometry_of m

  abbrev D : Disk
  D = view g l

  -- the file's end, on the image that holds a disk
  end_on : (st : State) (e : Disk) (given : List ℕ) → Placed g (D 0) e → OnlyEnd st D e given → OnlyEndOn st l (image_of g (length l) e) given
  end_on st e given p f m' w' = let q : m ≡ m' = cc in rw (← q, held-view l m w e p) f

  put_on_lem : (t : Table) (c : Block) (text b : List ℕ) (f : Form) → Asks c (Moves (Put f)) → let o = leaves g l (cio g D t c text b) in
      (o.answer.count ≤ length b) × (o.buffer ≡ b) × OnlyChannel t c.channel o.answer.table × OnlyEndOn (state_of t c.channel) l o.image o.given
  unfolding outcome_of
  put_on_lem t c text b f e =
      let (n, q, u, f) = put_transfer g D t c text b (ends_as g D t c text b _ e) in
      (n, q, u, end_on (state_of t c.channel) _ _ (call_placed g (laws l m w) (D 0) (cio_of c text b) (record { disk = D; table = t }) (viewed l m w)) f)

  thin_put_on : (protected : Bool) (st : State) (b : List ℕ) → let o = put_on g D protected st b in (o.answer.count ≤ length b) × OnlyEndOn st l (image_of g (length l) o.disk) o.given
  thin_put_on protected st b = let h = put_leaves_lem g D (put_ends g D protected st b) in (h.few, end_on st _ _ (put_on_placed g (laws l m w) (D 0) D (viewed l m w) protected st b) h.end)

-- on one that is not, nothing moved
still : (l : List ℕ) (st : State) → OnlyEndOn st l l []
still l st m w s p _ k _ _ _ _ = refl

no_close : (l : List ℕ) (n : ℕ) → served_as l ≡ Err n → n ≢ bad_chain
no_close l = unserved-apart l bad_chain (λ e. omega arith) (λ e. omega arith)

pub transfers : Transfers
unfolding cio_call read_lent write_lent
transfers = record {
  gets = λ l t c text b f e. by_served (λ (o : ImageOutcome). (o.image ≡ l) × Moved o.answer.count o.buffer b × OnlyChannel t c.channel o.answer.table) _ _ _
      (λ _ _. (refl, none b, same t c.channel)) (λ m w. let (d, r, u) = get_transfer _ _ t c text b (ends_as (geometry_of m) (view (geometry_of m) l) t c text b _ e) in (kept-image l m w _ d, r, u));
  thin_gets = λ l c b. by_served (λ (o : GetOutcome). Moved o.answer.count o.buffer b) _ _ _ (λ _ _. none b) (λ m _. get_moved _ _ (get_ends (geometry_of m) (view (geometry_of m) l) Characters c.state b));
  cut = λ l t c text b e. by_served (λ (o : ImageOutcome). o.answer.status ≡ truncated → o.answer.count ≡ length b) _ _ _ (λ n w q. absurd (unserved-apart l truncated (λ h. omega arith) (λ h. omega arith) n w q)) (λ m w. cut-full (geometry_of m) (view (geometry_of m) l) t c text b e);
  puts = λ l t c text b f e. by_served (λ (o : ImageOutcome). (o.answer.count ≤ length b) × (o.buffer ≡ b) × OnlyChannel t c.channel o.answer.table × OnlyEndOn (state_of t c.channel) l o.image o.given) _ _ _
      (λ _ _. (omega arith, refl, same t c.channel, still l (state_of t c.channel))) (λ m w. put_on_lem l m w t c text b f e);
  thin_puts = λ l protected c b. by_served (λ (o : ImagePutOutcome). (o.answer.count ≤ length b) × OnlyEndOn c.state l o.image o.given) _ _ _
      (λ _ _. (omega arith, still l c.state)) (λ m w. thin_put_on l m w protected c.state b);
  closes = λ l t c text b e. by_served (λ (o : ImageOutcome). o.answer.status ≡ bad_chain → Unchanged l (with_state t c.channel Closed) b o) _ _ _
      (λ n w q. absurd (no_close l n w q)) (λ m w q. unchanged l m w (with_state t c.channel Closed) b _ (close_transfer _ _ t c text b (ends_as (geometry_of m) (view (geometry_of m) l) t c text b _ e) q));
}
