-- Showing: its part is what a get with sectors left delivers from that sector.
use mathlib.Core.Bool.{true, false, ◌&&◌, ◌||◌}
use mathlib.Core.List.{List, ◌∷◌, ◌++◌, append-nil}
use mathlib.Core.Logic.{◌≢◌}
use mathlib.Core.Path.{◌≡◌, refl, sym, ap, ◌∙◌}
use Prim.Native.Nat.{ℕ, suc, zero, ◌+◌, ◌≤◌, ◌<◌}
use native.Mathlib.Nat.{zero-add, add-zero}
use native.Mathlib.Omega.{arith}
use lib.Dec.{ltb, leb, eqb}
use lib.ListN.{length, take, drop, set, take-append-drop, length-set}
use lib.Seq.{take_all, drop-length}
use borrow.Author.Tests.{ne_eqb, lt-ltb, le-leb}
use Rattle.layout.specs.declared.State.TheVariants.{Reading}
use Rattle.layout.specs.Basics.{values_from}
use Rattle.layout.specs.declared.density.Medium.{Medium}
use Rattle.std.specs.Prelude.{Ok}
use Rattle.layout.specs.Image.{Disk, Geometry, geometry_of, view}
use Rattle.layout.specs.Header.{served_as}
use Rattle.layout.proofs.Header.{served_whole}
use Rattle.layout.specs.File.{in_use, fits}
use Rattle.layout.specs.Status.{success, bad_chain}
use Rattle.layout.proofs.Logic.{and_left, or_right}
use Rattle.layout.proofs.Image.{values_length}
use Rattle.layout.proofs.Chain.{fits_pos}
use Rattle.rules.specs.declared.Form.TheVariants.{Characters}
use Rattle.rules.specs.declared.Seek.TheVariants.{Ready, Broken}
use Rattle.rules.specs.Get.{place, reads, gets, has_byte, seek, read_from, get_from, fill, readable, tells_end, get_on}
use Rattle.rules.specs.Showing.{enters, shows, shown_length, shown_part}
use Rattle.rules.proofs.Reached.{or_refused, gets_some}
use Rattle.rules.proofs.Steps.{seek-ready}
use Rattle.rules.proofs.Showing as told
use Rattle.rules.proofs.Showing.{enters_true, shows_is, start_yes, length_yes, shown-none, shown-within}
use Rattle.theory.specs.Shown.{AtEdge, Gives, Stops, ShownOn, Shown}
use Rattle.theory.proofs.Gets.{one_more}
use Rattle.theory.proofs.SectorCalls.{sector-part}
use Rattle.theory.proofs.Served.{laws, thin_get_on}

module _ (g : Geometry) (d : Disk) (s : ℕ) where
  -- a byte of the entered sector is the next
  has_byte_lem : (k o : ℕ) → k ≢ 0 → o < in_use g (d k) → has_byte g d k o ≡ true
  unfolding has_byte
  has_byte_lem k o n h = rw (ne_eqb k 0 n, lt-ltb o (in_use g (d k)) h)

  -- bytes of one sector, one after the other
  get_within_lem : (n k o l i : ℕ) (b : List ℕ) → k ≢ 0 → o + n ≤ in_use g (d k) → i + n ≤ length b → get_from g d s n i (place k o l) b ≡ reads success (i + n) (place k (o + n) l) (take i b ++ (values_from (d k) n o ++ drop (i + n) b))
  unfolding read_from values_from
  get_within_lem zero k o l i b z h e = rw (add-zero i, add-zero o, take-append-drop i b)
  get_within_lem (suc n) k o l i b z h e =
      let x = d k o in
      let b' = set b i x in
      let vs = values_from (d k) n (o + 1) in
      let p : i + 1 + n ≡ i + suc n = omega arith in
      let q : o + 1 + n ≡ o + suc n = omega arith in
      let len : length vs ≡ n = values_length (d k) n (o + 1) in
      let f : take (i + 1) b' ++ (vs ++ drop (i + 1 + n) b') ≡ take i b ++ x ∷ (vs ++ drop (i + suc n) b) = rw len at (one_more b vs i x (omega arith)) in
      step n i k o l b (seek-ready g d s k o l (has_byte_lem k o z (omega arith)))
      ∙ get_within_lem n k (o + 1) l (i + 1) b' z (omega arith) (rw length-set (omega arith))
      ∙ ap (λ m. reads success m (place k (o + 1 + n) l) (take (i + 1) b' ++ (vs ++ drop (i + 1 + n) b'))) p
      ∙ ap (λ m. reads success (i + suc n) (place k m l) (take (i + 1) b' ++ (vs ++ drop (i + 1 + n) b'))) q
      ∙ ap (reads success (i + suc n) (place k (o + suc n) l)) f
    where
      step : (n i k o l : ℕ) (b : List ℕ) → seek g d s k o l ≡ Ready (place k o l) → get_from g d s (suc n) i (place k o l) b ≡ get_from g d s n (i + 1) (place k (o + 1) l) (set b i (d k o))
      step n i k o l b e = rw (e, read_from)

  -- at the edge of sector k the next byte is sought there, where it fits
  module _ (j o k n : ℕ) (e : AtEdge g d s j o k) where
    sought : fits g (d k) s k ≡ true → seek g d s j o (suc n) ≡ seek g d s k 0 n
    unfolding seek
    sought f = rw (e.used_up, e.goes_on, e.enters, f, seek) (ap (λ y. seek g d s y 0 n) e.enters)

    broken : fits g (d k) s k ≡ false → seek g d s j o (suc n) ≡ Broken (place j o (suc n))
    unfolding seek
    broken f = rw (e.used_up, e.goes_on, e.enters, f, seek)

    first-tested : fits g (d k) s k ≡ true → readable g d s k 0 ≡ true
    unfolding readable
    first-tested f =
        let low = and_left (ltb s 64) (eqb j 0 || fits g (d j) s j && leb o (in_use g (d j))) e.tested in
        rw (low, f, le-leb 0 (in_use g (d k)) (omega arith)) (or_right (eqb k 0) true refl)

    edge_get : (i : ℕ) (b : List ℕ) → fits g (d k) s k ≡ true → 0 < i → get_from g d s i 0 (place j o (suc n)) b ≡ get_from g d s i 0 (place k 0 n) b
    unfolding read_from
    edge_get zero b f z = absurd (omega arith)
    edge_get (suc i) b f z = rw (sought f, read_from)

    edge_stop : (i : ℕ) (b : List ℕ) → fits g (d k) s k ≡ false → 0 < i → get_from g d s i 0 (place j o (suc n)) b ≡ reads bad_chain 0 (place j o (suc n)) b
    unfolding read_from
    edge_stop zero b f z = absurd (omega arith)
    edge_stop (suc i) b f z = rw (broken f, read_from)

    on_edge : (b : List ℕ) → 0 < length b → get_on g d (Reading s j o (suc n)) b ≡ tells_end g d b (gets s (get_from g d s (length b) 0 (place j o (suc n)) b))
    unfolding fill
    on_edge b z = gets_some g d s j o (suc n) Characters b (λ q. omega arith) e.tested

    -- from the sector's first byte
    first_get : (b : List ℕ) → 0 < length b → fits g (d k) s k ≡ true → get_on g d (Reading s k 0 n) b ≡ tells_end g d b (gets s (get_from g d s (length b) 0 (place k 0 n) b))
    unfolding fill
    first_get b z f = gets_some g d s k 0 n Characters b (λ q. omega arith) (first-tested f)

    enter_edge : (b : List ℕ) → 0 < length b → fits g (d k) s k ≡ true → get_on g d (Reading s j o (suc n)) b ≡ get_on g d (Reading s k 0 n) b
    enter_edge b z f = on_edge b z ∙ ap (λ r. tells_end g d b (gets s r)) (edge_get (length b) b f z) ∙ sym (first_get b z f)

    get_edge : (b : List ℕ) → 0 < length b → length b ≤ in_use g (d k) → fits g (d k) s k ≡ true → Gives g d (values_from (d k) (length b) 0) s k n b (get_on g d (Reading s j o (suc n)) b)
    unfolding gets
    get_edge b z h f =
        let r = edge_get (length b) b f z ∙ get_within_lem (length b) k 0 n 0 b (fits_pos g (d k) s k f) (omega arith) (omega arith) in
        rw (on_edge b z, r, zero-add (length b), drop-length b, append-nil) (record { status = refl; count = refl; state = refl; buffer = sym (all_of (length b) (d k)) })
      where
        all_of : (n : ℕ) (f : ℕ → ℕ) → take n (values_from f n 0) ≡ values_from f n 0
        all_of n f = take_all n (values_from f n 0) (let e = values_length f n 0 in omega arith)

    stop_edge : (b : List ℕ) → 0 < length b → fits g (d k) s k ≡ false → Stops (Reading s j o (suc n)) b (get_on g d (Reading s j o (suc n)) b)
    unfolding gets
    stop_edge b z f = rw (on_edge b z, edge_stop (length b) b f z) (record { status = or_refused g d b _ (λ q. omega arith); count = refl; state = refl; buffer = refl })

-- the first of several values
take_values : (f : ℕ → ℕ) (n m j : ℕ) → n ≤ m → take n (values_from f m j) ≡ values_from f n j
unfolding values_from
take_values f zero m j h = refl
take_values f (suc n) zero j h = absurd (omega arith)
take_values f (suc n) (suc m) j h = ap (λ xs. f j ∷ xs) (take_values f n m (j + 1) (omega arith))

-- an image served as m
module _ (l : List ℕ) (m : Medium) (w : served_as l ≡ Ok m) where
  abbrev g : Geometry
  g = geometry_of m

  abbrev D : Disk
  D = view g l

  module _ (s k : ℕ) where
    yes_is : shows l s k ≡ true → told.Shown g l s k
    yes_is h = enters_true g l s k (sym (shows_is l s k m w) ∙ h)

    long : shows l s k ≡ true → shown_length l s k ≡ in_use g (D k)
    long h = length_yes l s k m w (sym (shows_is l s k m w) ∙ h)

    part_is : shows l s k ≡ true → shown_part l s k ≡ values_from (D k) (in_use g (D k)) 0
    unfolding shown_part
    part_is h =
        let y = yes_is h in
        let u = y.small in
        let a = y.low in
        let z = (laws l m w).whole k a in
        rw (long h, start_yes l s k m w (sym (shows_is l s k m w) ∙ h)) (sector-part g (laws l m w) l (served_whole l m w).1 k (in_use g (D k)) (omega arith) (omega arith) (omega arith))

    no-fits : (j o : ℕ) → AtEdge g D s j o k → shows l s k ≡ false → fits g (D k) s k ≡ false
    unfolding enters readable
    no-fits j o e h =
        let low : ltb s 64 ≡ true = and_left (ltb s 64) (eqb j 0 || fits g (D j) s j && leb o (in_use g (D j))) e.tested in
        sym (ap (λ b. b && fits g (D k) s k) low) ∙ sym (shows_is l s k m w) ∙ h

    whole : shows l s k ≡ true → (b : List ℕ) → length b ≤ in_use g (D k) → take (length b) (values_from (D k) (length b) 0) ≡ take (length b) (shown_part l s k)
    whole h b t = take_values (D k) (length b) (length b) 0 (omega arith) ∙ sym (take_values (D k) (length b) (in_use g (D k)) 0 t) ∙ ap (take (length b)) (sym (part_is h))

  shown-on : ShownOn g l
  shown-on = record {
    part = part_is;
    delivers = λ s j o k n e h c q b z t.
        let y = yes_is s k h in
        let u = long s k h in
        let f = get_edge g D s j o k n e b z (omega arith) y.fit in
        rw (thin_get_on l m w c b, q) (record { status = f.status; count = f.count; state = f.state; buffer = f.buffer ∙ whole s k h b (omega arith) });
    entered = λ s j o k n e h c c' q q' b z. rw (thin_get_on l m w c b, thin_get_on l m w c' b, q, q') (enter_edge g D s j o k n e b z (yes_is s k h).fit);
    stops = λ s j o k n e h c q b z. rw (thin_get_on l m w c b, q) (stop_edge g D s j o k n e b z (no-fits s k j o e h));
  }

pub shown : Shown
unfolding shown_part
shown = record {
  within = shown-within;
  none = λ l s k h. let (a, b) = shown-none l s k h in (a, rw b);
  on = shown-on;
}
