-- Sector calls: a sector written reads back the same, every other is as it was, and a read changes nothing.
use mathlib.Core.Bool.{Bool, true, false, ◌&&◌, ◌||◌, true≢false}
use mathlib.Core.List.{List, [], ◌∷◌}
use mathlib.Core.Path.{◌≡◌, refl, sym, ap, ◌∙◌, subst}
use Prim.Native.Nat.{ℕ, suc, zero, ◌+◌, ◌≤◌}
use native.Mathlib.Nat.{add-zero}
use native.Mathlib.Omega.{arith}
use lib.Dec.{leb, eqb}
use lib.ListN.{length, take, drop}
use borrow.Author.Tests.{eqb-true, eq-eqb, leb-true, le-leb, not-false}
use Rattle.layout.specs.Basics.{values_from}
use Rattle.layout.specs.declared.density.Medium.{Medium}
use Rattle.std.specs.Prelude.{Ok}
use Rattle.layout.specs.Image.{Sector, Disk, Geometry, geometry_of, view, image_of, write_byte, write_run}
use Rattle.layout.specs.Header.{served_as}
use Rattle.layout.proofs.Header.{served_whole}
use Rattle.layout.specs.Status.{success, Succeeds}
use Rattle.layout.proofs.Check.{by_check, by_served, check_no}
use Rattle.layout.proofs.Logic.{and_left, and_right}
use Rattle.layout.proofs.Image.{Lawful, image_length}
use Rattle.layout.proofs.Run.{run-other, run_values, part_values}
use Rattle.rules.specs.Sectors.{SectorOutcome, sector_outcome, ImageSectorOutcome, is_write, is_request, sector, sector_call}
use Rattle.theory.specs.SectorCalls.{Wrote, SectorCalls}
use Rattle.theory.proofs.Placed.{Placed, placed_write}
use Rattle.theory.proofs.Served.{laws, viewed, sector-on, kept-image, held-view, held-served}

-- the first bytes of a sector, as they lie in an image of the geometry's length
pub sector-part : (g : Geometry) (lawful : Lawful g) (l : List ℕ) → length l ≡ g.total → (k n : ℕ) → 1 ≤ k → k ≤ 720 → n ≤ g.size k → take n (drop (g.start k) l) ≡ values_from (view g l k) n 0
unfolding values_from
sector-part g lawful l e k zero a b c = refl
sector-part g lawful l e k (suc n) a b c =
    let t = lawful.within k n b (omega arith) in
    ap (λ i. take (suc n) (drop i l)) (sym (add-zero (g.start k))) ∙ part_values g (suc n) l k 0 (λ i h. omega arith) (omega arith)

-- a run of bytes within one sector leaves a disk that an image can hold
placed_run : (g : Geometry) (lawful : Lawful g) (top : Sector) (xs : List ℕ) (d : Disk) (k j : ℕ) → 1 ≤ k → k ≤ 720 → j + length xs ≤ g.size k → Placed g top d → Placed g top (write_run d k j xs)
unfolding write_run
placed_run g lawful top [] d k j a b c p = p
placed_run g lawful top (v ∷ xs) d k j a b c p = placed_run g lawful top xs (write_byte d k j v) k (j + 1) a b (omega arith) (placed_write g lawful top d k j v a b (omega arith) p)

-- a sector of the disk
request_sector : (command k : ℕ) → is_request command k ≡ true → (1 ≤ k) × (k ≤ 720)
unfolding is_request
request_sector command k e = let r = and_right (eqb command 0x52 || is_write command) (leb 1 k && leb k 720) e in (leb-true 1 k (and_left (leb 1 k) (leb k 720) r), leb-true k 720 (and_right (leb 1 k) (leb k 720) r))

read_request : (k : ℕ) → 1 ≤ k → k ≤ 720 → is_request 0x52 k ≡ true
unfolding is_request is_write
read_request k a b = rw (le-leb 1 k a, le-leb k 720 b)

no_write : is_write 0x52 ≡ false
unfolding is_write
no_write = refl

module _ (g : Geometry) (d : Disk) where
  -- a read of sector k
  read_is : (protected : Bool) (k : ℕ) (b : List ℕ) → 1 ≤ k → k ≤ 720 → length b ≡ g.size k → sector g d protected 0x31 1 0x52 k b ≡ sector_outcome success (g.size k) d (values_from (d k) (g.size k) 0)
  unfolding sector
  read_is protected k b low high n = check_no {A = SectorOutcome} _ _ _ refl ∙ check_no {A = SectorOutcome} _ _ _ (rw (read_request k low high)) ∙ check_no {A = SectorOutcome} _ _ _ (rw no_write) ∙ check_no {A = SectorOutcome} _ _ _ (rw (eq-eqb (length b) (g.size k) n)) ∙ check_no {A = SectorOutcome} _ _ _ no_write

  module _ (protected : Bool) (device unit command k : ℕ) (b : List ℕ) where
    -- what a call that succeeds has passed
    record Passed (o : SectorOutcome) : Type 0 where
      low : 1 ≤ k
      high : k ≤ 720
      size : length b ≡ g.size k
      write : is_write command ≡ true → o ≡ sector_outcome success (g.size k) (write_run d k 0 b) b
      read : is_write command ≡ false → o ≡ sector_outcome success (g.size k) d (values_from (d k) (g.size k) 0)

    passed : let o = sector g d protected device unit command k b in Succeeds o.reply.status → Passed o
    unfolding sector
    passed = by_check P _ _ _ (λ _ h. absurd (true≢false (sym h))) λ _. by_check P _ _ _ (λ _ h. absurd (true≢false (sym h))) λ r. by_check P _ _ _ (λ _ h. absurd (true≢false (sym h))) λ _. by_check P _ _ _ (λ _ h. absurd (true≢false (sym h))) λ n.
        let (low, high) = request_sector command k (not-false (is_request command k) r) in
        let size = eqb-true (length b) (g.size k) (not-false (eqb (length b) (g.size k)) n) in
        by_check P _ _ _ (λ t _. record { low = low; high = high; size = size; write = λ _. refl; read = λ u. absurd (true≢false (sym t ∙ u)) })
        λ t _. record { low = low; high = high; size = size; write = λ u. absurd (true≢false (sym u ∙ t)); read = λ _. refl }
      where
        P : SectorOutcome → Type 0
        P o = Succeeds o.reply.status → Passed o

    keeps : is_write command ≡ false → (sector g d protected device unit command k b).disk ≡ d
    unfolding sector
    keeps n = by_check P _ _ _ (λ _. refl) λ _. by_check P _ _ _ (λ _. refl) λ _. by_check P _ _ _ (λ _. refl) λ _. by_check P _ _ _ (λ _. refl) λ _. by_check P _ _ _ (λ w. absurd (true≢false (sym w ∙ n))) λ _. refl
      where
        P : SectorOutcome → Type 0
        P o = o.disk ≡ d

-- the sector written, on an image that is served as m
module _ (m : Medium) (l : List ℕ) (w : served_as l ≡ Ok m) (k : ℕ) (b : List ℕ) (low : 1 ≤ k) (high : k ≤ 720) (size : length b ≡ (geometry_of m).size k) where
  abbrev g : Geometry
  g = geometry_of m

  abbrev D : Disk
  D = view g l

  abbrev e : Disk
  e = write_run D k 0 b

  abbrev l' : List ℕ
  l' = image_of g (length l) e

  placed : Placed g (D 0) e
  placed = placed_run g (laws l m w) (D 0) b D k 0 low high (omega arith) (viewed l m w)

  own : values_from (view g l' k) (g.size k) 0 ≡ b
  own = ap (λ (d : Disk). values_from (d k) (g.size k) 0) (held-view l m w e placed) ∙ ap (λ n. values_from (e k) n 0) (sym size) ∙ run_values b D k 0

  back : (protected : Bool) (b' : List ℕ) → length b' ≡ g.size k → sector_call l' protected 0x31 1 0x52 k b' ≡ record { reply = record { status = success; count = g.size k }; image = l'; buffer = b }
  back protected b' n =
      let w' = held-served l m w e placed in
      sector-on l' m w' protected 0x31 1 0x52 k b' ∙ rw (read_is g (view g l') protected k b' low high n, kept-image l' m w' (view g l') refl, own)

  wrote : Wrote m l k b (record { reply = record { status = success; count = g.size k }; image = l'; buffer = b })
  wrote = record {
    count = refl;
    buffer = refl;
    long = image_length g (length l) e;
    served = held-served l m w e placed;
    back = back;
    others = λ x n. ap (λ (d : Disk). d x) (held-view l m w e placed) ∙ run-other b D k 0 x n;
  }

pub sector-calls : SectorCalls
unfolding sector_call
sector-calls = record {
  writes = λ l m w protected device unit command k b t.
      let g = geometry_of m in
      let P : ImageSectorOutcome → Type 0 = λ o. Succeeds o.reply.status → Wrote m l k b o in
      subst P (sym (sector-on l m w protected device unit command k b)) (λ h.
      let p = passed g (view g l) protected device unit command k b h in
      rw (p.write t) (wrote m l w k b p.low p.high p.size));
  reads = λ l m w protected device unit command k b t.
      let g = geometry_of m in
      let P : ImageSectorOutcome → Type 0 = λ o. Succeeds o.reply.status → (o.reply.count ≡ g.size k) × (o.buffer ≡ take (g.size k) (drop (g.start k) l)) in
      subst P (sym (sector-on l m w protected device unit command k b)) (λ h.
      let p = passed g (view g l) protected device unit command k b h in
      rw (p.read t) (refl, sym (sector-part g (laws l m w) l (served_whole l m w).1 k (g.size k) p.low p.high (omega arith))));
  keeps = λ l protected device unit command k b t. by_served (λ (o : ImageSectorOutcome). o.image ≡ l) _ _ _ (λ _ _. refl)
      (λ m w. kept-image l m w _ (keeps (geometry_of m) (view (geometry_of m) l) protected device unit command k b t));
}
