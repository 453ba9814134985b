-- 3 where a get reaches the file's end: when it is answered, and when the number stays.
use mathlib.Core.Bool.{true, false, not, ◌&&◌}
use mathlib.Core.List.{List}
use mathlib.Core.Logic.{◌≢◌}
use mathlib.Core.Path.{◌≡◌, sym, ap, ◌∙◌}
use Prim.Native.Nat.{ℕ}
use native.Mathlib.Omega.{arith}
use lib.Dec.{eqb}
use lib.ListN.{length}
use borrow.Author.Tests.{eq-eqb, ne_eqb, eqb-true, eqb-false, le-ltb, not-true}
use Rattle.layout.specs.declared.State.{State}
use Rattle.layout.specs.declared.State.TheVariants.{Reading}
use Rattle.rules.specs.declared.Form.{Form}
use Rattle.layout.specs.Image.{Disk, Geometry}
use Rattle.layout.specs.File.{next, in_use}
use Rattle.layout.specs.Status.{success, end_reached, bad_chain}
use Rattle.layout.proofs.Logic.{and_left, and_right, and_no}
use Rattle.layout.proofs.Check.{check_yes, check_no, by_if}
use Rattle.rules.specs.Get.{GetOutcome, get_keeps, place, has_byte, ends, fill, gets, readable, read_on, at_end, or_end_reached, tells_end, get_as}

module _ (g : Geometry) (d : Disk) (b : List ℕ) (st : State) where
  -- what holds of the number, and of 3 where the get succeeds, wanted a byte and is left at the end, holds of the answer
  pub by_end : (Q : ℕ → Type 0) (n : ℕ) → Q n → (n ≡ success → length b ≢ 0 → at_end g d st ≡ true → Q end_reached) → Q (or_end_reached g d b st n)
  unfolding or_end_reached
  by_end Q n p q = by_if Q _ end_reached n
      (λ e. let l = and_left (eqb n success && not (eqb (length b) 0)) (at_end g d st) e in
      q (eqb-true n success (and_left (eqb n success) (not (eqb (length b) 0)) l)) (eqb-false (length b) 0 (not-true (eqb (length b) 0) (and_right (eqb n success) (not (eqb (length b) 0)) l))) (and_right (eqb n success && not (eqb (length b) 0)) (at_end g d st) e))
      (λ _. p)

  -- so any answer but 3 is that number
  pub or_same : (n m : ℕ) → or_end_reached g d b st n ≡ m → m ≢ end_reached → n ≡ m
  or_same n m = by_end (λ x. x ≡ m → m ≢ end_reached → n ≡ m) n (λ e _. e) (λ _ _ _ e h. absurd (h (sym e)))

  -- a refusal stays
  pub or_refused : {n : ℕ} → n ≢ success → or_end_reached g d b st n ≡ n
  unfolding or_end_reached
  or_refused {n = n} h = rw (ne_eqb n success h)

  -- and so does 1 for no bytes, and where the channel is not at the end
  pub or_none : length b ≡ 0 → or_end_reached g d b st success ≡ success
  unfolding or_end_reached
  or_none e = rw (eq-eqb (length b) 0 e)

  pub or_before : at_end g d st ≡ false → or_end_reached g d b st success ≡ success
  unfolding or_end_reached
  or_before e = rw (e, and_no (not (eqb (length b) 0)))

  -- otherwise it is 3
  pub or_end : length b ≢ 0 → at_end g d st ≡ true → or_end_reached g d b st success ≡ end_reached
  unfolding or_end_reached
  or_end n e = rw (ne_eqb (length b) 0 n, e)

-- a place at the end: its sector was entered, no byte of it is left, and it is the file's last
pub record Finished (g : Geometry) (d : Disk) (k o : ℕ) : Type 0 where
  pub entered : k ≢ 0
  pub used : o ≡ in_use g (d k)
  pub none : has_byte g d k o ≡ false
  pub last : ends g d k ≡ true

module _ (g : Geometry) (d : Disk) (s k o l : ℕ) where
  pub finished : at_end g d (Reading s k o l) ≡ true → Finished g d k o
  unfolding at_end has_byte ends
  finished e =
      let used = eqb-true o (in_use g (d k)) (and_left (eqb o (in_use g (d k))) (ends g d k) e) in
      let last = and_right (eqb o (in_use g (d k))) (ends g d k) e in
      record {
        entered = eqb-false k 0 (not-true (eqb k 0) (and_left (not (eqb k 0)) (eqb (next g (d k)) 0) last));
        used = used;
        none = rw (le-ltb o (in_use g (d k)) (omega arith)) (and_no (not (eqb k 0)));
        last = last;
      }

  -- a reading channel before its first sector, and one with bytes left in its sector, is not at the end
  pub at_none : k ≡ 0 → at_end g d (Reading s k o l) ≡ false
  unfolding at_end ends
  at_none e = rw (eq-eqb k 0 e) (and_no (eqb o (in_use g (d k))))

  pub at_inside : o ≢ in_use g (d k) → at_end g d (Reading s k o l) ≡ false
  unfolding at_end
  at_inside n = rw (ne_eqb o (in_use g (d k)) n)

  -- behind the last of them it is where the sector is the file's last
  pub at_used : o ≡ in_use g (d k) → at_end g d (Reading s k o l) ≡ ends g d k
  unfolding at_end
  at_used e = rw (eq-eqb o (in_use g (d k)) e)

  -- what a get on a reading channel comes to: no bytes wanted, a sector that cannot be read on, or bytes read
  module _ (f : Form) (b : List ℕ) where
    abbrev st : State
    st = Reading s k o l

    pub gets_none : length b ≡ 0 → get_as g f d st b ≡ get_keeps success st b
    unfolding read_on get_as
    gets_none n = ap (tells_end g d b) (check_yes {A = GetOutcome} _ _ _ (eq-eqb (length b) 0 n)) ∙ ap (λ m. get_keeps m st b) (or_none g d b st n)

    module _ (n : length b ≢ 0) where
      pub gets_broken : readable g d s k o ≡ false → get_as g f d st b ≡ get_keeps bad_chain st b
      unfolding read_on get_as
      gets_broken r = ap (tells_end g d b) (check_no {A = GetOutcome} _ _ _ (ne_eqb (length b) 0 n) ∙ check_yes {A = GetOutcome} _ _ _ (ap not r)) ∙ ap (λ m. get_keeps m st b) (or_refused g d b st (λ e. omega arith))

      pub gets_some : readable g d s k o ≡ true → get_as g f d st b ≡ tells_end g d b (gets s (fill g f d s (place k o l) b))
      unfolding read_on get_as
      gets_some r = ap (tells_end g d b) (check_no {A = GetOutcome} _ _ _ (ne_eqb (length b) 0 n) ∙ check_no {A = GetOutcome} _ _ _ (ap not r))
