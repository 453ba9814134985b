-- A get or a get record on a clean chain, of a buffer: what it hands out, what it leaves, and where it is then.
use mathlib.Core.Bool.{Bool, true, false}
use mathlib.Core.List.{List, [], ◌++◌}
use mathlib.Core.Logic.{◌≢◌}
use mathlib.Core.Path.{◌≡◌, refl, sym, ap, ◌∙◌}
use Prim.Native.Nat.{ℕ, ◌<◌, min}
use native.Mathlib.Decide.{dec_lt}
use native.Mathlib.Nat.{zero-add}
use native.Mathlib.Omega.{arith}
use lib.Dec.{leb}
use lib.ListN.{length, take, drop, length-take, drop_of_length-le}
use lib.Seq.{take_all, length-take-le, drop-length, drop-append_seam}
use borrow.Author.Tests.{ne_eqb, leb-true, leb-false}
use Rattle.rules.specs.declared.Form.{Form}
use Rattle.rules.specs.declared.Form.TheVariants.{Characters, Record}
use Rattle.rules.specs.declared.Place.{Place}
use Rattle.layout.specs.Basics.{if, values_from, member, through, behind}
use Rattle.layout.specs.Image.{Disk, Geometry}
use Rattle.layout.specs.File.{end_of_line, chain}
use Rattle.layout.specs.Status.{success, end_of_file, truncated, bad_chain}
use Rattle.layout.proofs.Image.{values_length}
use Rattle.layout.proofs.Lines.{through-behind, through_length, behind-none, through-within, through_beyond, behind_beyond}
use Rattle.rules.specs.Get.{Reads, read_from, most, drop_rest, fill}
use Rattle.rules.specs.Sound.{OnPlace}
use Rattle.rules.specs.Demand2.{offered, left_of, answered}
use Rattle.rules.proofs.Steps.{fill_record, drop_status, read_got}
use Rattle.theory.proofs.Delete.{Chain}
use Rattle.theory.proofs.Reading.{rest, rest-most}
use Rattle.theory.proofs.Gets.{Delivers, read_delivers}

-- what is behind the first n bytes, as many as there are
drop_taken : (n : ℕ) (r : List ℕ) → drop (length (take n r)) r ≡ drop n r
drop_taken n r = go (dec_lt (length r) n)
  where
    go : Dec (length r < n) → drop (length (take n r)) r ≡ drop n r
    go (yes h) = rw (take_all n r (omega arith), drop-length r) (sym (drop_of_length-le r {i = n} (omega arith)))
    go (no h) = rw (length-take-le n r (omega arith))

-- what is behind a line is behind its $9B
drop_through : (x : ℕ) (r : List ℕ) → drop (length (through x r)) r ≡ behind x r
drop_through x r = ap (drop (length (through x r))) (sym (through-behind x r)) ∙ drop-append_seam (through x r) (behind x r)

-- what reading on a clean chain answers: what holds of 1, 137 and 136 holds of it
pub by_answer : (Q : ℕ → Type 0) → Q success → Q truncated → Q end_of_file → (a b : Bool) → Q (if a success (if b truncated end_of_file))
by_answer Q p q r true b = p
by_answer Q p q r false true = q
by_answer Q p q r false false = r

-- so it never comes to a sector that cannot be entered
not_broken : (a b : Bool) → if a success (if b truncated end_of_file) ≢ bad_chain
not_broken = by_answer (λ n. n ≢ bad_chain) (λ e. omega arith) (λ e. omega arith) (λ e. omega arith)

-- where r is left of the file and the buffer is b
pub record Filled (g : Geometry) (d : Disk) (s : ℕ) (f : Form) (r b : List ℕ) (z : Reads) : Type 0 where
  pub kept : OnPlace g d s z.got.place.sector z.got.place.offset z.got.place.left
  pub left : rest g d s z.got.place.sector z.got.place.offset ≡ left_of f (length b) r
  pub status : z.got.status ≡ answered f (length b) r
  pub count : z.got.count ≡ min (length b) (length (offered f r))
  pub buffer : z.buffer ≡ take (length b) (offered f r) ++ drop (length (take (length b) (offered f r))) b

module _ (g : Geometry) (d : Disk) (s : ℕ) (c : Chain g d s (chain g d s)) (p : Place) (o : OnPlace g d s p.sector p.offset p.left) (r b : List ℕ) (e : rest g d s p.sector p.offset ≡ r) where
  abbrev n : ℕ
  n = length b

  abbrev first : Form → Reads
  first f = read_from g f d s n 0 p b

  -- the buffer's bytes
  delivers : (f : Form) → Delivers g d s f n 0 r b (first f)
  delivers f = read_delivers g d s c f n 0 p r b o e (omega arith)

  counted : (f : Form) → (first f).got.count ≡ min n (length (offered f r))
  counted f = (delivers f).count ∙ zero-add (length (take n (offered f r))) ∙ length-take n (offered f r)

  stored : (f : Form) → (first f).buffer ≡ take n (offered f r) ++ drop (length (take n (offered f r))) b
  stored f = (delivers f).buffer ∙ rw zero-add

  -- a get record
  module _ (some : n ≢ 0) where
    abbrev line : List ℕ
    line = through end_of_line r

    -- the line's $9B came
    whole : member end_of_line (take n r) ≡ true → Filled g d s Record r b (first Record)
    whole m =
        let w : take n line ≡ line = take_all n line (through-within end_of_line n r m) in
        record {
          kept = (delivers Record).kept;
          left = (delivers Record).left ∙ ap (λ l. drop (length l) r) w ∙ drop_through end_of_line r ∙ rw (ne_eqb n 0 some);
          status = (delivers Record).status ∙ rw (ne_eqb n 0 some, m);
          count = counted Record;
          buffer = stored Record;
        }

    -- it did not
    module _ (m : member end_of_line (take n r) ≡ false) where
      beyond : take n line ≡ take n r
      beyond = through_beyond end_of_line n r m

      -- the file ended first
      short : leb n (length r) ≡ false → Filled g d s Record r b (first Record)
      short t =
          let u = leb-false n (length r) t in
          let all : take n r ≡ r = take_all n r (omega arith) in
          record {
            kept = (delivers Record).kept;
            left = (delivers Record).left ∙ ap (λ l. drop (length l) r) (beyond ∙ all) ∙ drop-length r ∙ rw (ne_eqb n 0 some) (sym (behind-none end_of_line r (ap (member end_of_line) (sym all) ∙ m)));
            status = (delivers Record).status ∙ rw (ne_eqb n 0 some, m, t);
            count = counted Record;
            buffer = stored Record;
          }

      -- the buffer filled first
      module _ (t : leb n (length r) ≡ true) where
        abbrev q : Place
        q = (first Record).got.place

        abbrev blank : List ℕ
        blank = values_from (λ _. 0) (most g q) 0

        at : rest g d s q.sector q.offset ≡ drop n r
        at = let u = leb-true n (length r) t in (delivers Record).left ∙ ap (λ l. drop (length l) r) beyond ∙ ap (λ k. drop k r) (length-take-le n r u)

        dropped : Delivers g d s Record (most g q) 0 (drop n r) blank (read_from g Record d s (most g q) 0 q blank)
        dropped = read_delivers g d s c Record (most g q) 0 q (drop n r) blank (delivers Record).kept at (rw (values_length (λ _. 0) (most g q) 0) (omega arith))

        same : (read_from g Record d s (most g q) 0 q []).got ≡ (read_from g Record d s (most g q) 0 q blank).got
        same = read_got g d s Record (most g q) 0 q [] blank

        -- what is dropped is all of the line
        all : take (most g q) (through end_of_line (drop n r)) ≡ through end_of_line (drop n r)
        all =
            let u = rest-most g d s c q.sector q.offset q.left (delivers Record).kept in
            let v = ap length at in
            let w = through_length end_of_line (drop n r) in
            take_all (most g q) (through end_of_line (drop n r)) (omega arith)

        cut : Filled g d s Record r b (drop_rest g d s (first Record))
        unfolding drop_rest
        cut = record {
          kept = rw same dropped.kept;
          left = rw same dropped.left ∙ ap (λ l. drop (length l) (drop n r)) all ∙ drop_through end_of_line (drop n r) ∙ behind_beyond end_of_line n r m ∙ rw (ne_eqb n 0 some);
          status = drop_status (λ k. k ≡ answered Record n r) g d s (first Record) (λ x. absurd (not_broken (member end_of_line (take (most g q) (drop n r))) (leb (most g q) (length (drop n r))) (sym dropped.status ∙ ap (λ z. z.status) (sym same) ∙ x))) (λ _. rw (ne_eqb n 0 some, m, t));
          count = counted Record;
          buffer = stored Record;
        }

    record_fills : Filled g d s Record r b (fill g Record d s p b)
    record_fills = fill_record g d s (Filled g d s Record r b) p b (λ h. go (member end_of_line (take n r)) refl (leb n (length r)) refl (sym (delivers Record).status ∙ h)) (λ h. end (member end_of_line (take n r)) refl (leb n (length r)) refl (λ x. h ((delivers Record).status ∙ x)))
      where
        go : (a : Bool) → member end_of_line (take n r) ≡ a → (t : Bool) → leb n (length r) ≡ t → if a success (if t truncated end_of_file) ≡ truncated → Filled g d s Record r b (drop_rest g d s (first Record))
        go true m t u x = absurd (omega arith)
        go false m true u x = cut m u
        go false m false u x = absurd (omega arith)

        end : (a : Bool) → member end_of_line (take n r) ≡ a → (t : Bool) → leb n (length r) ≡ t → (if a success (if t truncated end_of_file) ≢ truncated) → Filled g d s Record r b (first Record)
        end true m t u x = whole m
        end false m true u x = absurd (x refl)
        end false m false u x = short m u

  pub fill-delivers : (f : Form) → n ≢ 0 → Filled g d s f r b (fill g f d s p b)
  unfolding fill
  fill-delivers Characters some = record { kept = (delivers Characters).kept; left = (delivers Characters).left ∙ drop_taken n r; status = (delivers Characters).status; count = counted Characters; buffer = stored Characters }
  fill-delivers Record some = record_fills some
