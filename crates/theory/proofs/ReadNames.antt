-- What the reader of names gives since a blank ends a name.
use mathlib.Core.Bool.{Bool, true, false, not, ◌&&◌, ◌||◌}
use mathlib.Core.List.{List}
use mathlib.Core.Logic.{◌≢◌, ◌⊎◌, inl, inr}
use mathlib.Core.Path.{◌≡◌, refl, sym, ap}
use Prim.Native.Nat.{ℕ, suc, zero, ◌+◌, ◌≤◌, ◌<◌}
use native.Mathlib.Decide.{dec_lt}
use native.Mathlib.Omega.{arith}
use lib.Dec.{eqb, ltb}
use borrow.Author.Tests.{eqb-true, eqb-false, ne_eqb, lt-ltb, le-ltb}
use Rattle.std.specs.Prelude.{Result, Ok, Err}
use Rattle.layout.specs.declared.FileName.{FileName}
use Rattle.layout.specs.Basics.{if, check, first_from}
use Rattle.layout.specs.Names.{char, capital_d, one, colon, point, blank, letter, digit, plain, ending, comma, has_device, has_unit, body, not_plain, name_end, whole_end, well_formed, padded, name_at, read_as, read_name, parse_name, old_name, new_name, read_device, file_name}
use Rattle.layout.specs.Status.{bad_device, bad_unit, bad_name, success}
use Rattle.layout.proofs.Logic.{and_left, and_right}
use Rattle.layout.proofs.Search.{first-least, first_until}
use Rattle.layout.proofs.Packed.{packed_same}
use Rattle.layout.proofs.Text.{passes_inside}
use Rattle.theory.specs.ReadNames.{ended_before, is_blank, new_name_as, read_device_as, NameKept, DeviceKept, FirstEnding, ReadNames}
use Rattle.theory.proofs.Names.{plain_ending, name-begins, before-end, refused_not, Accepted, read_accepted, name-legal, parse_is}
use Rattle.theory.proofs.Spelling.{legal_fields, has_spelling}

-- What was answered before the request, and what is now.

all_refused : (n : ℕ) → NameKept (Err n) (Err n) (Err n)
all_refused n = record { accepted = λ _ _ h. h; ended = λ _ _ h. h; only = λ _ _ h. inl h; refused = λ _ h. h; gained = λ _ _ _ _ h. absurd (refused_not h) }

-- a letter first, an ending byte of before, a blank: the name or its refusal by each reader
formed : (word extension : ℕ) (l old b : Bool) → let n : Result FileName ℕ = Ok (file_name word extension) in let r : Result FileName ℕ = Err bad_name in NameKept (if (l && old) n r) (if (l && b) n r) (if (l && (old || b)) n r)
formed word extension false old b = all_refused bad_name
formed word extension true false false = all_refused bad_name
formed word extension true false true = record { accepted = λ _ _ h. absurd (refused_not h); ended = λ _ _ h. h; only = λ _ _ h. inr h; refused = λ _ h. absurd (refused_not (sym h)); gained = λ _ _ _ h _. cc }
formed word extension true true false = record { accepted = λ _ _ h. h; ended = λ _ _ h. absurd (refused_not h); only = λ _ _ h. inl h; refused = λ _ h. h; gained = λ _ _ _ h _. absurd (refused_not (sym h)) }
formed word extension true true true = record { accepted = λ _ _ h. h; ended = λ _ _ h. h; only = λ _ _ h. inl h; refused = λ _ h. h; gained = λ _ _ _ h _. absurd (refused_not (sym h)) }

at_kept : (text : List ℕ) (i : ℕ) → NameKept (name_at ended_before text i) (name_at is_blank text i) (name_at ending text i)
unfolding name_at well_formed ending
at_kept text i = let e = char text (whole_end text i) in formed _ _ (letter (char text i)) (ended_before e) (is_blank e)

names-kept : (text : List ℕ) → NameKept (read_as ended_before text) (read_as is_blank text) (read_name text)
unfolding read_name read_as check
names-kept text = go (not (has_device text)) (not (has_unit text))
  where
    rows : Bool → Bool → (ℕ → Bool) → Result FileName ℕ
    rows b c ends = elim b [ true ↦ Err bad_device | false ↦ elim c [ true ↦ Err bad_unit | false ↦ name_at ends text (body text) ] ]

    go : (b c : Bool) → NameKept (rows b c ended_before) (rows b c is_blank) (rows b c ending)
    go true c = all_refused bad_device
    go false true = all_refused bad_unit
    go false false = at_kept text (body text)

new_kept : (text : List ℕ) → NameKept (new_name_as ended_before text) (new_name_as is_blank text) (new_name text)
unfolding new_name
new_kept text = at_kept text (whole_end text (body text) + 1)

devices-kept : (text : List ℕ) → DeviceKept (read_device_as ended_before text) (read_device_as is_blank text) (read_device text)
unfolding read_device check ending
devices-kept text = let e = char text (body text) in go (not (has_device text)) (not (has_unit text)) (ended_before e) (is_blank e)
  where
    rows : Bool → Bool → Bool → ℕ
    rows b c q = elim b [ true ↦ bad_device | false ↦ elim c [ true ↦ bad_unit | false ↦ elim (not q) [ true ↦ bad_name | false ↦ success ] ] ]

    alike : (n : ℕ) → DeviceKept n n n
    alike n = record { accepted = λ h. h; ended = λ h. h; only = λ h. inl h; refused = λ _. refl; gained = λ h k. absurd (h k) }

    go : (b c old q : Bool) → DeviceKept (rows b c old) (rows b c q) (rows b c (old || q))
    go true c old q = alike bad_device
    go false true old q = alike bad_unit
    go false false true q = record { accepted = λ h. h; ended = λ _. refl; only = λ h. inl h; refused = λ _. refl; gained = λ h k. absurd (h k) }
    go false false false true = record { accepted = λ _. refl; ended = λ h. h; only = λ h. inr h; refused = λ h. absurd (h refl); gained = λ _ _. refl }
    go false false false false = alike bad_name

-- The place of the ending byte.

-- a name's letters, digits and point end no name
in_name : (text : List ℕ) (i x : ℕ) → i ≤ x → x < whole_end text i → ending (char text x) ≡ false
unfolding ending
in_name text i x a b = go (before-end text i x a b)
  where
    go : (plain (char text x) ≡ true) ⊎ (char text x ≡ point) → ending (char text x) ≡ false
    go (inl h) = plain_ending (char text x) h
    go (inr h) = rw h

-- nor do the bytes of a device
module _ (text : List ℕ) (device : has_device text ≡ true) (unit : has_unit text ≡ true) where
  in_device : (x : ℕ) → x < body text → ending (char text x) ≡ false
  unfolding has_device has_unit body ending
  in_device x h = go (eqb (char text 1) colon) refl x h
    where
      begins : char text 0 ≡ capital_d
      begins = eqb-true (char text 0) capital_d (and_left (eqb (char text 0) capital_d) (eqb (char text 1) colon || digit (char text 1) && eqb (char text 2) colon) device)

      second : char text 1 ≢ colon → char text 1 ≡ one
      second n = eqb-true (char text 1) one (rw (ne_eqb (char text 1) colon n) at unit)

      third : char text 1 ≢ colon → char text 2 ≡ colon
      third n = eqb-true (char text 2) colon (and_right (digit (char text 1)) (eqb (char text 2) colon) (rw (ne_eqb (char text 1) colon n) at (and_right (eqb (char text 0) capital_d) (eqb (char text 1) colon || digit (char text 1) && eqb (char text 2) colon) device)))

      go : (b : Bool) → eqb (char text 1) colon ≡ b → (x : ℕ) → x < if b 2 3 → ending (char text x) ≡ false
      go b e zero l = rw begins
      go true e (suc zero) l = rw (eqb-true (char text 1) colon e)
      go true e (suc (suc x)) l = absurd (omega arith)
      go false e (suc zero) l = rw (second (eqb-false (char text 1) colon e))
      go false e (suc (suc zero)) l = rw (third (eqb-false (char text 1) colon e))
      go false e (suc (suc (suc x))) l = absurd (omega arith)

  before_place : (x : ℕ) → x < whole_end text (body text) → ending (char text x) ≡ false
  before_place x h = go (dec_lt x (body text))
    where
      go : Dec (x < body text) → ending (char text x) ≡ false
      go (yes l) = in_device x l
      go (no l) = in_name text (body text) x (omega arith) h

-- what a name that begins at i shows: a letter first, and one of these bytes at its end
module _ (ends : ℕ → Bool) (text : List ℕ) (i word extension : ℕ) (h : name_at ends text i ≡ Ok (file_name word extension)) where
  well_formed_lem : well_formed ends text i ≡ true
  unfolding name_at
  well_formed_lem = go (well_formed ends text i) refl _ _ h
    where
      go : (b : Bool) → well_formed ends text i ≡ b → (u v : ℕ) → if b (Ok (file_name u v)) (Err bad_name) ≡ Ok (file_name word extension) → well_formed ends text i ≡ true
      go true e u v r = e
      go false e u v r = absurd (refused_not r)

  begins-letter : letter (char text i) ≡ true
  unfolding well_formed
  begins-letter = and_left (letter (char text i)) (ends (char text (whole_end text i))) well_formed_lem

  ends_right : ends (char text (whole_end text i)) ≡ true
  unfolding well_formed
  ends_right = and_right (letter (char text i)) (ends (char text (whole_end text i))) well_formed_lem

module _ (text : List ℕ) (word extension : ℕ) where
  pub first-ending : read_name text ≡ Ok (file_name word extension) → FirstEnding text (whole_end text (body text))
  unfolding read_name ending
  first-ending h = record { inside = passes_inside text p ending refl here; here = here; first = before_place text a.device a.unit }
    where
      p : ℕ
      p = whole_end text (body text)

      a : Accepted ending text word extension
      a = read_accepted ending text word extension h

      here : ending (char text p) ≡ true
      here = ends_right ending text (body text) word extension a.named

  -- the first of rename's two names
  first-name : old_name text ≡ Ok (file_name word extension) → let p = whole_end text (body text) in (char text p ≡ 44) × ((x : ℕ) → x < p → ending (char text x) ≡ false)
  unfolding old_name comma
  first-name h = let a = read_accepted comma text word extension h in (eqb-true (char text (whole_end text (body text))) 44 (ends_right comma text (body text) word extension a.named), before_place text a.device a.unit)

-- Texts that are alike up to the place of the ending byte are read alike.

module _ (text other : List ℕ) where
  abbrev Alike : ℕ → Type 0
  Alike p = (x : ℕ) → x ≤ p → char other x ≡ char text x

  run-alike : (n i : ℕ) → Alike (first_from (not_plain text) n i) → first_from (not_plain other) n i ≡ first_from (not_plain text) n i
  unfolding not_plain
  run-alike n i f = first_until (not_plain other) (not_plain text) n i (λ x _ _ h. ap (λ y. not (plain y)) (f x h))

  end-within : (i : ℕ) → name_end text i ≤ whole_end text i
  unfolding whole_end
  end-within i = go (eqb (char text e) point)
    where
      e : ℕ
      e = name_end text i

      go : (q : Bool) → e ≤ if q (first_from (not_plain text) 3 (e + 1)) e
      go true = let l = first-least (not_plain text) 3 (e + 1) in omega arith
      go false = omega arith

  padded-alike : (i e : ℕ) → ((x : ℕ) → x < e → char other x ≡ char text x) → (j : ℕ) → padded other i e j ≡ padded text i e j
  unfolding padded
  padded-alike i e f j = go (dec_lt (i + j) e)
    where
      go : Dec (i + j < e) → if (ltb (i + j) e) (char other (i + j)) blank ≡ if (ltb (i + j) e) (char text (i + j)) blank
      go (yes h) = rw (lt-ltb (i + j) e h) (f (i + j) h)
      go (no h) = rw (le-ltb (i + j) e (omega arith))

  -- a name that begins at i
  module _ (i : ℕ) (f : Alike (whole_end text i)) where
    name-end-alike : name_end other i ≡ name_end text i
    unfolding name_end
    name-end-alike = let l = end-within i in run-alike 8 i (λ x h. f x (omega arith))

    whole_end-alike : whole_end other i ≡ whole_end text i
    unfolding whole_end
    whole_end-alike = rw (name-end-alike, f (name_end text i) (end-within i)) (go (eqb (char text e) point) f)
      where
        e : ℕ
        e = name_end text i

        go : (q : Bool) → Alike (if q (first_from (not_plain text) 3 (e + 1)) e) → if q (first_from (not_plain other) 3 (e + 1)) e ≡ if q (first_from (not_plain text) 3 (e + 1)) e
        go true g = run-alike 3 (e + 1) g
        go false g = refl

    name-alike : i ≤ whole_end text i → name_at ending other i ≡ name_at ending text i
    unfolding name_at well_formed
    name-alike l =
        let e = name_end text i in
        let p = whole_end text i in
        let m = end-within i in
        rw (name-end-alike, whole_end-alike, f i l, f p (omega arith), packed_same (padded other i e) (padded text i e) 8 (λ j _. padded-alike i e (λ x h. f x (omega arith)) j), packed_same (padded other (e + 1) p) (padded text (e + 1) p) 3 (λ j _. padded-alike (e + 1) p (λ x h. f x (omega arith)) j))

  -- the whole text, which was accepted
  module _ (word extension : ℕ) (read : read_name text ≡ Ok (file_name word extension)) (f : Alike (whole_end text (body text))) where
    accepted : Accepted ending text word extension
    unfolding read_name
    accepted = read_accepted ending text word extension read

    -- device and first letter stand before the ending byte
    body-most : (2 ≤ body text) × (body text < whole_end text (body text))
    unfolding body
    body-most =
        let l = name-begins text (body text) (begins-letter ending text (body text) word extension accepted.named) in
        let m = end-within (body text) in
        (go (eqb (char text 1) colon), omega arith)
      where
        go : (b : Bool) → 2 ≤ if b 2 3
        go true = omega arith
        go false = omega arith

    char-alike : (x : ℕ) → x ≤ 2 → char other x ≡ char text x
    char-alike x h = let m = body-most in f x (omega arith)

    device_alike : has_device other ≡ has_device text
    unfolding has_device
    device_alike = rw (char-alike 0 (omega arith), char-alike 1 (omega arith), char-alike 2 (omega arith))

    unit_alike : has_unit other ≡ has_unit text
    unfolding has_unit
    unit_alike = rw (char-alike 1 (omega arith))

    body_alike : body other ≡ body text
    unfolding body
    body_alike = rw (char-alike 1 (omega arith))

    read_alike : read_name other ≡ read_name text
    unfolding read_name read_as
    read_alike = let m = body-most in rw (device_alike, unit_alike, body_alike, name-alike (body text) f (omega arith))

    parse_alike : parse_name other ≡ parse_name text
    unfolding parse_name
    parse_alike = rw (read_alike, body_alike, whole_end-alike (body text) f)

pub read_names : ReadNames
read_names = record {
  names = names-kept;
  new_names = new_kept;
  devices = devices-kept;
  legals = name-legal;
  spelled = λ w h. has_spelling w _ _ (legal_fields w h);
  place = λ text word extension h. rw (parse_is text word extension h) (first-ending text word extension h);
  alike = λ text other word extension h f. parse_alike text other word extension h (rw (parse_is text word extension h) at f);
  first = first-name;
}
