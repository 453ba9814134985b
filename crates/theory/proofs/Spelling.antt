-- Every legal name has a spelling: `D:`, its letters and digits with a point between them, and any ending byte.
use mathlib.Core.Bool.{Bool, true, false, not, ◌&&◌, ◌||◌, true≢false}
use mathlib.Core.List.{List, ◌∷◌, ◌++◌}
use mathlib.Core.Logic.{◌≢◌, ◌⊎◌, inl, inr}
use mathlib.Core.Path.{◌≡◌, refl, sym, ap, ◌∙◌}
use Prim.Native.Nat.{ℕ, suc, zero, ◌+◌, ◌-◌, ◌≤◌, ◌<◌}
use native.Mathlib.Decide.{ℕ_discrete, dec_lt}
use native.Mathlib.Nat.{zero-add}
use native.Mathlib.Omega.{arith}
use lib.Dec.{eqb, ltb}
use lib.ListN.{length, get_or-append}
use lib.Seq.{get_or_at}
use borrow.Author.Tests.{eqb-true, eqb-false, ne_eqb, eq-eqb, lt-ltb, le-ltb, not-true}
use Rattle.std.specs.Prelude.{Result, Ok}
use Rattle.layout.specs.declared.FileName.{FileName}
use Rattle.layout.specs.Basics.{if, check, first_from, all_below, values_from}
use Rattle.layout.specs.Names.{char, capital_d, colon, point, blank, letter, digit, plain, ending, has_device, has_unit, body, not_plain, name_end, whole_end, well_formed, padded, as_word, name_byte, name_at, read_as, read_name, parsed, parse_name, follows, follows_point, legal, file_name}
use Rattle.layout.proofs.Logic.{and_left, and_right, or_cases, or_right}
use Rattle.layout.proofs.Search.{first-least, first-most, first_passes, first-before, first_is, all_at}
use Rattle.layout.proofs.Image.{values_length, values_at}
use Rattle.layout.proofs.Packed.{packed_same, name-low, name-high}
use Rattle.layout.proofs.Text.{char-inside}
use Rattle.theory.specs.ReadNames.{Spelled}
use Rattle.theory.proofs.Names.{plain_small, plain_mark, plain_ending, padded_in, padded_out, parse_is}

-- what a byte of a legal name may be behind another
follow_cases : (w : ℕ → ℕ) (j : ℕ) → follows w j ≡ true → (w (j + 1) ≡ blank) ⊎ ((plain (w (j + 1)) ≡ true) × (w j ≢ blank))
unfolding follows
follow_cases w j h = go (or_cases (eqb (w (j + 1)) blank) (plain (w (j + 1)) && not (eqb (w j) blank)) h)
  where
    go : (eqb (w (j + 1)) blank ≡ true) ⊎ ((plain (w (j + 1)) && not (eqb (w j) blank)) ≡ true) → (w (j + 1) ≡ blank) ⊎ ((plain (w (j + 1)) ≡ true) × (w j ≢ blank))
    go (inl e) = inl (eqb-true (w (j + 1)) blank e)
    go (inr e) = inr (and_left (plain (w (j + 1))) (not (eqb (w j) blank)) e, eqb-false (w j) blank (not-true (eqb (w j) blank) (and_right (plain (w (j + 1))) (not (eqb (w j) blank)) e)))

blank_at : (ℕ → ℕ) → ℕ → Bool
blank_at w j = eqb (w j) blank

-- the first blank of a field, k bytes from b on, or its end
pub field_end : (ℕ → ℕ) → ℕ → ℕ → ℕ
field_end w b k = first_from (blank_at w) k b

-- before it stand letters and digits, and from there on blanks
module _ (w : ℕ → ℕ) (b k : ℕ) (mark : (eqb (w b) blank || plain (w b)) ≡ true) (more : (j : ℕ) → b ≤ j → j + 1 < b + k → follows w j ≡ true) where
  field_plain : (j : ℕ) → b ≤ j → j < field_end w b k → plain (w j) ≡ true
  unfolding field_end blank_at
  field_plain j a h = at (ℕ_discrete j b)
    where
      apart : w j ≢ blank
      apart = eqb-false (w j) blank (first-before (blank_at w) k b j a h)

      begins : (eqb (w b) blank ≡ true) ⊎ (plain (w b) ≡ true) → j ≡ b → plain (w j) ≡ true
      begins (inl q) e = absurd (apart (rw e (eqb-true (w b) blank q)))
      begins (inr q) e = rw e q

      goes : (i : ℕ) → i + 1 ≡ j → (w (i + 1) ≡ blank) ⊎ ((plain (w (i + 1)) ≡ true) × (w i ≢ blank)) → plain (w j) ≡ true
      goes i e (inl q) = absurd (apart (ap w (sym e) ∙ q))
      goes i e (inr q) = rw (← e) q.0

      at : Dec (j ≡ b) → plain (w j) ≡ true
      at (yes e) = begins (or_cases (eqb (w b) blank) (plain (w b)) mark) e
      at (no e) = let most = first-most (blank_at w) k b in goes (j - 1) (omega arith) (follow_cases w (j - 1) (more (j - 1) (omega arith) (omega arith)))

  field_blank : (j : ℕ) → field_end w b k ≤ j → j < b + k → w j ≡ blank
  unfolding field_end blank_at
  field_blank zero l h = let z : field_end w b k ≡ 0 = omega arith in eqb-true (w 0) blank (rw z at (first_passes (blank_at w) k b (omega arith)))
  field_blank (suc j) l h = at (ℕ_discrete (suc j) (field_end w b k)) (field_blank j)
    where
      goes : w j ≡ blank → (w (j + 1) ≡ blank) ⊎ ((plain (w (j + 1)) ≡ true) × (w j ≢ blank)) → w (suc j) ≡ blank
      goes e (inl q) = ap w (omega arith) ∙ q
      goes e (inr q) = absurd (q.1 e)

      at : Dec (suc j ≡ field_end w b k) → (field_end w b k ≤ j → j < b + k → w j ≡ blank) → w (suc j) ≡ blank
      at (yes e) before = rw e (eqb-true (w (field_end w b k)) blank (first_passes (blank_at w) k b (omega arith)))
      at (no e) before = let least = first-least (blank_at w) k b in goes (before (omega arith) (omega arith)) (follow_cases w j (more j (omega arith) (omega arith)))

-- the eleven bytes: n letters and digits and blanks up to 8, letters and digits from 8 to m and blanks up to 11
pub record Fields (w : ℕ → ℕ) (n m : ℕ) : Type 0 where
  first : letter (w 0) ≡ true
  some : 1 ≤ n
  few : n ≤ 8
  least : 8 ≤ m
  most : m ≤ 11
  name : (j : ℕ) → j < n → plain (w j) ≡ true
  gap : (j : ℕ) → n ≤ j → j < 8 → w j ≡ blank
  extension : (j : ℕ) → 8 ≤ j → j < m → plain (w j) ≡ true
  rest : (j : ℕ) → m ≤ j → j < 11 → w j ≡ blank

letter_plain : (x : ℕ) → letter x ≡ true → plain x ≡ true
unfolding plain
letter_plain x h = rw h

pub legal_fields : (w : ℕ → ℕ) → legal w ≡ true → Fields w (field_end w 0 8) (field_end w 8 3)
unfolding legal follows_point field_end blank_at
legal_fields w h = record {
  first = starts;
  some = begun (dec_lt 0 (field_end w 0 8));
  few = first-most (blank_at w) 8 0;
  least = first-least (blank_at w) 3 8;
  most = first-most (blank_at w) 3 8;
  name = λ j l. field_plain w 0 8 mark more j (omega arith) l;
  gap = λ j a l. field_blank w 0 8 mark more j a l;
  extension = field_plain w 8 3 point_mark point_more;
  rest = λ j a l. field_blank w 8 3 point_mark point_more j a l;
}
  where
    marked : (letter (w 0) && all_below 7 (follows w) && (eqb (w 8) blank || plain (w 8))) ≡ true
    marked = and_left (letter (w 0) && all_below 7 (follows w) && (eqb (w 8) blank || plain (w 8))) (all_below 2 (follows_point w)) h

    named : (letter (w 0) && all_below 7 (follows w)) ≡ true
    named = and_left (letter (w 0) && all_below 7 (follows w)) (eqb (w 8) blank || plain (w 8)) marked

    starts : letter (w 0) ≡ true
    starts = and_left (letter (w 0)) (all_below 7 (follows w)) named

    mark : (eqb (w 0) blank || plain (w 0)) ≡ true
    mark = or_right (eqb (w 0) blank) (plain (w 0)) (letter_plain (w 0) starts)

    more : (j : ℕ) → 0 ≤ j → j + 1 < 0 + 8 → follows w j ≡ true
    more j a l = all_at (follows w) 7 (and_right (letter (w 0)) (all_below 7 (follows w)) named) j (omega arith)

    point_mark : (eqb (w 8) blank || plain (w 8)) ≡ true
    point_mark = and_right (letter (w 0) && all_below 7 (follows w)) (eqb (w 8) blank || plain (w 8)) marked

    point_more : (j : ℕ) → 8 ≤ j → j + 1 < 8 + 3 → follows w j ≡ true
    point_more j a l =
        let e : 8 + (j - 8) ≡ j = omega arith in
        let rest = and_right (letter (w 0) && all_below 7 (follows w) && (eqb (w 8) blank || plain (w 8))) (all_below 2 (follows_point w)) h in
        rw e at (all_at (follows_point w) 2 rest (j - 8) (omega arith))

    begun : Dec (0 < field_end w 0 8) → 1 ≤ field_end w 0 8
    begun (yes l) = l
    begun (no l) = let z : field_end w 0 8 ≡ 0 = omega arith in absurd (true≢false (sym (rw z at (first_passes (blank_at w) 8 0 (omega arith))) ∙ plain_mark (w 0) (letter_plain (w 0) starts)))

-- a text in which they stand behind `D:`, with the point between them and z behind them
record Holds (w : ℕ → ℕ) (n m z : ℕ) (text : List ℕ) : Type 0 where
  device : char text 0 ≡ capital_d
  behind : char text 1 ≡ colon
  name : (j : ℕ) → j < n → char text (2 + j) ≡ w j
  dot : char text (2 + n) ≡ point
  extension : (j : ℕ) → 8 + j < m → char text (3 + n + j) ≡ w (8 + j)
  last : char text (3 + n + (m - 8)) ≡ z

-- the bytes as the two words of a name
abbrev in_words : (ℕ → ℕ) → Result FileName ℕ
in_words w = Ok (file_name (as_word w 8) (as_word (λ j. w (8 + j)) 3))

ending_plain : (x : ℕ) → ending x ≡ true → plain x ≡ false
ending_plain x h = go (plain x) refl
  where
    go : (b : Bool) → plain x ≡ b → plain x ≡ false
    go true e = absurd (true≢false (sym h ∙ plain_ending x e))
    go false e = e

module _ (w : ℕ → ℕ) (n m : ℕ) (s : Fields w n m) (z : ℕ) (ends : ending z ≡ true) (text : List ℕ) (h : Holds w n m z text) where
  name-ends : name_end text 2 ≡ 2 + n
  unfolding name_end not_plain plain letter digit
  name-ends = let few = s.few in first_is (not_plain text) 8 2 (2 + n) (omega arith) (omega arith) before (λ _. rw h.dot)
    where
      before : (y : ℕ) → 2 ≤ y → y < 2 + n → not (plain (char text y)) ≡ false
      before y a l = let e : 2 + (y - 2) ≡ y = omega arith in let c = h.name (y - 2) (omega arith) in rw (← e, c, s.name (y - 2) (omega arith))

  whole_ends : whole_end text 2 ≡ 3 + n + (m - 8)
  unfolding whole_end not_plain
  whole_ends = let least = s.least in let most = s.most in rw (name-ends, h.dot) (first_is (not_plain text) 3 (2 + n + 1) (3 + n + (m - 8)) (omega arith) (omega arith) before (λ _. rw (h.last, ending_plain z ends)))
    where
      before : (y : ℕ) → 2 + n + 1 ≤ y → y < 3 + n + (m - 8) → not (plain (char text y)) ≡ false
      before y a l =
          let e : 3 + n + (y - (3 + n)) ≡ y = omega arith in
          let c = h.extension (y - (3 + n)) (omega arith) in
          rw (← e, c, s.extension (8 + (y - (3 + n))) (omega arith) (omega arith))

  name-bytes : (j : ℕ) → j < 8 → padded text 2 (2 + n) j ≡ w j
  name-bytes j l = go (dec_lt j n)
    where
      go : Dec (j < n) → padded text 2 (2 + n) j ≡ w j
      go (yes i) = padded_in text 2 (2 + n) j (omega arith) ∙ h.name j i
      go (no i) = padded_out text 2 (2 + n) j (omega arith) ∙ sym (s.gap j (omega arith) l)

  extension-bytes : (j : ℕ) → j < 3 → padded text (2 + n + 1) (3 + n + (m - 8)) j ≡ w (8 + j)
  extension-bytes j l = let least = s.least in go (dec_lt (8 + j) m)
    where
      go : Dec (8 + j < m) → padded text (2 + n + 1) (3 + n + (m - 8)) j ≡ w (8 + j)
      go (yes i) = padded_in text (2 + n + 1) (3 + n + (m - 8)) j (omega arith) ∙ ap (char text) (omega arith) ∙ h.extension j i
      go (no i) = padded_out text (2 + n + 1) (3 + n + (m - 8)) j (omega arith) ∙ sym (s.rest (8 + j) (omega arith) (omega arith))

  name_is : name_at ending text 2 ≡ in_words w
  unfolding name_at well_formed
  name_is =
      let e : char text 2 ≡ w 0 = let some = s.some in h.name 0 (omega arith) in
      rw (name-ends, whole_ends, e, s.first, h.last, ends, packed_same (padded text 2 (2 + n)) w 8 name-bytes, packed_same (padded text (2 + n + 1) (3 + n + (m - 8))) (λ j. w (8 + j)) 3 extension-bytes)

  body_is : body text ≡ 2
  unfolding body
  body_is = rw h.behind

  name_read : read_name text ≡ in_words w
  unfolding read_name read_as has_device has_unit check
  name_read = rw (h.device, h.behind, body_is) name_is

  held : parse_name text ≡ parsed (in_words w) (3 + n + (m - 8))
  held = parse_is text _ _ name_read ∙ ap (parsed (in_words w)) (ap (whole_end text) body_is ∙ whole_ends)

-- byte x of the spelling, before the ending byte
spelling : (ℕ → ℕ) → ℕ → ℕ → ℕ
spelling w n x = if (eqb x 0) capital_d (if (eqb x 1) colon (if (ltb x (2 + n)) (w (x - 2)) (if (eqb x (2 + n)) point (w (x - (3 + n) + 8)))))

-- a text of n values of a function, and what stands behind it
module _ (f : ℕ → ℕ) (n z : ℕ) (rest : List ℕ) where
  char_value : (x : ℕ) → x < n → char (values_from f n 0 ++ z ∷ rest) x ≡ f x
  unfolding char
  char_value x h =
      let l : x < length (values_from f n 0) = rw (values_length f n 0) h in
      get_or-append (values_from f n 0) (z ∷ rest) 256 x l ∙ sym (char-inside (values_from f n 0) x l) ∙ values_at f n 0 x h ∙ ap f (zero-add x)

  char-behind : char (values_from f n 0 ++ z ∷ rest) n ≡ z
  unfolding char
  char-behind = get_or_at (values_from f n 0) z rest 256 n (values_length f n 0)

module _ (w : ℕ → ℕ) (n m : ℕ) (s : Fields w n m) where
  long : ℕ
  long = 3 + n + (m - 8)

  spelled-text : List ℕ
  spelled-text = values_from (spelling w n) long 0

  holds : (z : ℕ) (rest : List ℕ) → Holds w n m z (spelled-text ++ z ∷ rest)
  unfolding spelled-text spelling long
  holds z rest = record {
    device = at 0 (omega arith);
    behind = at 1 (omega arith);
    name = λ j l. past (2 + j) (omega arith) (omega arith) ∙ rw (lt-ltb (2 + j) (2 + n) (omega arith)) (ap w (omega arith));
    dot = past (2 + n) (omega arith) (omega arith) ∙ rw (le-ltb (2 + n) (2 + n) (omega arith), eq-eqb (2 + n) (2 + n) refl);
    extension = λ j l. past (3 + n + j) (omega arith) (omega arith) ∙ rw (le-ltb (3 + n + j) (2 + n) (omega arith), ne_eqb (3 + n + j) (2 + n) (λ e. omega arith)) (ap w (omega arith));
    last = char-behind (spelling w n) long z rest;
  }
    where
      at : (x : ℕ) → x < long → char (spelled-text ++ z ∷ rest) x ≡ spelling w n x
      at = char_value (spelling w n) long z rest

      past : (x : ℕ) → 2 ≤ x → x < long → char (spelled-text ++ z ∷ rest) x ≡ if (ltb x (2 + n)) (w (x - 2)) (if (eqb x (2 + n)) point (w (x - (3 + n) + 8)))
      past x a l = at x l ∙ rw (ne_eqb x 0 (λ e. omega arith), ne_eqb x 1 (λ e. omega arith))

  small : (j : ℕ) → j < 11 → w j < 256
  small j l = go (dec_lt j n) (dec_lt j 8) (dec_lt j m)
    where
      go : Dec (j < n) → Dec (j < 8) → Dec (j < m) → w j < 256
      go (yes a) b c = plain_small (w j) (s.name j a)
      go (no a) (yes b) c = rw (s.gap j (omega arith) b) (omega arith)
      go (no a) (no b) (yes c) = plain_small (w j) (s.extension j (omega arith) c)
      go (no a) (no b) (no c) = rw (s.rest j (omega arith) l) (omega arith)

  spelled-bytes : (j : ℕ) → j < 11 → name_byte (as_word w 8) (as_word (λ i. w (8 + i)) 3) j ≡ w j
  spelled-bytes j l = go (dec_lt j 8)
    where
      v : ℕ → ℕ
      v i = w (8 + i)

      go : Dec (j < 8) → name_byte (as_word w 8) (as_word v 3) j ≡ w j
      go (yes a) = name-low w v (λ i b. small i (omega arith)) j a
      go (no a) = let e : 8 + (j - 8) ≡ j = omega arith in rw e at (name-high w v (λ i b. small (8 + i) (omega arith)) (j - 8) (omega arith))

  pub has_spelling : Spelled w
  unfolding spelled-text long
  has_spelling = record {
    text = spelled-text;
    word = as_word w 8;
    extension = as_word (λ j. w (8 + j)) 3;
    bytes = spelled-bytes;
    reads = λ e h rest. held w n m s e h (spelled-text ++ e ∷ rest) (holds e rest) ∙ ap (parsed (in_words w)) (sym (values_length (spelling w n) long 0));
  }
