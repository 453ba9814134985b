-- What the reader of names gives since a blank ends a name as 0 and $9B do, document 02's request P5: no name is lost, legal names come and only they, and the place is that of the first ending byte.
use Rattle.std.specs.Prelude.{Bool, true, false, not, ◌||◌, List, ◌∷◌, ◌++◌, ◌≢◌, ◌⊎◌, ◌≡◌, ℕ, ◌+◌, ◌≤◌, ◌<◌, eqb, length, Result, Ok, Err}
use Rattle.layout.specs.declared.FileName.{FileName}
use Rattle.layout.specs.Basics.{check}
use Rattle.layout.specs.Names.{char, blank, ending, has_device, has_unit, body, whole_end, name_byte, name_at, read_as, read_name, parsed, parse_name, old_name, new_name, read_device, legal, file_name}
use Rattle.layout.specs.Status.{bad_device, bad_unit, bad_name, success}

-- what ended a name before the request, and what ends it as well since
abbrev pub ended_before : ℕ → Bool
ended_before x = eqb x 0 || eqb x 0x9B

abbrev pub is_blank : ℕ → Bool
is_blank x = eqb x blank

-- the second of rename's names, and a device alone, with these ending bytes
abbrev pub new_name_as : (ℕ → Bool) → List ℕ → Result FileName ℕ
new_name_as ends text = name_at ends text (whole_end text (body text) + 1)

abbrev pub read_device_as : (ℕ → Bool) → List ℕ → ℕ
read_device_as ends text =
    check (not (has_device text)) bad_device λ _.
    check (not (has_unit text)) bad_unit λ _.
    check (not (ends (char text (body text)))) bad_name λ _.
    success

-- what is answered of a name: before the request, with a blank as the only ending byte, and now
pub record NameKept (old padded new : Result FileName ℕ) : Type 0 where
  -- what was accepted is accepted, with the same eleven bytes
  pub accepted : (word extension : ℕ) → old ≡ Ok (file_name word extension) → new ≡ Ok (file_name word extension)
  -- "A blank now ends a name as 0 and $9B do"
  pub ended : (word extension : ℕ) → padded ≡ Ok (file_name word extension) → new ≡ Ok (file_name word extension)
  -- and nothing else is accepted
  pub only : (word extension : ℕ) → new ≡ Ok (file_name word extension) → (old ≡ Ok (file_name word extension)) ⊎ (padded ≡ Ok (file_name word extension))
  -- "Refusals: none new; 165 is no longer given for such names"
  pub refused : (n : ℕ) → new ≡ Err n → old ≡ Err n
  pub gained : (n word extension : ℕ) → old ≡ Err n → new ≡ Ok (file_name word extension) → n ≡ bad_name

-- the same of a device alone, by its number
pub record DeviceKept (old padded new : ℕ) : Type 0 where
  pub accepted : old ≡ success → new ≡ success
  pub ended : padded ≡ success → new ≡ success
  pub only : new ≡ success → (old ≡ success) ⊎ (padded ≡ success)
  pub refused : new ≢ success → old ≡ new
  pub gained : old ≢ success → new ≡ success → old ≡ bad_name

-- the first byte of the text that ends a name is at place p
pub record FirstEnding (text : List ℕ) (p : ℕ) : Type 0 where
  pub inside : p < length text
  pub here : ending (char text p) ≡ true
  pub first : (x : ℕ) → x < p → ending (char text x) ≡ false

-- the eleven bytes w have a spelling: with any ending byte behind it, and whatever follows that byte, it is read as them
pub record Spelled (w : ℕ → ℕ) : Type 0 where
  pub text : List ℕ
  pub word : ℕ
  pub extension : ℕ
  pub bytes : (j : ℕ) → j < 11 → name_byte word extension j ≡ w j
  pub reads : (e : ℕ) → ending e ≡ true → (rest : List ℕ) → parse_name (text ++ e ∷ rest) ≡ parsed (Ok (file_name word extension)) (length text)

-- any text
pub record ReadNames : Type 0 where
  pub names : (text : List ℕ) → NameKept (read_as ended_before text) (read_as is_blank text) (read_name text)
  pub new_names : (text : List ℕ) → NameKept (new_name_as ended_before text) (new_name_as is_blank text) (new_name text)
  pub devices : (text : List ℕ) → DeviceKept (read_device_as ended_before text) (read_device_as is_blank text) (read_device text)
  -- legal names, and only they
  pub legals : (text : List ℕ) (word extension : ℕ) → read_name text ≡ Ok (file_name word extension) → legal (name_byte word extension) ≡ true
  pub spelled : (w : ℕ → ℕ) → legal w ≡ true → Spelled w
  -- "the reader of names also gives the place of that ending byte": where there is a name, that of the first ending byte
  pub place : (text : List ℕ) (word extension : ℕ) → read_name text ≡ Ok (file_name word extension) → FirstEnding text (parse_name text).place
  -- what follows it is not looked at: texts that are alike up to there are read alike
  pub alike : (text other : List ℕ) (word extension : ℕ) → read_name text ≡ Ok (file_name word extension) → ((x : ℕ) → x ≤ (parse_name text).place → char other x ≡ char text x) → parse_name other ≡ parse_name text
  -- "In rename only the second name may end so": the first ends at a comma, and no ending byte stands before it
  pub first : (text : List ℕ) (word extension : ℕ) → old_name text ≡ Ok (file_name word extension)
      → let p = whole_end text (body text) in (char text p ≡ 44) × ((x : ℕ) → x < p → ending (char text x) ≡ false)
