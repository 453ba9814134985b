-- An answer that is the enum of the rules has its number and its values.
use mathlib.Core.Path.{◌≡◌, refl, ap, ◌∙◌}
use Prim.Native.Nat.{ℕ}
use Rattle.std.specs.Prelude.{Option, Result, Ok, Err}
use Rattle.layout.specs.declared.FileName.{FileName}
use Rattle.layout.specs.declared.density.Medium.{Medium}
use Rattle.layout.specs.declared.Parsed.{Parsed}
use Rattle.layout.specs.Header.{served_status, served_sizes, TellsServed}
use Rattle.layout.specs.Directory.{found_status, found_slots, TellsFound}
use Rattle.layout.specs.Names.{file_name, name_status, name_bytes, TellsName, parsed, TellsParsed}

pub tells_name : {n r : Result FileName ℕ} → r ≡ n → TellsName n r
tells_name e = (e, ap name_status e, ap name_bytes e)

-- the name of an answer that has its place beside it
parsed-name : (n : Result FileName ℕ) (place : ℕ) → (parsed n place).name ≡ n
parsed-name (Ok f) place = refl
parsed-name (Err status) place = refl

pub tells_name_of : (n : Result FileName ℕ) (place : ℕ) {r : Parsed} → r ≡ parsed n place → TellsName n r.name
tells_name_of n place e = tells_name (ap (λ (q : Parsed). q.name) e ∙ parsed-name n place)

pub tells_parsed : {p r : Parsed} → r ≡ p → TellsParsed p r
tells_parsed e = (e, tells_name (ap (λ (q : Parsed). q.name) e))

pub tells_found : (one none : ℕ) {f r : Option ℕ} → r ≡ f → TellsFound one none f r
tells_found one none e = (e, ap (found_status one none) e, ap found_slots e)

pub tells_served : {v r : Result Medium ℕ} → r ≡ v → TellsServed v r
tells_served e = (e, ap served_status e, ap served_sizes e)

-- two names that are the same have the same words
abbrev words_of : Result FileName ℕ → ℕ × ℕ
words_of (Ok f) = (f.name, f.extension)
words_of (Err status) = (0, 0)

pub same_words : {word extension next part : ℕ} → ◌≡◌ {A = Result FileName ℕ} (Ok (file_name word extension)) (Ok (file_name next part)) → (word ≡ next) × (extension ≡ part)
same_words e = (ap (λ n. (words_of n).0) e, ap (λ n. (words_of n).1) e)
