-- The count of dos_name is the place that the reader of names gives.
use mathlib.Core.Bool.{true≢false}
use mathlib.Core.List.{List}
use mathlib.Core.Path.{◌≡◌, refl, sym, ap}
use Prim.Native.Nat.{ℕ, ◌/◌, ◌%◌}
use native.Mathlib.Omega.{arith}
use Rattle.std.specs.Prelude.{Result, Ok, Err}
use Rattle.layout.specs.declared.FileName.{FileName}
use Rattle.layout.specs.Names.{read_name, whole_end, body, ending, name_status, parsed, parse_name}
use Rattle.layout.specs.Status.{success, succeeds, Succeeds, Fails}
use Rattle.layout.proofs.Check.{by_check}
use Rattle.rules.proofs.Ends.{by_read}
use Rattle.words.specs.Result.{result_of}
use Rattle.capi.specs.Leaves.{NameLeaves, name_leaves}
use Rattle.theory.specs.ReadNames.{FirstEnding}
use Rattle.theory.proofs.ReadNames.{first-ending}
use Rattle.exported.specs.Names.{NamePlaces}

-- a result of a name, by the two cases of its text
abbrev Tells : List ℕ → ℕ → Type 0
Tells text r = (Succeeds (r % 256) → FirstEnding text (r / 256)) × (Fails (r % 256) → r / 256 ≡ 0)

tells : (text b : List ℕ) → Tells text (name_leaves text b).result
unfolding name_leaves parse_name read_name
tells text b = by_check (λ (o : NameLeaves). Tells text o.result) _ _ _ (λ _. ((λ e. absurd (true≢false (sym e))), (λ _. omega arith))) λ _. go (read_name text) refl
  where
    p : ℕ
    p = whole_end text (body text)

    go : (n : Result FileName ℕ) → read_name text ≡ n → let q = parsed n p in Tells text (result_of (name_status q.name) q.place)
    go (Ok f) e = let z : result_of success p / 256 ≡ p = omega arith in ((λ _. rw z (first-ending text f.name f.extension e)), (λ h. absurd (let y : result_of success p % 256 ≡ success = omega arith in h (ap succeeds y))))
    go (Err n) e = by_read (λ x. Tells text (result_of x 0)) ((λ e. absurd (true≢false (sym e))), (λ _. omega arith)) ((λ e. absurd (true≢false (sym e))), (λ _. omega arith)) ((λ e. absurd (true≢false (sym e))), (λ _. omega arith)) ending text n e

pub name-places : NamePlaces
name-places = record { place = λ text b. (tells text b).0; none = λ text b. (tells text b).1 }
