-- A target that is known: when it is which, what it says of the table, and what follows with it.
use mathlib.Core.Bool.{true}
use mathlib.Core.Path.{◌≡◌}
use Prim.Native.Nat.{ℕ}
use borrow.Author.Tests.{not-false}
use Rattle.std.specs.Prelude.{Some, Result, Ok, Err}
use Rattle.layout.specs.declared.FileName.{FileName}
use Rattle.rules.specs.declared.Unfound.{Unfound}
use Rattle.rules.specs.declared.Unfound.TheVariants.{Missing, Denied}
use Rattle.layout.specs.declared.Table.{Table}
use Rattle.layout.specs.Image.{Disk, Geometry}
use Rattle.layout.specs.Volume.{good}
use Rattle.layout.specs.Directory.{find}
use Rattle.layout.specs.Names.{name_byte, file_name}
use Rattle.layout.proofs.Check.{found_at, by_check, by_found}
use Rattle.rules.specs.Commands.{Effect, sought, target, aimed}

module _ (d : Disk) (n : Result FileName ℕ) {word extension : ℕ} (p : n ≡ Ok (file_name word extension)) where
  -- a file has the name
  pub sought-slot : {s : ℕ} → find d (name_byte word extension) ≡ Some s → sought d n ≡ Ok s
  unfolding sought
  sought-slot f = rw (p, sought) (found_at _ _ _ f)

-- the table is good where the name was looked for
abbrev pub OnGood : Disk → Result ℕ Unfound → Type 0
OnGood d (Ok s) = good (d 360) ≡ true
OnGood d (Err (Missing f)) = good (d 360) ≡ true
OnGood d (Err (Denied status)) = Unit {0}

pub target-good : (d : Disk) (n : Result FileName ℕ) → OnGood d (target d n)
unfolding target sought
target-good d (Err status) = tt
target-good d (Ok f) =
    by_check (OnGood d) _ _ _ (λ _. tt) λ q.
    by_found (OnGood d) _ _ _ (λ _. not-false _ q) λ s _.
    not-false _ q

-- what follows with a slot
pub aimed-slot : (g : Geometry) (d : Disk) (t : Table) (a : Result ℕ Unfound) (rest : ℕ → Effect) {s : ℕ} → a ≡ Ok s → aimed g d t a rest ≡ rest s
unfolding aimed
aimed-slot g d t a rest e = rw (e, aimed)
