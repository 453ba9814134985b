-- What is refused before a command has its file is refused with another number than 1.
use mathlib.Core.Bool.{false}
use mathlib.Core.List.{List}
use mathlib.Core.Path.{◌≡◌, refl, subst}
use Prim.Native.Nat.{ℕ}
use native.Mathlib.Omega.{arith}
use lib.Dec.{eqb}
use Rattle.std.specs.Prelude.{Result, Ok, Err}
use Rattle.layout.specs.declared.FileName.{FileName}
use Rattle.rules.specs.declared.Unfound.{Unfound}
use Rattle.layout.specs.Image.{Disk}
use Rattle.layout.specs.Names.{read_name, old_name, new_name, ending, comma}
use Rattle.layout.specs.Status.{success}
use Rattle.layout.proofs.Check.{by_check, by_found}
use Rattle.rules.specs.Commands.{sought, target, unfound_status}
use Rattle.rules.proofs.Ends.{by_name_at, by_read}

-- the number of a refusal
abbrev Refuses : ℕ → Type 0
Refuses n = eqb n success ≡ false

-- of a name
pub read_refuses : (text : List ℕ) {n : ℕ} → read_name text ≡ Err n → Refuses n
unfolding read_name
read_refuses text e = by_read Refuses refl refl refl ending text _ e

-- of rename's two
pub old_refuses : (text : List ℕ) {n : ℕ} → old_name text ≡ Err n → Refuses n
unfolding old_name
old_refuses text e = by_read Refuses refl refl refl comma text _ e

pub new_refuses : (text : List ℕ) {n : ℕ} → new_name text ≡ Err n → Refuses n
unfolding new_name
new_refuses text e = by_name_at Refuses refl refl refl ending text _ _ e

-- of a target, if it is none
abbrev Unaimed : Result ℕ Unfound → Type 0
Unaimed (Ok s) = Unit {0}
Unaimed (Err u) = Refuses (unfound_status u)

module _ (d : Disk) where
  sought_name : (n : Result FileName ℕ) → ((k : ℕ) → n ≡ Err k → Refuses k) → Unaimed (sought d n)
  unfolding sought
  sought_name (Err k) p = p k refl
  sought_name (Ok f) p = by_found Unaimed _ _ _ (λ _. refl) λ _ _. tt

  target_name : (n : Result FileName ℕ) → ((k : ℕ) → n ≡ Err k → Refuses k) → Unaimed (target d n)
  unfolding target
  target_name (Err k) p = p k refl
  target_name (Ok f) p = by_check Unaimed _ _ _ (λ _. refl) λ _. sought_name (Ok f) p

  -- of the file that a name in a text stands for
  pub sought_refuses : (text : List ℕ) {u : Unfound} → sought d (read_name text) ≡ Err u → Refuses (unfound_status u)
  sought_refuses text e = subst Unaimed e (sought_name (read_name text) λ _. read_refuses text)

  -- of the one that a command is to change
  pub target_refuses : (text : List ℕ) {u : Unfound} → target d (read_name text) ≡ Err u → Refuses (unfound_status u)
  target_refuses text e = subst Unaimed e (target_name (read_name text) λ _. read_refuses text)

  -- and where the name was read before
  pub aimed_refuses : (f : FileName) {u : Unfound} → target d (Ok f) ≡ Err u → Refuses (unfound_status u)
  aimed_refuses f e = subst Unaimed e (target_name (Ok f) λ k h. absurd (let v : ◌≡◌ {A = ℕ} 0 1 = cc in omega arith))
