-- What holds behind a number that other rows have told.
use mathlib.Core.Bool.{true, false}
use mathlib.Core.Logic.{◌≢◌}
use mathlib.Core.Path.{◌≡◌}
use Prim.Native.Nat.{ℕ}
use native.Mathlib.Omega.{arith}
use lib.Dec.{eqb}
use borrow.Author.Tests.{eqb-true, eqb-false, not-true, not-false}
use Rattle.layout.specs.declared.Table.{Table}
use Rattle.layout.specs.Image.{Disk, Geometry}
use Rattle.layout.specs.Directory.{flag, locked}
use Rattle.layout.specs.File.{clean}
use Rattle.layout.specs.Channels.{held}
use Rattle.layout.specs.Status.{success}
use Rattle.layout.proofs.Check.{by_check}
use Rattle.rules.specs.Commands.{passing, may_change, may_free}

-- what holds of the refusal and of what follows holds of the call
pub by_passing : {A : Type 0} (P : A → Type 0) (n : ℕ) (refusal : ℕ → A) (rest : Unit {0} → A) → (n ≢ success → P (refusal n)) → (n ≡ success → P (rest tt)) → P (passing n refusal rest)
unfolding passing
by_passing P n refusal rest p q = by_check P _ _ _ (λ e. p (eqb-false n success (not-true (eqb n success) e))) λ e. q (eqb-true n success (not-false (eqb n success) e))

-- a file that may be changed is neither locked nor held, and one whose chain may be freed has a clean one
module _ (d : Disk) (t : Table) (s : ℕ) where
  pub may_change_lem : may_change d t s ≡ success → (locked (flag d s) ≡ false) × (held d t s ≡ false)
  unfolding may_change
  may_change_lem = by_check P _ _ _ (λ _ e. absurd (omega arith)) λ u. by_check P _ _ _ (λ _ e. absurd (omega arith)) λ h _. (u, h)
    where
      P : ℕ → Type 0
      P n = n ≡ success → (locked (flag d s) ≡ false) × (held d t s ≡ false)

  pub may_free_lem : (g : Geometry) → may_free g d t s ≡ success → (may_change d t s ≡ success) × (clean g d s ≡ true)
  unfolding may_free
  may_free_lem g = by_passing P _ _ _ (λ h e. absurd (h e)) λ e. by_check P _ _ _ (λ _ f. absurd (omega arith)) λ k _. (e, not-false (clean g d s) k)
    where
      P : ℕ → Type 0
      P n = n ≡ success → (may_change d t s ≡ success) × (clean g d s ≡ true)
