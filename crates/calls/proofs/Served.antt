-- What a CIO call on an image leaves, where the image is served and where it is not.
use mathlib.Core.List.{List, []}
use mathlib.Core.Path.{◌≡◌}
use Prim.Native.Nat.{ℕ}
use Rattle.layout.specs.declared.Table.{Table}
use Rattle.std.specs.Prelude.{None, Ok, Err}
use Rattle.layout.specs.declared.density.Medium.{Medium}
use Rattle.layout.specs.Image.{geometry_of, view}
use Rattle.layout.specs.Header.{served_as}
use Rattle.layout.proofs.Check.{served_as_lem, served_not}
use Rattle.rules.specs.declared.Block.{Block}
use Rattle.rules.specs.Cio.{ImageOutcome, leaves, cio, cio_call}

module _ (l : List ℕ) (t : Table) (c : Block) (text b : List ℕ) where
  pub call_served : {m : Medium} → served_as l ≡ Ok m → let g = geometry_of m in cio_call l t c text b ≡ leaves g l (cio g (view g l) t c text b)
  unfolding cio_call
  call_served q = served_as_lem {A = ImageOutcome} _ _ _ q

  pub call_refused : {n : ℕ} → served_as l ≡ Err n → cio_call l t c text b ≡ record { answer = record { status = n; count = 0; table = t }; image = l; buffer = b; given = []; took = None }
  unfolding cio_call
  call_refused q = served_not {A = ImageOutcome} _ _ _ q
