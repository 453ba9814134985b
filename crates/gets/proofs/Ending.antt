-- Where a get that filled its buffer ends, and what it tells.
use mathlib.Core.List.{List}
use mathlib.Core.Path.{◌≡◌}
use Prim.Native.Nat.{ℕ}
use lib.ListN.{length}
use Rattle.layout.specs.declared.State.TheVariants.{Reading}
use Rattle.layout.specs.Image.{Disk, Geometry}
use Rattle.layout.specs.Status.{success}
use Rattle.rules.specs.declared.Form.{Form}
use Rattle.rules.specs.declared.Form.TheVariants.{Characters}
use Rattle.rules.specs.declared.Place.{Place}
use Rattle.rules.specs.declared.Got.{Got}
use Rattle.rules.specs.Get.{Reads, reads, get_from, fill, or_end_reached}
use Rattle.rules.proofs.Steps.{fill_place}
use Rattle.gets.specs.Entered.{Entered, told_end}
use Rattle.gets.proofs.Seeking.{fits_entered}

module _ (g : Geometry) (d : Disk) (s : ℕ) (p : Place) (b : List ℕ) {r : Got} where
  -- it ends at a sector that may be looked at
  pub filled_entered : (f : Form) → r ≡ (fill g f d s p b).got → Entered g d p.sector → Entered g d r.place.sector
  filled_entered f e t = rw e (fill_place g d s (Entered g d) (fits_entered g d s) f p b t)

  pub got_entered : r ≡ (get_from g d s (length b) 0 p b).got → Entered g d p.sector → Entered g d r.place.sector
  unfolding fill
  got_entered e = filled_entered Characters e

module _ (g : Geometry) (d : Disk) (s : ℕ) (b : List ℕ) where
  -- all bytes that were wanted, and the place behind them
  pub told_all : {z : Reads} {i n : ℕ} {p : Place} {c : List ℕ} → z ≡ reads success i p c → n ≡ or_end_reached g d b (Reading s p.sector p.offset p.left) success → record { status = n; count = i; place = p } ≡ told_end g d s b z.got
  told_all e q = rw (e, q)
