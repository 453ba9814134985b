use Rattle.layout.proofs.Chain.{fits_data}
use Rattle.layout.proofs.Data.{data_facts}
use native.Mathlib.Omega.{arith}
use mathlib.Core.Path.{sym, ◌∙◌}
use Rattle.gets.proofs.whole.is_full.Goals as goal

pub in_use-requires : goal.in_use-requires
in_use-requires c = let f = data_facts _ (fits_data _ _ _ _ (sym c.fits.ensures ∙ c.if-fits.true)) in omega arith
