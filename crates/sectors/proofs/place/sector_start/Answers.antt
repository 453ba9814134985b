use Rattle.sectors.proofs.Whole.{starts_boot}
use native.Mathlib.Omega.{arith}
use Rattle.sectors.proofs.place.sector_start.Goals as goal

pub returns-then-sector-lt4 : goal.returns-then-sector-lt4
returns-then-sector-lt4 c = starts_boot _ c.requires.0 _ (omega arith) (omega arith)
