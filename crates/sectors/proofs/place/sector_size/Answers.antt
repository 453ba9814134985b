use Rattle.layout.proofs.Image.{size_boot, size_data}
use native.Mathlib.Omega.{arith}
use mathlib.Core.Path.{sym}
use Rattle.sectors.proofs.place.sector_size.Goals as goal

pub returns-then-sector-lt4 : goal.returns-then-sector-lt4
returns-then-sector-lt4 c = sym (size_boot _ _ _ (omega arith) (omega arith))

pub returns : goal.returns
returns c = sym (size_data _ _ _ (omega arith))
