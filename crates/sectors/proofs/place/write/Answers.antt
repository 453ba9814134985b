use Rattle.sectors.proofs.Whole.{write_whole}
use Rattle.layout.proofs.Image.{lawful}
use Rattle.layout.specs.Image.{geometry_of, view}
use mathlib.Core.Path.{ap, ◌∙◌}
use native.Mathlib.Omega.{arith}
use Rattle.sectors.proofs.place.write.Goals as goal

pub returns : goal.returns
returns c = ap (view (geometry_of c.args.m)) c.copy_sector.ensures ∙ write_whole _ (lawful _ c.requires.0.0) _ _ c.args.sector _ c.sector_start-first.ensures.0 c.requires.3 (omega arith)
