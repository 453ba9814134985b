use mathlib.Core.Path.{◌≡◌}
use Rattle.layout.specs.Image.{geometry_of, view}
use Rattle.layout.specs.Volume.{ones_below}
use Rattle.volume.proofs.table.map_ones.Given as goal

abbrev pub invariant-loop-i : goal.invariant-loop-i
invariant-loop-i l = l.n ≡ ones_below (view (geometry_of l.m) l.image 360) l.i
