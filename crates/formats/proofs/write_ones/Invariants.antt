use mathlib.Core.Path.{◌≡◌}
use Rattle.layout.specs.Image.{Whole, geometry_of, view}
use Rattle.formats.specs.Zeros.{ones_to}
use Rattle.formats.proofs.write_ones.Given as goal

abbrev pub invariant-loop-j : goal.invariant-loop-j
invariant-loop-j l = Whole l.m l.image × (view (geometry_of l.m) l.image ≡ ones_to l.j (view (geometry_of l.m) l.initial.image))
