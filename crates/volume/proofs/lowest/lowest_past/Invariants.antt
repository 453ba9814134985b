use Prim.Native.Nat.{◌*◌}
use Rattle.volume.specs.Below.{NoneBelow}
use Rattle.layout.specs.Image.{geometry_of, view}
use Rattle.volume.proofs.lowest.lowest_past.Given as goal

abbrev pub invariant-loop-i : goal.invariant-loop-i
invariant-loop-i l = NoneBelow (view (geometry_of l.m) l.image 360) (8 * l.i)
