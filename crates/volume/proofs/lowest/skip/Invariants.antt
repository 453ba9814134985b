use Prim.Native.Nat.{◌-◌, ◌*◌, ◌≤◌}
use Rattle.volume.specs.Below.{NoneBelow}
use Rattle.layout.specs.Image.{geometry_of, view}
use Rattle.volume.proofs.lowest.skip.Given as goal

abbrev pub invariant-loop-i : goal.invariant-loop-i
invariant-loop-i l = (l.i ≤ 90) × NoneBelow (view (geometry_of l.m) l.image 360) (8 * l.i)

abbrev pub decreases-loop-i : goal.decreases-loop-i
decreases-loop-i l = 90 - l.i
