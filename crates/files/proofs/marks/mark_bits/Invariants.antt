use Prim.Native.Nat.{◌-◌}
use Rattle.files.specs.Marking.{Marking}
use Rattle.layout.specs.Image.{Whole, geometry_of, view}
use Rattle.files.proofs.marks.mark_bits.Given as goal

abbrev pub invariant-loop-i : goal.invariant-loop-i
invariant-loop-i l = Whole l.m l.image × Marking (geometry_of l.m) l.free (view (geometry_of l.m) l.initial.image) l.n l.start (view (geometry_of l.m) l.image) l.k l.i

abbrev pub decreases-loop-i : goal.decreases-loop-i
decreases-loop-i l = l.n - l.i
