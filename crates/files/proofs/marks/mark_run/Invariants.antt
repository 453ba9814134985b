use Prim.Native.Nat.{◌+◌}
use Rattle.files.specs.Marking.{Marking}
use Rattle.layout.specs.Image.{Whole, geometry_of, view}
use Rattle.files.proofs.marks.mark_run.Given as goal

abbrev pub invariant-loop-j : goal.invariant-loop-j
invariant-loop-j l = Whole l.m l.image × Marking (geometry_of l.m) l.free (view (geometry_of l.m) l.initial.image) l.n l.start (view (geometry_of l.m) l.image) (l.start + l.j) l.j
