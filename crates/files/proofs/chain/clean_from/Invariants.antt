use mathlib.Core.Path.{◌≡◌}
use Prim.Native.Nat.{◌-◌, ◌≤◌}
use Rattle.layout.specs.File.{clean_from}
use Rattle.layout.specs.Image.{geometry_of, view}
use Rattle.files.proofs.chain.clean_from.Given as goal

abbrev pub invariant-loop-i : goal.invariant-loop-i
invariant-loop-i l = (l.i ≤ l.n) × (clean_from (geometry_of l.m) l.freed (view (geometry_of l.m) l.image) l.slot l.n l.start ≡ clean_from (geometry_of l.m) l.freed (view (geometry_of l.m) l.image) l.slot (l.n - l.i) l.k)

abbrev pub decreases-loop-i : goal.decreases-loop-i
decreases-loop-i l = l.n - l.i
