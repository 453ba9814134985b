use Rattle.gets.specs.Entered.{Fills}
use Rattle.layout.specs.Image.{geometry_of, view}
use lib.ListN.{length}
use Prim.Native.Nat.{◌-◌}
use mathlib.Core.Path.{◌≡◌}
use Rattle.gets.proofs.whole.get_whole.Given as goal

abbrev pub invariant-loop-r : goal.invariant-loop-r
invariant-loop-r l = (length l.buffer ≡ length l.initial.buffer) × Fills (geometry_of l.m) (view (geometry_of l.m) l.image) l.slot l.initial.r l.initial.buffer l.r l.buffer

abbrev pub decreases-loop-r : goal.decreases-loop-r
decreases-loop-r l = length l.initial.buffer - l.r.count
