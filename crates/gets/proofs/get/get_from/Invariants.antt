use Rattle.gets.specs.Entered.{Gets}
use Rattle.layout.specs.Image.{geometry_of, view}
use lib.ListN.{length}
use Prim.Native.Nat.{◌-◌}
use mathlib.Core.Path.{◌≡◌}
use Rattle.gets.proofs.get.get_from.Given as goal

abbrev pub invariant-loop-r : goal.invariant-loop-r
invariant-loop-r l = (length l.buffer ≡ length l.initial.buffer) × Gets (geometry_of l.m) (view (geometry_of l.m) l.image) l.slot (length l.initial.buffer) 0 l.initial.r.place l.initial.buffer l.r.count l.r.place l.buffer

abbrev pub decreases-loop-r : goal.decreases-loop-r
decreases-loop-r l = length l.initial.buffer - l.r.count
