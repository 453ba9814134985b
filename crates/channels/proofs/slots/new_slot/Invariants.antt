use mathlib.Core.Path.{◌≡◌}
use Prim.Native.Nat.{◌-◌}
use Rattle.layout.specs.Basics.{first_from}
use Rattle.layout.specs.Image.{geometry_of, view}
use Rattle.layout.specs.Channels.{vacant}
use Rattle.channels.proofs.slots.new_slot.Given as goal

abbrev pub invariant-loop-s : goal.invariant-loop-s
invariant-loop-s l = first_from (vacant (view (geometry_of l.m) l.image) l.t) 64 0 ≡ first_from (vacant (view (geometry_of l.m) l.image) l.t) (64 - l.s) l.s
