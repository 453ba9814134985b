use Rattle.puts.specs.Searched.{Searched}
use Rattle.puts.specs.Come.{Puts}
use Rattle.layout.specs.Volume.{data_sector}
use Rattle.layout.specs.Image.{Whole, geometry_of, view}
use lib.ListN.{length}
use Prim.Native.Nat.{◌-◌}
use mathlib.Core.Path.{◌≡◌}
use mathlib.Core.Bool.{true}
use Rattle.puts.proofs.add.put_from.Given as goal

abbrev pub invariant-loop-w : goal.invariant-loop-w
invariant-loop-w l = Whole l.m l.image × (data_sector l.w.sector ≡ true) × Searched (view (geometry_of l.m) l.image 360) l.w.from × Puts (geometry_of l.m) l.slot l.buffer (view (geometry_of l.m) l.initial.image) l.last 0 (view (geometry_of l.m) l.image) l.w.sector l.w.count

abbrev pub decreases-loop-w : goal.decreases-loop-w
decreases-loop-w l = length l.buffer - l.w.count
