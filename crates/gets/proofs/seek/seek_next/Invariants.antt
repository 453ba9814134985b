use Rattle.gets.specs.Entered.{Entered}
use Rattle.rules.specs.Get.{seek}
use Rattle.layout.specs.Image.{geometry_of, view}
use mathlib.Core.Path.{◌≡◌}
use Rattle.gets.proofs.seek.seek_next.Given as goal

abbrev pub invariant-loop-q : goal.invariant-loop-q
invariant-loop-q l = Entered (geometry_of l.m) (view (geometry_of l.m) l.image) l.p.sector × (seek (geometry_of l.m) (view (geometry_of l.m) l.image) l.slot l.initial.p.sector l.initial.p.offset l.initial.p.left ≡ seek (geometry_of l.m) (view (geometry_of l.m) l.image) l.slot l.p.sector l.p.offset l.p.left)

abbrev pub decreases-loop-q : goal.decreases-loop-q
decreases-loop-q l = l.p.left
