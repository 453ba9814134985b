use Rattle.gets.proofs.Counting.{Counting}
use Rattle.layout.specs.Image.{geometry_of, view}
use lib.ListN.{length}
use Prim.Native.Nat.{◌+◌}
use mathlib.Core.Path.{◌≡◌}
use Rattle.gets.proofs.whole.get_counted.Given as goal

abbrev pub invariant-loop-k : goal.invariant-loop-k
invariant-loop-k l = (length l.buffer ≡ length l.initial.buffer) × (l.at ≡ (geometry_of l.m).start (l.k + 1)) × Counting (geometry_of l.m) (view (geometry_of l.m) l.image) l.slot l.w l.initial.buffer l.k l.i l.buffer
