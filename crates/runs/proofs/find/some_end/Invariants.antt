use mathlib.Core.Path.{◌≡◌}
use Prim.Native.Nat.{◌+◌}
use lib.ListN.{get_or}
use Rattle.layout.specs.Basics.{any_below}
use Rattle.layout.specs.File.{ends_line}
use Rattle.runs.proofs.find.some_end.Given as goal

abbrev pub invariant-loop-j : goal.invariant-loop-j
invariant-loop-j l = l.some ≡ any_below l.j (λ j. ends_line (λ k. get_or l.s k 0) (l.i + j))
