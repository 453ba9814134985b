use Rattle.layout.specs.Basics.{first_from}
use Rattle.layout.specs.File.{ends_line}
use lib.ListN.{get_or}
use mathlib.Core.Path.{◌≡◌}
use Prim.Native.Nat.{◌-◌}
use Rattle.runs.proofs.find.first_byte.Given as goal

abbrev pub invariant-loop-i : goal.invariant-loop-i
invariant-loop-i l = first_from (ends_line (λ j. get_or l.s j 0)) (l.end - l.at) l.at ≡ first_from (ends_line (λ j. get_or l.s j 0)) (l.end - l.i) l.i
