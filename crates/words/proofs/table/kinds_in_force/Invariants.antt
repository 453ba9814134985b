use Rattle.std.proofs.Common.{◌≡◌}
use Rattle.layout.specs.Basics.{all_below}
use Rattle.words.specs.Words.{kind_in_force}
use Rattle.words.proofs.table.kinds_in_force.Given as goal

abbrev pub invariant-loop-c : goal.invariant-loop-c
invariant-loop-c l = l.good ≡ all_below l.c (kind_in_force l.words)
