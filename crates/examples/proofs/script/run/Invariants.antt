-- The loop ends: each turn takes a byte at least.
use Rattle.std.proofs.Common.{length}
use Rattle.examples.proofs.script.run.Given as goal

abbrev pub decreases-loop-b : goal.decreases-loop-b
decreases-loop-b g l = length l.rest
