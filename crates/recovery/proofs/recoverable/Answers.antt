use native.Mathlib.Omega.{arith}
use Rattle.rules.specs.Recovery.{recoverable}
use Rattle.recovery.proofs.recoverable.Goals as goal

pub returns-then-deleted-clause-answer : goal.returns-then-deleted-clause-answer
unfolding recoverable
returns-then-deleted-clause-answer c = grind arith

pub returns-else-deleted-clause-answer : goal.returns-else-deleted-clause-answer
unfolding recoverable
returns-else-deleted-clause-answer c = grind arith
