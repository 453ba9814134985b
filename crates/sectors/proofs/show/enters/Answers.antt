use native.Mathlib.Omega.{arith}
use Rattle.rules.specs.Showing.{enters}
use Rattle.sectors.proofs.show.enters.Goals as goal

pub returns-then-slot-lt64 : goal.returns-then-slot-lt64
unfolding enters
returns-then-slot-lt64 c = grind arith

pub returns-else-slot-lt64 : goal.returns-else-slot-lt64
unfolding enters
returns-else-slot-lt64 c = grind arith
