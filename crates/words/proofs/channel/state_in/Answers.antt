use native.Mathlib.Omega.{arith}
use Rattle.words.specs.Words.{state_in}
use Rattle.words.proofs.channel.state_in.Goals as goal

pub returns-in-1 : goal.returns-in-1
unfolding state_in
returns-in-1 c = grind arith

pub returns-in-2 : goal.returns-in-2
unfolding state_in
returns-in-2 c = grind arith

pub returns-in_default-2 : goal.returns-in_default-2
unfolding state_in
returns-in_default-2 c = grind arith
