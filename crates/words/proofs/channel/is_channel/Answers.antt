use native.Mathlib.Omega.{arith}
use Rattle.words.specs.Words.{is_channel}
use Rattle.words.proofs.channel.is_channel.Goals as goal

pub returns-then-words-eq5 : goal.returns-then-words-eq5
unfolding is_channel
returns-then-words-eq5 c = grind arith

pub returns-else-words-eq5 : goal.returns-else-words-eq5
unfolding is_channel
returns-else-words-eq5 c = grind arith
