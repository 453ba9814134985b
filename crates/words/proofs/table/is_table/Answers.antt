use Rattle.std.proofs.Common.{arith}
use Rattle.words.specs.Words.{is_table}
use Rattle.words.proofs.table.is_table.Goals as goal

pub returns-then-words-eq40 : goal.returns-then-words-eq40
unfolding is_table
returns-then-words-eq40 c = grind arith

pub returns-else-words-eq40 : goal.returns-else-words-eq40
unfolding is_table
returns-else-words-eq40 c = grind arith
