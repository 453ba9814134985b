use Rattle.words.specs.Words.{table_of, channels_from}
use Rattle.words.proofs.table.table_of.Goals as goal

pub returns : goal.returns
unfolding table_of channels_from
returns c = cc
