use native.Mathlib.Omega.{arith}
use lib.ListN.{length-set}
use borrow.Author.Rules.{rules}
use Rattle.words.proofs.Channels.{five_set}
use Rattle.words.proofs.channel.write_words.Goals as goal

pub bounds-words-4 : goal.bounds-words-4
bounds-words-4 c = simp length-set (omega arith)

pub returns : goal.returns
returns c = five_set c.args.words.now c.args.five c.requires (search rules)
