use borrow.Author.Tests.{ne_eqb}
use mathlib.Core.Path.{sym}
use Rattle.rules.proofs.Sent.{sent_some}
use Rattle.puts.proofs.put.adds_none.Goals as goal

pub returns-in-Record : goal.returns-in-Record
returns-in-Record c = λ b e. rw c.in-Record.is (sym (ne_eqb _ 0 (sent_some b)))
