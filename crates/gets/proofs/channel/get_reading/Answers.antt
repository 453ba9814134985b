use Rattle.gets.proofs.Seeking.{readable_entered}
use native.Mathlib.Omega.{arith}
use borrow.Author.Rules.{rules}
use mathlib.Core.Path.{sym, ◌∙◌}
use Rattle.gets.proofs.channel.get_reading.Goals as goal

pub fill-requires : goal.fill-requires
fill-requires c = let w = readable_entered _ _ _ _ _ (sym c.readable.ensures ∙ c.if-not-readable.false) in (omega arith, w.0, search rules, w.1)
