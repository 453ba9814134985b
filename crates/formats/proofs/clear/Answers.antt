use borrow.Author.Rules.{rules}
use native.Mathlib.Omega.{arith}
use Rattle.formats.proofs.Fresh.{view-filled}
use Rattle.formats.proofs.clear.Goals as goal

pub returns : goal.returns
returns c = view-filled c.args.m.header c.args.m.density c.args.image.now _ _ (omega arith) (search rules) (c.fill.ensures.after (λ y e. search rules))
