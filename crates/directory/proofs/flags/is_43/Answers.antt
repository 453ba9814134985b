use Rattle.layout.specs.Directory.{is43}
use borrow.Author.Tests.{lt-ltb, le-ltb}
use Rattle.directory.proofs.flags.is_43.Goals as goal

pub returns-then-slot-ge64 : goal.returns-then-slot-ge64
unfolding is43
returns-then-slot-ge64 c = rw (le-ltb c.args.slot 64 c.if-slot-ge64.true)

pub returns : goal.returns
unfolding is43
returns c = rw (lt-ltb c.args.slot 64 c.if-slot-ge64.false) (cc)
