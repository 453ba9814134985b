use mathlib.Core.Path.{refl}
use Rattle.layout.specs.Basics.{all_below}
use Rattle.words.specs.Words.{kind_in_force}
use Rattle.words.proofs.Channels.{all_more}
use Rattle.words.proofs.table.kinds_in_force.Goals as goal

pub loop-c-init : goal.loop-c-init
unfolding all_below
loop-c-init c = refl

pub loop-c-preserved : goal.loop-c-preserved
unfolding kind_in_force
loop-c-preserved c = let l = c.loop-c in all_more (kind_in_force c.args.words.now) l.c l.good _ l.invariant c.in_force-good.ensures
