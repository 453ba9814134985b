use mathlib.Core.Path.{refl}
use Rattle.words.specs.Words.{in_force}
use Rattle.words.proofs.channel.in_force.Goals as goal

pub returns : goal.returns
unfolding in_force
returns c = refl
