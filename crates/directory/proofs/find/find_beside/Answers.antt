use Rattle.image.proofs.Places.{density_of}
use mathlib.Core.Path.{refl, ◌∙◌}
use Rattle.directory.proofs.find.find_beside.Goals as goal

pub find_slot-requires : goal.find_slot-requires
find_slot-requires c = rw (c.single-density.ensures ∙ density_of c.args.m c.requires.0 _ refl c.if-m-eq-SINGLE_SIZE.true) c.requires

pub returns-then-m-eq-SINGLE_SIZE : goal.returns-then-m-eq-SINGLE_SIZE
returns-then-m-eq-SINGLE_SIZE c = rw (← c.single-density.ensures ∙ density_of c.args.m c.requires.0 _ refl c.if-m-eq-SINGLE_SIZE.true) c.find_slot.ensures
