use Rattle.layout.specs.Image.{geometry_of, view}
use Rattle.runs.proofs.Packed.{view-small}
use Rattle.directory.proofs.Words.{another-words}
use Rattle.directory.proofs.find.has_double.Goals as goal

pub returns : goal.returns
returns c = let a = c.args in let l = a.image.now in cc (another-words (view (geometry_of a.m) l) (view-small _ l (λ i. (c.type_inv.image i).fits)) a.slot)
