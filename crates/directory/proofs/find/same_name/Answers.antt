use Rattle.layout.specs.Image.{geometry_of, view}
use Rattle.runs.proofs.Packed.{view-small}
use Rattle.directory.proofs.Words.{name-last_four}
use Rattle.directory.proofs.find.same_name.Goals as goal

pub returns : goal.returns
returns c =
    let a = c.args in
    let l = a.image.now in
    rw (c.slot_name_at.ensures, c.slot_last_four_at.ensures, c.last_four.ensures) (name-last_four (view (geometry_of a.m) l) (view-small _ l (λ i. (c.type_inv.image i).fits)) a.slot a.name a.extension c.ranges.name.fits)
