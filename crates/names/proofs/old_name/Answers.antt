use Rattle.layout.proofs.Tells.{tells_name_of}
use Rattle.layout.specs.Names.{comma, old_name}
use Rattle.names.proofs.old_name.Goals as goal

pub returns : goal.returns
unfolding old_name
returns c = tells_name_of _ _ (c.read_as.ensures comma (λ x b h e. e))
