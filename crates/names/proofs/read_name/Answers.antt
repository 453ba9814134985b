use Rattle.layout.proofs.Tells.{tells_name_of}
use Rattle.layout.specs.Names.{ending, read_name}
use Rattle.names.proofs.read_name.Goals as goal

pub returns : goal.returns
unfolding read_name
returns c = tells_name_of _ _ (c.read_as.ensures ending (λ x b h e. e))
