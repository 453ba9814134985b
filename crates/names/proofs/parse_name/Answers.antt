use Rattle.layout.proofs.Tells.{tells_parsed}
use Rattle.layout.specs.Names.{ending, parse_name, read_name}
use Rattle.names.proofs.parse_name.Goals as goal

pub returns : goal.returns
unfolding parse_name read_name
returns c = tells_parsed (c.read_as.ensures ending (λ x b h e. e))
