use Rattle.layout.proofs.Image.{lawful}
use Rattle.runs.proofs.Packed.{map_bytes}
use mathlib.Core.Path.{◌∙◌}
use native.Mathlib.Omega.{arith}
use Rattle.runs.proofs.words.map_word.Goals as goal

pub word8-requires : goal.word8-requires
word8-requires c = let z = (lawful _ c.requires.0.0).least 360 (omega arith) in omega arith

pub returns : goal.returns
returns c = c.word8.ensures ∙ map_bytes _ c.requires.0.0 _ _ c.start.ensures.0 _ (omega arith)
