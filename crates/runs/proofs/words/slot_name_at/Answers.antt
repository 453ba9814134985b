use Rattle.runs.proofs.Packed.{name-bytes}
use Rattle.image.proofs.Places.{slot-within}
use mathlib.Core.Path.{◌∙◌}
use native.Mathlib.Omega.{arith}
use Rattle.runs.proofs.words.slot_name_at.Goals as goal

pub overflow_add-at : goal.overflow_add-at
overflow_add-at c = let w = slot-within _ c.requires.0.0 c.args.slot (omega arith) in omega arith

pub word8-requires : goal.word8-requires
word8-requires c = let w = slot-within _ c.requires.0.0 c.args.slot (omega arith) in omega arith

pub returns : goal.returns
returns c = c.word8.ensures ∙ name-bytes _ c.requires.0.0 _ _ _ (omega arith) c.requires.2
