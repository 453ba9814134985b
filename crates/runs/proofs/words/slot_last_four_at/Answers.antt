use Rattle.runs.proofs.Packed.{last-bytes}
use Rattle.image.proofs.Places.{slot-within}
use mathlib.Core.Path.{◌∙◌}
use native.Mathlib.Omega.{arith}
use Rattle.runs.proofs.words.slot_last_four_at.Goals as goal

pub overflow_add-at : goal.overflow_add-at
overflow_add-at c = let w = slot-within _ c.requires.0.0 c.args.slot (omega arith) in omega arith

pub word4-requires : goal.word4-requires
word4-requires c = let w = slot-within _ c.requires.0.0 c.args.slot (omega arith) in omega arith

pub returns : goal.returns
returns c = c.word4.ensures ∙ last-bytes _ c.requires.0.0 _ _ _ (omega arith) c.requires.2
