use native.Mathlib.Omega.{arith}
use mathlib.Core.Path.{sym, ◌∙◌}
use Rattle.volume.proofs.Below.{none-word}
use Rattle.volume.proofs.lowest.skip.Goals as goal

pub loop-i-preserved : goal.loop-i-preserved
loop-i-preserved c = (omega arith, none-word _ 8 _ c.loop-i.invariant.1 (sym c.map_word.ensures ∙ c.if-map_word-ne0.false))
