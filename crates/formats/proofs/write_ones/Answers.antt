use native.Mathlib.Omega.{arith}
use mathlib.Core.Path.{sym, ◌∙◌}
use Rattle.formats.proofs.Fresh.{ones_none, ones_next}
use Rattle.formats.proofs.write_ones.Goals as goal

pub loop-j-init : goal.loop-j-init
loop-j-init c = (c.requires, sym (ones_none _))

pub loop-j-preserved : goal.loop-j-preserved
loop-j-preserved c = ((c.loop-j.invariant.0.0, omega arith), c.write_byte.ensures ∙ rw c.loop-j.invariant.1 (ones_next _ _ (omega arith)))
