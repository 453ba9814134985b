use mathlib.Core.Path.{ap, ◌∙◌}
use lib.Seq.{sets, take_all}
use native.Mathlib.Omega.{arith}
use Rattle.runs.proofs.copy.copy_sector.Goals as goal

pub returns-then-n-eq-SINGLE_SIZE : goal.returns-then-n-eq-SINGLE_SIZE
returns-then-n-eq-SINGLE_SIZE c =
    let a = c.args in
    c.copy_first.ensures ∙ ap (sets a.to.now a.at) (take_all 128 a.from.now (omega arith))

pub returns-then-n-eq-DOUBLE_SIZE : goal.returns-then-n-eq-DOUBLE_SIZE
returns-then-n-eq-DOUBLE_SIZE c =
    let a = c.args in
    c.copy_first-then-n-eq-DOUBLE_SIZE.ensures ∙ ap (sets a.to.now a.at) (take_all 256 a.from.now (omega arith))
