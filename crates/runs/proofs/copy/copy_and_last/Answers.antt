use Rattle.runs.proofs.Runs.{sets_last}
use Prim.Native.Nat.{suc}
use mathlib.Core.Path.{ap, ◌∙◌}
use lib.Seq.{sets, take_all}
use native.Mathlib.Omega.{arith}
use Rattle.runs.proofs.copy.copy_and_last.Goals as goal

pub returns : goal.returns
returns c = let a = c.args in
    let xs = a.from.now in
    rw c.copy_first.ensures (sets_last xs a.to.now a.at a.n (omega arith) ∙ ap (sets a.to.now a.at) (take_all (suc a.n) xs (omega arith)))
