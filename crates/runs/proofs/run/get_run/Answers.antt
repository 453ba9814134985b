use Rattle.layout.proofs.Run.{part_values}
use lib.Seq.{sets}
use mathlib.Core.Path.{◌≡◌, ap, ◌∙◌}
use Prim.Native.Nat.{◌+◌, ◌-◌}
use native.Mathlib.Omega.{arith}
use Rattle.runs.proofs.run.get_run.Goals as goal

pub returns : goal.returns
returns c =
    let called = c in
    let a = called.args in
    let first = called.start.result + a.place in
    let e : first + a.n - first ≡ a.n = omega arith in
    c.copy.ensures ∙ rw (e, called.start.ensures.0) (ap (sets a.buffer.now a.at) (part_values _ a.n _ _ _ (λ i h. omega arith) (omega arith)))
