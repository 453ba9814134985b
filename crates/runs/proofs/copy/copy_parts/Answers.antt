use Rattle.runs.proofs.Runs.{sets_over}
use lib.ListN.{length, drop, length-drop}
use lib.Seq.{take_all}
use mathlib.Core.Path.{◌≡◌, ◌∙◌}
use Prim.Native.Nat.{◌+◌, ◌-◌}
use native.Mathlib.Omega.{arith}
use Rattle.runs.proofs.copy.copy_parts.Goals as goal

pub returns : goal.returns
returns c =
    let a = c.args in
    let xs = a.from.now in
    let n = length xs - a.last in
    let e : n + a.last - n ≡ a.last = omega arith in
    let d : length (drop n xs) ≡ a.last = length-drop n xs ∙ omega arith in
    let all = take_all a.last (drop n xs) (omega arith) in
    c.copy_first-2.ensures ∙ rw (e, all, all, c.copy_first.ensures) (sets_over xs a.to.now a.at n a.first (omega arith))
