use Rattle.gets.proofs.Lining.{in_ended, in_open}
use Rattle.layout.proofs.Image.{lawful}
use Rattle.layout.proofs.Search.{first-least}
use Prim.Native.Nat.{◌≤◌}
use native.Mathlib.Omega.{arith}
use Rattle.gets.proofs.line.line_in.Goals as goal

pub end_in-end-requires : goal.end_in-end-requires
end_in-end-requires c =
    let size = (lawful _ c.requires.0.0).whole c.args.p.sector c.requires.2.low in omega arith

pub overflow_sub-result : goal.overflow_sub-result
overflow_sub-result c =
    let end = c.end_in-end in
    let least : c.args.p.offset ≤ end.result = rw end.ensures (first-least _ _ _) in omega arith

pub returns-then-end-from : goal.returns-then-end-from
returns-then-end-from c =
    let run = c.min-run in
    let end = c.end_in-end in
    (omega arith, in_ended _ _ _ run.result _ end.ensures (omega arith) c.if-end-from.true)

pub returns : goal.returns
returns c =
    let run = c.min-run in
    (omega arith, in_open _ _ _ run.result _ c.end_in-end.ensures (omega arith) (omega arith) c.if-end-from.false)
