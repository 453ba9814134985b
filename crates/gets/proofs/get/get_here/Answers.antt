use Rattle.layout.proofs.Image.{lawful}
use Rattle.gets.proofs.Getting.{comes_on, gets-here}
use native.Mathlib.Omega.{arith}
use mathlib.Core.Path.{refl}
use Rattle.gets.proofs.get.get_here.Goals as goal

pub get_run-requires : goal.get_run-requires
get_run-requires c = let b = c.requires.3 in let z = (lawful _ c.requires.0.0).whole c.args.r.place.sector b.low in omega arith

pub returns-then-end-m : goal.returns-then-end-m
returns-then-end-m c =
    let run = c.min-run in
    rw c.past-end.ensures (omega arith, gets-here _ _ _ c.requires.3 run.result (omega arith) (omega arith) _ c.get_run.ensures _ refl)

pub returns : goal.returns
returns c =
    let run = c.min-run in
    let end = rw c.past-end.ensures at c.if-end-m.false in
    let whole = rw c.past-end.ensures at c.get_whole-w.ensures.1 in
    let more = whole.least in
    rw (c.past-end.ensures, end) (omega arith, comes_on (gets-here _ _ _ c.requires.3 run.result (omega arith) (omega arith) _ c.get_run.ensures _ end) (omega arith) whole)
