use Rattle.layout.specs.File.{end_of_line}
use Rattle.layout.specs.Image.{geometry_of, view}
use Rattle.layout.proofs.Data.{data_facts}
use Rattle.rules.specs.declared.Added.{Added}
use Rattle.rules.specs.Put.{Adds}
use Rattle.rules.proofs.Rooms.{put_full}
use Rattle.puts.proofs.Adding.{room_zero}
use Rattle.puts.proofs.Behind.{put_one}
use mathlib.Core.List.{[]}
use mathlib.Core.Path.{sym, ap, ◌∙◌}
use native.Mathlib.Omega.{arith}
use Rattle.puts.proofs.add.put_end.Goals as goal

pub returns-in_default : goal.returns-in_default
returns-in_default c =
    let none = c.in_default.ensures in
    let a = c.args in
    let g = geometry_of a.m in
    let d = view g a.image.now in
    let e = put_full g a.slot end_of_line [] d a.line.last a.line.count none.1 in
    let q = data_facts _ c.requires.2 in
    (c.added.ensures ∙ ap (λ (o : Adds). record { status = o.added.status; count = a.line.count; last = o.added.last }) (sym e), none.0 ∙ room_zero g a.slot d a.line.last (omega arith) none.1 ∙ ap (λ (o : Adds). o.disk) (sym e))

pub add_end-requires : goal.add_end-requires
add_end-requires c = let has = c.in-Some.ensures.1.2 in let k = data_facts _ has.kind in (omega arith, omega arith, omega arith, has.room)

pub returns : goal.returns
returns c =
    let a = c.args in
    let g = geometry_of a.m in
    let some = c.in-Some.ensures in
    let k = data_facts _ some.1.2.kind in
    let e = put_one g a.slot end_of_line (view g a.image.now) a.line.last a.line.count _ _ some.1.0 some.0 (λ z. omega arith) in
    (c.added-2.ensures ∙ ap (λ (x : Added). record { status = x.status; count = a.line.count; last = x.last }) (sym e.0), c.add_end.ensures ∙ sym e.1)
