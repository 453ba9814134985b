use mathlib.Core.Path.{sym, ap, ◌∙◌, subst}
use Prim.Native.Nat.{◌<◌}
use Rattle.std.specs.Prelude.{Err}
use Rattle.std.proofs.Common.{rules}
use Rattle.layout.specs.Image.{geometry_of, view}
use Rattle.rules.proofs.Aimed.{OnGood, target-good}
use Rattle.opens.proofs.write.open_write.Goals as goal

pub open_found-requires : goal.open_found-requires
open_found-requires c =
    let pre = c.requires in
    let d = view (geometry_of c.args.m) c.args.image.now in
    let b : c.in-Ok.s < 64 = search rules in
    (pre.0, pre.1, b, subst (OnGood d) (sym c.find_named.ensures.0.0 ∙ c.in-Ok.is) (target-good d _))

pub open_new-requires : goal.open_new-requires
open_new-requires c =
    let pre = c.requires in
    let d = view (geometry_of c.args.m) c.args.image.now in
    (pre.0, pre.1, subst (OnGood d) (sym c.find_named.ensures.0.0 ∙ c.in-Err-Missing.is ∙ ap Err c.in-Err-Missing.field-0-is) (target-good d _))
