use mathlib.Core.Path.{◌∙◌}
use Prim.Native.Nat.{◌<◌}
use native.Mathlib.Omega.{arith}
use Rattle.std.proofs.Common.{rules}
use Rattle.layout.specs.Image.{geometry_of, view}
use Rattle.layout.specs.Volume.{lowest}
use Rattle.layout.proofs.Data.{data_facts}
use Rattle.layout.proofs.Good.{good_facts, lowest-free}
use Rattle.opens.proofs.write.open_new.Goals as goal

pub give-requires : goal.give-requires
give-requires c =
    let r = view (geometry_of c.args.m) c.args.image.now 360 in
    let k = c.lowest_free-k.ensures in
    let d = data_facts (lowest r) (lowest-free r (good_facts r c.requires.2) (λ e. c.if-k-eq0.false (k ∙ e))).1 in
    let b : c.in_ok-s.s < 64 = search rules in omega arith
