use native.Mathlib.Numerals.{add-one}
use native.Mathlib.Omega.{arith}
use mathlib.Core.Path.{◌≡◌}
use Prim.Native.Nat.{◌+◌}
use Rattle.layout.specs.Image.{geometry_of, view}
use Rattle.layout.specs.Volume.{ones_below}
use Rattle.layout.proofs.Good.{ones_most}
use Rattle.volume.proofs.table.map_ones.Goals as goal

pub overflow_add-n : goal.overflow_add-n
unfolding ones_below
overflow_add-n c =
    let l = c.loop-i in
    let r = view (geometry_of c.args.m) c.args.image.now 360 in
    let e : l.n + c.ones-n.result ≡ ones_below r (l.i + 1) = rw (add-one l.i, c.ones-n.ensures, c.byte.ensures, l.invariant) in
    omega (arith, e, ones_most r (l.i + 1))
