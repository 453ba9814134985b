use Prim.Native.Nat.{◌+◌, ◌/◌}
use Rattle.layout.proofs.Image.{lawful}
use native.Mathlib.Omega.{arith}
use Rattle.image.proofs.slot.slot_start.Goals as goal

pub returns : goal.returns
returns c =
    let l = (lawful _ c.requires.0).least (361 + c.args.slot / 8) (omega arith) in
    let e = rw c.sector_of.ensures at c.start.ensures in
    (omega arith, omega arith)
