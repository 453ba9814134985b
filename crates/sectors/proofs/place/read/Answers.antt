use Prim.Native.Nat.{◌+◌, ◌-◌}
use lib.ListN.{length}
use Rattle.sectors.proofs.Whole.{read_whole}
use Rattle.layout.proofs.Image.{lawful}
use mathlib.Core.Path.{◌∙◌}
use native.Mathlib.Omega.{arith}
use Rattle.sectors.proofs.place.read.Goals as goal

pub returns : goal.returns
returns c =
    let a = c.args in
    let p = c.requires in
    let s = c.sector_start-first in
    c.copy_sector.ensures ∙ read_whole _ (lawful _ p.0.0) a.image.now a.buffer.now a.sector s.result s.ensures.0 p.3 (omega arith) (s.result + length a.buffer.now - s.result) (omega arith)
