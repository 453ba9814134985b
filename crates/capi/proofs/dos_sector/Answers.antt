use mathlib.Core.Path.{ap}
use native.Mathlib.Omega.{arith}
use Rattle.rules.specs.declared.Reply.{Reply}
use Rattle.capi.specs.Leaves.{closed}
use Rattle.capi.proofs.Few.{sector-few}
use Rattle.capi.proofs.dos_sector.Goals as goal

pub pack-requires : goal.pack-requires
pack-requires c =
    let args = c.args in
    let e = ap (λ (a : Reply). a.count) c.sector_call-told.ensures.0 in let h = sector-few args.image.now (closed args.notch) args.device args.unit args.command args.sector args.buffer.now in omega arith
