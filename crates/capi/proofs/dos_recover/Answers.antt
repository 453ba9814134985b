use mathlib.Core.Path.{ap}
use native.Mathlib.Omega.{arith}
use Rattle.rules.specs.declared.Reply.{Reply}
use Rattle.capi.specs.Leaves.{closed}
use Rattle.capi.proofs.Few.{recover-few}
use Rattle.capi.proofs.dos_recover.Goals as goal

pub pack-requires : goal.pack-requires
pack-requires c =
    let args = c.args in
    let e = ap (λ (a : Reply). a.count) c.recover-recovered.ensures.0 in let h = recover-few args.image.now (closed args.notch) args.slot in omega arith
