use Rattle.capi.specs.Leaves.{closed}
use Rattle.capi.proofs.Few.{header-few}
use Rattle.rules.specs.declared.Reply.{Reply}
use native.Mathlib.Omega.{arith}
use mathlib.Core.Path.{ap}
use Rattle.capi.proofs.dos_header.Goals as goal

pub pack-requires : goal.pack-requires
pack-requires c = let e = ap (λ (a : Reply). a.count) c.write_header-a.ensures.0 in let args = c.args in let h = header-few args.image.now (closed args.notch) in omega arith
