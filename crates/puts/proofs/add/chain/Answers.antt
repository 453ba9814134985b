use Rattle.layout.proofs.Image.{lawful}
use native.Mathlib.Omega.{arith}
use Rattle.puts.proofs.add.chain.Goals as goal

pub write_run-requires : goal.write_run-requires
write_run-requires c =
    let z = (lawful _ c.requires.0.0).whole c.args.sector c.requires.4 in
    omega arith
