use Rattle.layout.proofs.Image.{lawful}
use native.Mathlib.Omega.{arith}
use Rattle.puts.proofs.add.add_run.Goals as goal

pub write_run-requires : goal.write_run-requires
write_run-requires c = let z = (lawful _ c.requires.0.0).whole c.args.sector (omega arith) in omega arith
