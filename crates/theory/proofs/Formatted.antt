-- A format that succeeds leaves a sound disk, whatever the disk was before.
use mathlib.Core.List.{List}
use mathlib.Core.Path.{◌≡◌}
use Prim.Native.Nat.{ℕ}
use lib.ListN.{length}
use Rattle.layout.specs.declared.Table.{Table}
use Rattle.rules.specs.declared.Block.{Block}
use Rattle.rules.specs.declared.FileCommand.TheVariants.{Format}
use Rattle.rules.specs.declared.Command.TheVariants.{Files}
use Rattle.layout.specs.Image.{Disk, Geometry}
use Rattle.layout.specs.Status.{Succeeds}
use Rattle.layout.proofs.Channels.{none_open}
use Rattle.rules.specs.Cio.{Outcome, Asks}
use Rattle.rules.specs.Lists.{Call, System, cio_of, perform, outcome_of}
use Rattle.rules.specs.Sound.{Sound}
use Rattle.rules.proofs.Fresh.{sound-format}
use Rattle.rules.proofs.Acts.{asks, Ends, refuses, formats}
use Rattle.rules.proofs.Ends.{why_fails, ends_as}

format_makes : (g : Geometry) (d : Disk) (t : Table) → length t.channels ≡ 8 → {c : Call} {o : Outcome} → Ends g d t (asks (Files Format)) c o → Succeeds o.effect.status → Sound g o.effect.disk o.effect.table
format_makes g d t n (refuses k w m) h = absurd (why_fails w h)
format_makes g d t n (formats p) h = sound-format g d t n (none_open t p.none)

pub formatted-sound : (g : Geometry) (y : System) → length y.table.channels ≡ 8 → (c : Block) (text b : List ℕ) → Asks c (Files Format) → let e = perform g (cio_of c text b) y in Succeeds e.status → Sound g e.disk e.table
unfolding outcome_of
formatted-sound g y n c text b e = format_makes g y.disk y.table n (ends_as g y.disk y.table c text b _ e)
