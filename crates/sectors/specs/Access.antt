-- The two accesses of the sector commands.
use Rattle.std.specs.Prelude.{Bool, true, false}
use Rattle.sectors.specs.declared.command.Access.{Access}
use Rattle.sectors.specs.declared.command.Access.TheVariants.{Read, Write}

-- one that writes
abbrev pub writes : Access → Bool
writes Read = false
writes Write = true
