use mathlib.Core.Path.{◌≡◌}
use Prim.Native.Nat.{◌-◌}
use Rattle.layout.specs.Image.{Whole, geometry_of, view}
use Rattle.layout.specs.Directory.{write_name, write_name_from}
use Rattle.layout.specs.Names.{name_byte}
use Rattle.directory.proofs.find.write_name.Given as goal

abbrev pub invariant-loop-j : goal.invariant-loop-j
invariant-loop-j l = Whole l.m l.image × (write_name (view (geometry_of l.m) l.initial.image) l.slot (name_byte l.name l.extension) ≡ write_name_from (view (geometry_of l.m) l.image) l.slot (name_byte l.name l.extension) (11 - l.j) l.j)
