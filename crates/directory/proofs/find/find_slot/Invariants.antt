use mathlib.Core.Path.{◌≡◌}
use Prim.Native.Nat.{◌+◌, ◌*◌, ◌/◌, ◌%◌}
use Rattle.layout.specs.Image.{geometry_of, view}
use Rattle.layout.specs.Directory.{bears_beside}
use Rattle.layout.specs.Names.{name_byte}
use Rattle.directory.proofs.Search.{Come}
use Rattle.directory.proofs.find.find_slot.Given as goal

abbrev pub invariant-loop-s : goal.invariant-loop-s
invariant-loop-s l = (l.at ≡ (geometry_of l.m).start (361 + l.s / 8) + l.s % 8 * 16) × Come (view (geometry_of l.m) l.image) (bears_beside (view (geometry_of l.m) l.image) (name_byte l.name l.extension) l.beside) l.s
