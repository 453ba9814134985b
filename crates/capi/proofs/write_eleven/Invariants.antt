use Rattle.layout.specs.Names.{name_byte}
use Rattle.capi.proofs.Filling.{Filled}
use Rattle.capi.proofs.write_eleven.Given as goal

abbrev pub invariant-loop-j : goal.invariant-loop-j
invariant-loop-j l = Filled (name_byte l.name l.extension) l.eleven l.j
