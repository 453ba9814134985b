use Rattle.puts.proofs.Chaining.{Chaining}
use Rattle.layout.specs.Image.{Whole, geometry_of, view}
use Rattle.puts.proofs.add.chain_free.Given as goal

abbrev pub invariant-loop-p : goal.invariant-loop-p
invariant-loop-p l = Whole l.m l.image × Chaining (geometry_of l.m) l.slot l.buffer (view (geometry_of l.m) l.initial.image) l.w.sector l.w.count (view (geometry_of l.m) l.image) l.p
