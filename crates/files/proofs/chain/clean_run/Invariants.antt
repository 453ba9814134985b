use mathlib.Core.Path.{◌≡◌}
use Prim.Native.Nat.{◌+◌, ◌-◌, ◌<◌}
use Rattle.layout.specs.File.{clean_from}
use Rattle.layout.specs.Image.{geometry_of, view}
use Rattle.files.proofs.chain.clean_run.Given as goal

abbrev pub invariant-loop-j : goal.invariant-loop-j
invariant-loop-j l =
    (l.start + l.j < 65536) × (clean_from (geometry_of l.m) l.freed (view (geometry_of l.m) l.image) l.slot l.n l.start ≡ clean_from (geometry_of l.m) l.freed (view (geometry_of l.m) l.image) l.slot (l.n - l.j) (l.start + l.j))
