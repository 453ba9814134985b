use mathlib.Core.Path.{◌≡◌}
use Prim.Native.Nat.{◌+◌}
use lib.ListN.{length, take, drop}
use lib.Seq.{sets}
use Rattle.runs.proofs.copy.copy_first.Given as goal

abbrev pub invariant-loop-j : goal.invariant-loop-j
invariant-loop-j l = (length l.to ≡ length l.initial.to) × (sets l.initial.to l.at (take l.n l.from) ≡ sets l.to (l.at + l.j) (drop l.j (take l.n l.from)))
