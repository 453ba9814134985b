use mathlib.Core.Path.{◌≡◌}
use Prim.Native.Nat.{◌+◌, ◌-◌}
use Rattle.layout.specs.Basics.{first_from}
use Rattle.layout.specs.Names.{not_plain}
use Rattle.chars.proofs.end_of.Given as goal

abbrev pub invariant-loop-k : goal.invariant-loop-k
invariant-loop-k l = first_from (not_plain l.text) l.n l.i ≡ first_from (not_plain l.text) (l.n + l.i - l.k) l.k
