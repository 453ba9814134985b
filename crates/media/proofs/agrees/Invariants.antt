use mathlib.Core.Path.{◌≡◌}
use Rattle.layout.specs.Basics.{all_below}
use Rattle.media.specs.Same.{same_at}
use Rattle.media.proofs.agrees.Given as goal

abbrev pub invariant-loop-j : goal.invariant-loop-j
invariant-loop-j l = l.same ≡ all_below l.j (same_at l.header l.image)
