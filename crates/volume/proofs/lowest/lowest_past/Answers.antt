use native.Mathlib.Omega.{arith}
use mathlib.Core.Path.{◌≡◌, sym, ◌∙◌}
use Prim.Native.Nat.{◌*◌}
use Rattle.volume.proofs.Below.{none_left, none_byte, lowest_at}
use Rattle.volume.proofs.lowest.lowest_past.Goals as goal

pub returns-then-v-ne0 : goal.returns-then-v-ne0
returns-then-v-ne0 c = lowest_at _ _ _ _ (omega arith) c.loop-i.invariant c.byte-v.ensures c.highest.ensures

pub loop-i-preserved : goal.loop-i-preserved
loop-i-preserved c = none_byte _ _ c.loop-i.invariant (sym c.byte-v.ensures ∙ c.if-v-ne0.false)

pub returns : goal.returns
returns c = let e : 8 * c.loop-i.i ≡ 720 = omega arith in none_left _ (rw e at c.loop-i.invariant)
