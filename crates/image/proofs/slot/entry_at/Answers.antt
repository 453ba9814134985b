use Rattle.image.proofs.Places.{entry_place, slot-within}
use native.Mathlib.Omega.{arith}
use Prim.Native.Nat.{◌+◌}
use lib.ListN.{get_or}
use mathlib.Core.Path.{ap, sym, ◌∙◌}
use Rattle.image.proofs.slot.entry_at.Goals as goal

pub overflow_add-result : goal.overflow_add-result
overflow_add-result c =
    let w = slot-within _ c.requires.0.0 c.args.slot (omega arith) in omega arith

pub bounds-image-at : goal.bounds-image-at
bounds-image-at c =
    let w = slot-within _ c.requires.0.0 c.args.slot (omega arith) in omega arith

pub returns : goal.returns
returns c = ap (λ i. get_or c.args.image.now (i + c.args.j) 0) c.requires.2 ∙ sym (entry_place _ c.requires.0.0 _ (omega arith) _ _ (omega arith))
