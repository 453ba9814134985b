use mathlib.Core.Bool.{Bool, true, false, not, ◌||◌}
use mathlib.Core.Path.{◌≡◌, sym, ◌∙◌}
use Prim.Native.Nat.{ℕ}
use native.Mathlib.Omega.{arith}
use lib.Dec.{eqb}
use borrow.Author.Tests.{ne_eqb}
use Rattle.layout.specs.declared.Table.{Table}
use Rattle.layout.specs.Image.{Disk}
use Rattle.layout.specs.Directory.{flag, deleted}
use Rattle.layout.specs.Channels.{held_by_channel, vacant, new_slot}
use Rattle.layout.specs.Status.{success, no_slot}
use Rattle.layout.proofs.Search.{first-end, first_stop, first_next}
use Rattle.layout.proofs.Tells.{tells_found}
use Rattle.channels.proofs.slots.new_slot.Goals as goal
use Rattle.channels.proofs.slots.new_slot.Goals.{else-unused-via-then-unused+else-not-held_by_channel, else-unused-via-else-unused}

-- a slot in use is not vacant; of any other the channels decide
module _ (d : Disk) (t : Table) (s : ℕ) where
  used_is : (eqb (flag d s) 0 || deleted (flag d s)) ≡ false → vacant d t s ≡ false
  unfolding vacant
  used_is u = rw u

  vacant_is : (b : Bool) → (eqb (flag d s) 0 || deleted (flag d s)) ≡ true → held_by_channel t s ≡ b → vacant d t s ≡ not b
  unfolding vacant
  vacant_is b u h = rw (u, h)

pub returns-then-not-held_by_channel : goal.returns-then-not-held_by_channel
unfolding new_slot
returns-then-not-held_by_channel c =
    let loop = c.loop-s in
    let e = loop.invariant ∙ first_stop _ _ _ (vacant_is _ _ _ false (sym c.unused.ensures ∙ c.if-unused.true) (sym c.held_by_channel.ensures ∙ c.if-not-held_by_channel.true)) in
    (tells_found success no_slot (rw (e, ne_eqb loop.s 64 (λ z. omega arith))), c.loop-s-test.true)

pub loop-s-preserved : goal.loop-s-preserved
loop-s-preserved c =
    c.loop-s.invariant ∙ first_next _ 64 _ c.loop-s-test.true (elim c.else-unused.branch [
      | else-unused-via-then-unused+else-not-held_by_channel w ↦ vacant_is _ _ _ true (sym c.unused.ensures ∙ w.if-unused.true) (sym w.held_by_channel.ensures ∙ w.if-not-held_by_channel.false)
      | else-unused-via-else-unused w ↦ used_is _ _ _ (sym c.unused.ensures ∙ w.if-unused.false)
    ])

pub returns : goal.returns
unfolding new_slot
returns c = let s : c.loop-s.s ≡ 64 = omega arith in let e = c.loop-s.invariant ∙ first-end _ 64 _ c.loop-s-test.false ∙ s in (tells_found success no_slot (rw e), tt)
