use native.Mathlib.Omega.{arith}
use Rattle.files.proofs.Walks.{marking_again, marking_on}
use Rattle.files.proofs.marks.mark_bits.Goals as goal

-- a turn goes on by one sector, and then by the run
pub loop-i-preserved-then-after-k : goal.loop-i-preserved-then-after-k
loop-i-preserved-then-after-k c = (omega arith, marking_on _ (marking_again _ c.loop-i.invariant.1 c.loop-i-test.true _ c.next-after.ensures _ c.set_bit.ensures) _ _ _ c.mark_run-run.ensures)
