use Rattle.gets.proofs.Counting.{high-least}
use Rattle.layout.proofs.Data.{data_facts, data_low, data_high}
use native.Mathlib.Omega.{arith}
use Rattle.gets.proofs.whole.last_counted.Goals as goal

pub returns-then-sector-lt360 : goal.returns-then-sector-lt360
returns-then-sector-lt360 c = let f = data_facts _ c.requires in (omega arith, omega arith, λ k a b. data_low k (omega arith) b)

pub returns-else-sector-lt360 : goal.returns-else-sector-lt360
returns-else-sector-lt360 c = let f = data_facts _ c.requires in let h = high-least _ c.requires (omega arith) in (omega arith, omega arith, λ k a b. data_high k (omega arith) b)
