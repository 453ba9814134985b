use Rattle.puts.proofs.Chaining.{bytes_within, chaining_start, chaining_next}
use Rattle.layout.proofs.Data.{data_facts}
use native.Mathlib.Omega.{arith}
use mathlib.Core.Path.{sym, ◌∙◌}
use Rattle.puts.proofs.add.chain_free.Goals as goal

pub loop-p-init : goal.loop-p-init
loop-p-init c = let p = c.requires in (p.0, chaining_start p.2 (omega arith) p.6 p.7)

pub chain_after-requires : goal.chain_after-requires
chain_after-requires c =
    let p = c.requires in
    let i = c.loop-p.invariant in
    let q = data_facts _ p.2 in
    (i.0, p.1, omega arith, i.1.least, omega arith, bytes_within _ _ _ c.args.end _ _ i.1.least (omega arith) p.5)

pub loop-p-preserved : goal.loop-p-preserved
loop-p-preserved c =
    let p = c.requires in
    let i = c.loop-p.invariant in
    let regular = p.0.0 in
    let free = sym c.is_free.ensures ∙ c.if-not-is_free.false in
    (omega arith, chaining_next i.1 (omega arith) free p.1 (omega arith) (bytes_within _ _ _ c.args.end _ _ i.1.least (omega arith) p.5) _ c.chain_after.ensures)
