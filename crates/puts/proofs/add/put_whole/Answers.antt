use Rattle.puts.proofs.Settling.{settled_some}
use Rattle.puts.proofs.Chaining.{chaining_none}
use native.Mathlib.Omega.{arith}
use Prim.Native.Nat.{◌+◌}
use mathlib.Core.Path.{◌≡◌, sym, ◌∙◌}
use Rattle.puts.proofs.add.put_whole.Goals as goal

pub returns-then-p-last : goal.returns-then-p-last
returns-then-p-last c =
    let r = c.chain_free-p.ensures in
    let none = chaining_none c.if-p-last.true r.2 r.3 in
    let w = c.args.w in
    let known = c.if-w-last.false in
    let e : w.from ≡ w.sector + 1 = omega arith in
    (c.requires.2, rw e none.0, none.1)

pub returns : goal.returns
returns c =
    let r = c.chain_free-p in
    let f = c.settle.ensures ∙ sym (settled_some _ _ c.args.w.sector r.result _ c.if-p-last.false) in
    rw f (r.ensures.1, r.ensures.2, r.ensures.3)
