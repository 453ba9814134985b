use Rattle.gets.proofs.Getting.{comes_on, comes_all, comes_ended, comes_broken, comes_found}
use Rattle.gets.proofs.Seeking.{sought-left}
use native.Mathlib.Omega.{arith}
use mathlib.Core.Path.{sym, ◌∙◌, ap}
use Rattle.gets.proofs.get.get_from.Goals as goal

pub loop-r-preserved : goal.loop-r-preserved
loop-r-preserved c =
    let inv = c.loop-r.invariant in
    (omega arith, comes_on (comes_found inv.1 (omega arith) _ (sym c.seek_next.ensures.0.0 ∙ c.in-Ready.is) (sought-left c.in-Ready.is c.seek_next.ensures.1)) inv.0 c.get_here-r.ensures.1)

pub returns-in-Ended : goal.returns-in-Ended
returns-in-Ended c =
    let e = comes_ended c.loop-r.invariant.1 (omega arith) _ (sym c.seek_next.ensures.0.0 ∙ c.in-Ended.is) in
    (c.got.ensures ∙ sym (ap (λ o. o.got) e), sym (ap (λ o. o.buffer) e))

pub returns-in-Broken : goal.returns-in-Broken
returns-in-Broken c =
    let e = comes_broken c.loop-r.invariant.1 (omega arith) _ (sym c.seek_next.ensures.0.0 ∙ c.in-Broken.is) in
    (c.got-in-Broken.ensures ∙ sym (ap (λ o. o.got) e), sym (ap (λ o. o.buffer) e))

pub returns : goal.returns
returns c = let e = comes_all c.loop-r.invariant.1 (omega arith) in
    (c.got-2.ensures ∙ sym (ap (λ o. o.got) e), sym (ap (λ o. o.buffer) e))
