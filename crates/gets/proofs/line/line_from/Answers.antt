use Rattle.gets.proofs.Getting.{comes_all, comes_ended, comes_broken}
use Rattle.gets.proofs.Lining.{line_open, line-ended}
use Rattle.gets.proofs.Seeking.{sought-left}
use Rattle.layout.proofs.Image.{lawful}
use native.Mathlib.Omega.{arith}
use mathlib.Core.Path.{sym, ◌∙◌, ap}
use Rattle.gets.proofs.line.line_from.Goals as goal

pub keep_run-requires : goal.keep_run-requires
keep_run-requires c =
    let pre = c.requires in
    let byte = (sought-left c.in-Ready.is c.seek_next.ensures.1) in
    let size = (lawful _ pre.0.0).whole c.in-Ready.q.sector byte.low in
    let small = byte.small in
    let part = c.line_in-part.ensures in
    let within = part.1.within in
    let same = c.loop-i.invariant.0 in
    (pre.0, byte.low, byte.high, omega arith, λ h. let room = pre.2 (omega arith) in omega arith)

pub returns-then-part : goal.returns-then-part
returns-then-part c =
    let inv = c.loop-i.invariant in
    let part = c.line_in-part.ensures in
    let seek = sym c.seek_next.ensures.0.0 ∙ c.in-Ready.is in
    let e = line-ended inv.1 (omega arith) _ seek (sought-left c.in-Ready.is c.seek_next.ensures.1) _ part.0 part.1 _ c.past-p.ensures _ c.keep_run.ensures c.if-part.true in
    let told = ap (λ o. o.status) c.got.ensures in
    (c.got.ensures ∙ sym (ap (λ o. o.got) e), sym (ap (λ o. o.buffer) e), λ h. absurd (omega arith))

pub loop-i-preserved : goal.loop-i-preserved
loop-i-preserved c =
    let inv = c.loop-i.invariant in
    let part = c.line_in-part.ensures in
    let seek = sym c.seek_next.ensures.0.0 ∙ c.in-Ready.is in
    (omega arith, line_open inv.1 (omega arith) _ seek (sought-left c.in-Ready.is c.seek_next.ensures.1) _ part.0 part.1 _ c.past-p.ensures _ c.keep_run.ensures c.if-part.false)

pub returns-in-Ended : goal.returns-in-Ended
returns-in-Ended c =
    let e = comes_ended c.loop-i.invariant.1 (omega arith) _ (sym c.seek_next.ensures.0.0 ∙ c.in-Ended.is) in
    let told = ap (λ o. o.status) c.got-in-Ended.ensures in
    (c.got-in-Ended.ensures ∙ sym (ap (λ o. o.got) e), sym (ap (λ o. o.buffer) e), λ h. absurd (omega arith))

pub returns-in-Broken : goal.returns-in-Broken
returns-in-Broken c =
    let e = comes_broken c.loop-i.invariant.1 (omega arith) _ (sym c.seek_next.ensures.0.0 ∙ c.in-Broken.is) in
    let told = ap (λ o. o.status) c.got-in-Broken.ensures in
    (c.got-in-Broken.ensures ∙ sym (ap (λ o. o.got) e), sym (ap (λ o. o.buffer) e), λ h. absurd (omega arith))

pub returns : goal.returns
returns c =
    let inv = c.loop-i.invariant.1 in
    let e = comes_all inv (omega arith) in
    (c.got-2.ensures ∙ sym (ap (λ o. o.got) e), sym (ap (λ o. o.buffer) e), λ _. rw c.got-2.ensures inv.entered)
