use Rattle.gets.proofs.Getting.{read_same, gets_at_hand}
use Rattle.gets.proofs.Seeking.{hand_facts}
use Rattle.gets.proofs.Ending.{got_entered, told_all}
use Rattle.gets.specs.Entered.{told_end}
use Rattle.layout.proofs.Image.{lawful}
use mathlib.Core.Path.{sym, ap, ◌∙◌}
use native.Mathlib.Omega.{arith}
use Rattle.gets.proofs.get.get_some.Goals as goal

pub past-end-requires : goal.past-end-requires
past-end-requires c = let here = hand_facts _ _ _ _ _ c.step_in-near.ensures.0 (sym c.at_hand.ensures ∙ c.if-at_hand.true) in let regular = c.requires.0.0 in omega arith

pub get_run-requires : goal.get_run-requires
get_run-requires c =
    let here = hand_facts _ _ _ _ _ c.step_in-near.ensures.0 (sym c.at_hand.ensures ∙ c.if-at_hand.true) in
    let most = c.step_in-near.ensures.0.most in
    let size = (lawful _ c.requires.0.0).whole _ here.0 in omega arith

pub returns-then-at_hand : goal.returns-then-at_hand
returns-then-at_hand c =
    let near = c.step_in-near.ensures in
    let same = read_same _ _ _ _ _ _ _ _ c.args.buffer.now c.requires.2 near.1 in
    let e = same ∙ gets_at_hand _ _ _ _ _ _ near.0 (sym c.at_hand.ensures ∙ c.if-at_hand.true) _ c.get_run.ensures in
    let status = c.or_end_reached-status.ensures c.args.slot c.args.buffer.now (λ z. omega (arith, c.requires.2)) in
    (c.got.ensures ∙ rw c.past-end.ensures (told_all _ _ _ _ e (rw c.past-end.ensures at status)), ap (λ r. r.buffer) (sym e))

pub told-requires : goal.told-requires
told-requires c =
    let e = got_entered _ _ _ c.step_in-near.result c.args.buffer.now c.get_from.ensures.0 c.step_in-near.ensures.0 in
    (omega arith, e.most, e.least)

pub returns : goal.returns
returns c =
    let e = read_same _ _ _ _ _ _ _ _ c.args.buffer.now c.requires.2 c.step_in-near.ensures.1 in
    let from = c.get_from.ensures in
    (c.told.ensures _ _ (λ z. omega (arith, c.requires.2)) ∙ ap (told_end _ _ _ _) (from.0 ∙ ap (λ r. r.got) (sym e)), from.1 ∙ ap (λ r. r.buffer) (sym e))
