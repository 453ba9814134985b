use mathlib.Core.Path.{sym, ap, ◌∙◌}
use Rattle.rules.specs.Recovery.{Recovered, ImageRecovered, recover, recover_call}
use Rattle.layout.proofs.Image.{lawful, image_of_lem}
use Rattle.layout.proofs.Check.{check_yes, served_as_lem, served_not}
use Rattle.layout.proofs.Header.{served_whole}
use borrow.Author.Rules.{rules}
use Rattle.recovery.proofs.recover.Goals as goal

pub returns-then-protected : goal.returns-then-protected
unfolding recover_call recover
returns-then-protected c =
    let q = sym c.served_as.ensures.0 ∙ c.in-Ok.is in
    let e = served_as_lem {A = ImageRecovered} _ _ _ q in
    let d = check_yes {A = Recovered} _ _ _ c.if-protected.true in
    (c.reply.ensures ∙ ap (λ o. o.reply) (sym d) ∙ ap (λ o. o.reply) (sym e), image_of_lem _ (lawful _ (served_whole _ _ q).0) _ _ _ (search rules) (ap (λ o. o.disk) (sym d)) ∙ ap (λ o. o.image) (sym e))

pub recover_slot-requires : goal.recover_slot-requires
recover_slot-requires c = served_whole _ _ (sym c.served_as.ensures.0 ∙ c.in-Ok.is)

pub returns-else-protected : goal.returns-else-protected
unfolding recover_call
returns-else-protected c =
    let q = sym c.served_as.ensures.0 ∙ c.in-Ok.is in
    let e = served_as_lem {A = ImageRecovered} _ _ _ q in
    let o = c.recover_slot.ensures in
    rw c.if-protected.false (o.0 ∙ ap (λ o. o.reply) (sym e), image_of_lem _ (lawful _ (served_whole _ _ q).0) _ _ _ (search rules) o.1 ∙ ap (λ o. o.image) (sym e))

pub returns-in-Err : goal.returns-in-Err
unfolding recover_call
returns-in-Err c =
    let e = served_not {A = ImageRecovered} _ _ _ (sym c.served_as.ensures.0 ∙ c.in-Err.is) in
    (c.reply-in-Err.ensures ∙ ap (λ o. o.reply) (sym e), ap (λ o. o.image) (sym e))
