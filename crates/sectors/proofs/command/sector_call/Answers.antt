use mathlib.Core.Bool.{not}
use mathlib.Core.Path.{◌≡◌, sym, ap, ◌∙◌}
use lib.Dec.{eqb}
use borrow.Author.Tests.{eqb-true}
use Rattle.rules.specs.Sectors.{SectorOutcome, ImageSectorOutcome, sector, sector_call}
use Rattle.layout.proofs.Logic.{and_left, and_right}
use Rattle.layout.proofs.Image.{lawful, image_of_lem}
use Rattle.layout.proofs.Check.{check_yes, served_as_lem, served_not}
use Rattle.layout.proofs.Header.{served_whole}
use borrow.Author.Rules.{rules}
use Rattle.sectors.proofs.command.sector_call.Goals as goal

pub returns-then-not-named : goal.returns-then-not-named
unfolding sector_call sector
returns-then-not-named c =
    let q = sym c.served_as.ensures.0 ∙ c.in-Ok.is in
    let e = served_as_lem {A = ImageSectorOutcome} _ _ _ q in
    let d = check_yes {A = SectorOutcome} _ _ _ (ap not c.if-not-named.true) in
    (c.reply.ensures ∙ ap (λ o. o.reply) (sym d) ∙ ap (λ o. o.reply) (sym e), image_of_lem _ (lawful _ (served_whole _ _ q).0) _ _ _ (search rules) (ap (λ o. o.disk) (sym d)) ∙ ap (λ o. o.image) (sym e), ap (λ o. o.buffer) (sym d) ∙ ap (λ o. o.buffer) (sym e))

pub serve-requires : goal.serve-requires
serve-requires c = served_whole _ _ (sym c.served_as.ensures.0 ∙ c.in-Ok.is)

pub returns-else-not-named : goal.returns-else-not-named
unfolding sector_call
returns-else-not-named c =
    let a = c.args in
    let named = c.if-not-named.false in
    let device : a.device ≡ 0x31 = eqb-true a.device 0x31 (and_left (eqb a.device 0x31) (eqb a.unit 1) named) in
    let unit : a.unit ≡ 1 = eqb-true a.unit 1 (and_right (eqb a.device 0x31) (eqb a.unit 1) named) in
    let q = sym c.served_as.ensures.0 ∙ c.in-Ok.is in
    let e = served_as_lem {A = ImageSectorOutcome} _ _ _ q in
    let o = c.serve.ensures in
    rw (device, unit) (o.0 ∙ ap (λ o. o.reply) (sym e), image_of_lem _ (lawful _ (served_whole _ _ q).0) _ _ _ (search rules) o.1 ∙ ap (λ o. o.image) (sym e), o.2 ∙ ap (λ o. o.buffer) (sym e))

pub returns-in-Err : goal.returns-in-Err
unfolding sector_call
returns-in-Err c =
    let e = served_not {A = ImageSectorOutcome} _ _ _ (sym c.served_as.ensures.0 ∙ c.in-Err.is) in
    (c.reply-in-Err.ensures ∙ ap (λ o. o.reply) (sym e), ap (λ o. o.image) (sym e), ap (λ o. o.buffer) (sym e))
