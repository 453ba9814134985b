use Rattle.rules.proofs.Showing.{enters_true, start_yes, start-no, length_yes, length_no}
use Rattle.rules.specs.Showing.{shown_start, shown_length}
use native.Mathlib.Omega.{arith}
use mathlib.Core.Path.{sym, ◌∙◌}
use Rattle.layout.proofs.Check.{served_not}
use Rattle.layout.proofs.Header.{served_whole}
use Rattle.sectors.proofs.show.shown_part.Goals as goal

pub returns-in_default : goal.returns-in_default
unfolding shown_start shown_length
returns-in_default c = let q = sym c.served_as.ensures.0 ∙ c.in_default.is in (sym (served_not _ _ _ q), sym (served_not _ _ _ q))

pub enters-requires : goal.enters-requires
enters-requires c = served_whole _ _ (sym c.served_as.ensures.0 ∙ c.in-Ok.is)

pub returns-then-not-enters : goal.returns-then-not-enters
returns-then-not-enters c =
    let q = sym c.served_as.ensures.0 ∙ c.in-Ok.is in
    let no = sym c.enters.ensures ∙ c.if-not-enters.true in
    (sym (start-no _ _ _ _ q no), sym (length_no _ _ _ _ q no))

pub start-requires : goal.start-requires
start-requires c =
    let w = served_whole _ _ (sym c.served_as.ensures.0 ∙ c.in-Ok.is) in
    let t = enters_true _ _ _ _ (sym c.enters.ensures ∙ c.if-not-enters.false) in omega arith

pub in_use-requires : goal.in_use-requires
in_use-requires c =
    let w = served_whole _ _ (sym c.served_as.ensures.0 ∙ c.in-Ok.is) in
    let t = enters_true _ _ _ _ (sym c.enters.ensures ∙ c.if-not-enters.false) in omega arith

pub returns : goal.returns
returns c =
    let q = sym c.served_as.ensures.0 ∙ c.in-Ok.is in
    let yes = sym c.enters.ensures ∙ c.if-not-enters.false in
    (c.start.ensures.0 ∙ sym (start_yes _ _ _ _ q yes), c.in_use.ensures ∙ sym (length_yes _ _ _ _ q yes))
