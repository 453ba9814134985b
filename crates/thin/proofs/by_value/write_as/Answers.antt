use Rattle.layout.proofs.Image.{lawful, image_of_lem}
use Rattle.rules.specs.Thin.{ImagePutOutcome, write_lent}
use mathlib.Core.Path.{refl, sym, ◌∙◌}
use Rattle.layout.proofs.Check.{served_as_lem, served_not}
use Rattle.layout.proofs.Header.{served_whole}
use borrow.Author.Rules.{rules}
use Rattle.thin.proofs.by_value.write_as.Goals as goal

pub put_as-requires : goal.put_as-requires
put_as-requires c = served_whole _ _ (sym c.served_as.ensures.0 ∙ c.in-Ok.is)

pub returns-in-Ok : goal.returns-in-Ok
unfolding write_lent
returns-in-Ok c =
    let q = sym c.served_as.ensures.0 ∙ c.in-Ok.is in
    let put = c.put_as.ensures in
    rw (served_as_lem {A = ImagePutOutcome} _ _ _ q) (put.0, image_of_lem _ (lawful _ (served_whole _ _ q).0) _ _ _ (search rules) put.1)

pub returns-in-Err : goal.returns-in-Err
unfolding write_lent
returns-in-Err c = rw (served_not {A = ImagePutOutcome} _ _ _ (sym c.served_as.ensures.0 ∙ c.in-Err.is)) (c.refused.ensures, refl)
