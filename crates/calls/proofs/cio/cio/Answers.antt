use mathlib.Core.Path.{refl, sym, ◌∙◌}
use borrow.Author.Rules.{rules}
use Rattle.layout.proofs.Image.{lawful, image_of_lem}
use Rattle.layout.proofs.Header.{served_whole}
use Rattle.calls.proofs.Served.{call_served, call_refused}
use Rattle.calls.proofs.cio.cio.Goals as goal

pub serve-requires : goal.serve-requires
serve-requires c = served_whole _ _ (sym c.served_as.ensures.0 ∙ c.in-Ok.is)

pub returns-in-Ok : goal.returns-in-Ok
returns-in-Ok c =
    let q = sym c.served_as.ensures.0 ∙ c.in-Ok.is in
    let r = c.serve.ensures in
    rw (call_served _ _ _ _ _ q) (r.0, image_of_lem _ (lawful _ (served_whole _ _ q).0) _ _ _ (search rules) r.1, r.2)

pub returns-in-Err : goal.returns-in-Err
returns-in-Err c = rw (call_refused _ _ _ _ _ (sym c.served_as.ensures.0 ∙ c.in-Err.is)) (c.answer.ensures, refl, refl)
