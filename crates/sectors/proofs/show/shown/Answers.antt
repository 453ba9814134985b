use mathlib.Core.Path.{refl, sym, ◌∙◌}
use native.Mathlib.Omega.{arith}
use native.Mathlib.Nat.{add_comm, add-sub_cancel_left}
use Rattle.rules.specs.Showing.{shown_part}
use Rattle.rules.proofs.Showing.{shown-none, shown-within}
use Rattle.sectors.proofs.show.shown.Goals as goal

pub returns-then-not-shows : goal.returns-then-not-shows
unfolding shown_part
returns-then-not-shows c =
    let a = c.args in
    let (s, n) = shown-none a.image.now a.slot a.sector (sym c.shows.ensures ∙ c.if-not-shows.true) in
    (rw n, refl, omega arith)

pub overflow_add-end : goal.overflow_add-end
overflow_add-end c =
    let a = c.args in
    let w = shown-within a.image.now a.slot a.sector in omega arith

pub slice_bounds-result-end-2 : goal.slice_bounds-result-end-2
slice_bounds-result-end-2 c =
    let a = c.args in
    let w = shown-within a.image.now a.slot a.sector in omega arith

pub returns : goal.returns
unfolding shown_part
returns c =
    let part = c.shown_part-p.ensures in
    (rw (add-sub_cancel_left, part.0, part.1), refl, rw part.0 (add_comm _ _))
