use Rattle.capi.proofs.Shown.{not_served_lem, not_shown, shown-small, is_shown}
use Rattle.layout.proofs.Header.{served_whole}
use native.Mathlib.Omega.{arith}
use mathlib.Core.Path.{sym, ◌∙◌}
use Rattle.capi.proofs.dos_show.Goals as goal

pub returns-in_default : goal.returns-in_default
returns-in_default c = not_served_lem _ _ _ _ (sym c.served_as.ensures.0 ∙ c.in_default.is)

pub enters-requires : goal.enters-requires
enters-requires c = served_whole _ _ (sym c.served_as.ensures.0 ∙ c.in-Ok.is)

pub returns-then-not-enters : goal.returns-then-not-enters
returns-then-not-enters c = not_shown _ _ _ _ (sym c.served_as.ensures.0 ∙ c.in-Ok.is) (sym c.enters.ensures ∙ c.if-not-enters.true)

pub in_use-length-requires : goal.in_use-length-requires
in_use-length-requires c = let w = served_whole _ _ (sym c.served_as.ensures.0 ∙ c.in-Ok.is) in let h = shown-small _ _ _ _ (sym c.served_as.ensures.0 ∙ c.in-Ok.is) (sym c.enters.ensures ∙ c.if-not-enters.false) in omega arith

pub start-requires : goal.start-requires
start-requires c = let w = served_whole _ _ (sym c.served_as.ensures.0 ∙ c.in-Ok.is) in let h = shown-small _ _ _ _ (sym c.served_as.ensures.0 ∙ c.in-Ok.is) (sym c.enters.ensures ∙ c.if-not-enters.false) in omega arith

pub overflow_mul-start : goal.overflow_mul-start
overflow_mul-start c = let w = served_whole _ _ (sym c.served_as.ensures.0 ∙ c.in-Ok.is) in let h = shown-small _ _ _ _ (sym c.served_as.ensures.0 ∙ c.in-Ok.is) (sym c.enters.ensures ∙ c.if-not-enters.false) in let t = c.start.ensures.0 in omega arith

pub overflow_add-start : goal.overflow_add-start
overflow_add-start c = let w = served_whole _ _ (sym c.served_as.ensures.0 ∙ c.in-Ok.is) in let h = shown-small _ _ _ _ (sym c.served_as.ensures.0 ∙ c.in-Ok.is) (sym c.enters.ensures ∙ c.if-not-enters.false) in let u = c.in_use-length.ensures in let t = c.start.ensures.0 in omega arith

pub pack-requires : goal.pack-requires
pack-requires c = let w = served_whole _ _ (sym c.served_as.ensures.0 ∙ c.in-Ok.is) in let h = shown-small _ _ _ _ (sym c.served_as.ensures.0 ∙ c.in-Ok.is) (sym c.enters.ensures ∙ c.if-not-enters.false) in let u = c.in_use-length.ensures in let t = c.start.ensures.0 in omega arith

pub returns : goal.returns
returns c = c.pack.ensures ∙ rw (c.start.ensures.0, c.in_use-length.ensures) (is_shown _ _ _ _ (sym c.served_as.ensures.0 ∙ c.in-Ok.is) (sym c.enters.ensures ∙ c.if-not-enters.false))
