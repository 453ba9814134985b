use Rattle.rules.proofs.Steps.{seek-ready, seek-ended}
use Rattle.gets.proofs.Seeking.{tells_seek, fits_entered, byte_left, seek_out, seek_not, seek-on}
use native.Mathlib.Omega.{arith}
use mathlib.Core.Path.{sym, ◌∙◌}
use Rattle.gets.proofs.seek.step.Goals as goal

pub returns-then-has_byte : goal.returns-then-has_byte
returns-then-has_byte c = let e = sym c.has_byte.ensures ∙ c.if-has_byte.true in (tells_seek (sym (seek-ready _ _ _ _ _ _ e)), byte_left _ _ _ _ _ c.requires.2 e)

pub returns-then-ends : goal.returns-then-ends
returns-then-ends c = (tells_seek (sym (seek-ended _ _ _ _ _ _ (sym c.has_byte.ensures ∙ c.if-has_byte.false) (sym c.ends.ensures ∙ c.if-ends.true))), tt)

pub returns-then-p-eq0 : goal.returns-then-p-eq0
returns-then-p-eq0 c = (tells_seek (sym (seek_out _ _ _ _ _ _ (sym c.has_byte.ensures ∙ c.if-has_byte.false) (sym c.ends.ensures ∙ c.if-ends.false) c.if-p-eq0.true)), tt)

pub returns-then-not-fits : goal.returns-then-not-fits
returns-then-not-fits c = (
  tells_seek (sym (seek_not _ _ _ _ _ _ c.next_to_enter-n.ensures _ (sym c.has_byte.ensures ∙ c.if-has_byte.false) (sym c.ends.ensures ∙ c.if-ends.false) (sym c.fits.ensures ∙ c.if-not-fits.true))),
  tt,
)

pub returns : goal.returns
returns c =
    let f = sym c.fits.ensures ∙ c.if-not-fits.false in
    (fits_entered _ _ _ _ f, omega arith, seek-on _ _ _ _ _ _ c.next_to_enter-n.ensures _ (omega arith) (sym c.has_byte.ensures ∙ c.if-has_byte.false) (sym c.ends.ensures ∙ c.if-ends.false) f)
