use mathlib.Core.Path.{sym, ◌∙◌}
use native.Mathlib.Omega.{arith}
use Rattle.layout.proofs.Tells.{tells_served}
use Rattle.media.proofs.Headers.{is_raw_lem, is_single_lem, is_double_lem, no_length}
use Rattle.media.proofs.served_as.Goals as goal

pub returns-then-n-eq-RAW_BYTES : goal.returns-then-n-eq-RAW_BYTES
returns-then-n-eq-RAW_BYTES c = let e = is_raw_lem c.args.image.now (omega arith) in let d = c.single-density.ensures in tells_served (cc)

pub returns-then-n-eq-SINGLE_ATR_BYTES : goal.returns-then-n-eq-SINGLE_ATR_BYTES
returns-then-n-eq-SINGLE_ATR_BYTES c = tells_served ((rw c.single.ensures at c.served_atr.ensures) ∙ sym (is_single_lem _ (omega arith)))

pub returns-then-n-eq-DOUBLE_ATR_BYTES : goal.returns-then-n-eq-DOUBLE_ATR_BYTES
returns-then-n-eq-DOUBLE_ATR_BYTES c = tells_served ((rw c.double.ensures at c.served_atr-then-n-eq-DOUBLE_ATR_BYTES.ensures) ∙ sym (is_double_lem _ (omega arith)))

pub returns : goal.returns
returns c = tells_served (sym (no_length _ (λ e. omega arith) (λ e. omega arith) (λ e. omega arith)))
