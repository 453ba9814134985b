use mathlib.Core.Path.{◌∙◌}
use native.Mathlib.Omega.{arith}
use Rattle.layout.specs.Basics.{check}
use Rattle.rules.specs.WriteHeader.{header_call}
use Rattle.headers.proofs.Written.{written_single, written_double}
use Rattle.headers.proofs.header_of.Goals as goal

pub returns-in-92176 : goal.returns-in-92176
returns-in-92176 c = (omega arith, λ l p e. written_single l p (e ∙ c.in-92176.is))

pub returns-in-183952 : goal.returns-in-183952
returns-in-183952 c = (omega arith, λ l p e. written_double l p (e ∙ c.in-183952.is))

pub returns-in_default : goal.returns-in_default
unfolding header_call check
returns-in_default c = λ l p e. grind arith
