-- The bytes that a put or a put record sends, and those that it reports.
use mathlib.Core.List.{List, [], ◌∷◌}
use mathlib.Core.Logic.{◌≢◌}
use mathlib.Core.Path.{◌≡◌, refl}
use Prim.Native.Nat.{ℕ}
use native.Mathlib.Omega.{arith}
use lib.ListN.{length}
use Rattle.layout.specs.Basics.{through}
use Rattle.rules.specs.declared.Form.{Form}
use Rattle.rules.specs.declared.Form.TheVariants.{Characters, Record}
use Rattle.rules.specs.Put.{sent, reported}

-- a put record sends at least one
pub sent_some : (b : List ℕ) → length (sent Record b) ≢ 0
unfolding through
sent_some [] e = omega arith
sent_some (x ∷ b) e = omega arith

-- of no bytes none are reported
pub none-reported : (f : Form) (b : List ℕ) → reported f b 0 ≡ 0
none-reported Characters b = refl
none-reported Record b = omega arith
