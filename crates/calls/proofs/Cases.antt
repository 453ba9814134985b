-- A command of another case than the first is neither a get nor a put.
use mathlib.Core.Bool.{false}
use mathlib.Core.Path.{◌≡◌, refl}
use Rattle.rules.specs.declared.Transfer.{Transfer}
use Rattle.rules.specs.declared.Command.{Command}
use Rattle.rules.specs.declared.Command.TheVariants.{Moves, Close, Files, Unlisted}
use Rattle.rules.specs.Cio.{is_get, is_put}

pub stays : (k : Command) → ((w : Transfer) → k ≡ Moves w → ⊥) → (is_get k ≡ false) × (is_put k ≡ false)
stays (Moves w) h = absurd (h w refl)
stays Close h = (refl, refl)
stays (Files k) h = (refl, refl)
stays (Unlisted n) h = (refl, refl)
