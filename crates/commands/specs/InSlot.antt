-- The slot of a target is one of the 64.
use Rattle.std.specs.Prelude.{ℕ, ◌<◌, Result, Ok, Err}
use Rattle.rules.specs.declared.Unfound.{Unfound}

abbrev pub InSlot : Result ℕ Unfound → Type 0
InSlot (Ok s) = s < 64
InSlot (Err u) = Unit {0}
