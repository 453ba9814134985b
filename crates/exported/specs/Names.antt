-- What C sees of request P5: where dos_name succeeds its count (dos_answer_count) is the place of the first ending byte; otherwise it is 0.
use Rattle.std.specs.Prelude.{List, ◌≡◌, ℕ, ◌/◌, ◌%◌}
use Rattle.layout.specs.Status.{Succeeds, Fails}
use Rattle.capi.specs.Leaves.{name_leaves}
use Rattle.theory.specs.ReadNames.{FirstEnding}

-- any text and any lent bytes, malformed ones too
pub record NamePlaces : Type 0 where
  pub place : (text b : List ℕ) → let r = (name_leaves text b).result in Succeeds (r % 256) → FirstEnding text (r / 256)
  pub none : (text b : List ℕ) → let r = (name_leaves text b).result in Fails (r % 256) → r / 256 ≡ 0
