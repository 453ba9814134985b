-- The highest bit of a byte that is one.
use Rattle.std.specs.Prelude.{◌≡◌, true, false, ℕ, ◌-◌, ◌<◌}
use Rattle.layout.specs.Volume.{is_set}

-- bit 7 - z is one, and those above it are zero
pub record Highest (v z : ℕ) : Type 0 where
  pub low : z < 8
  pub here : is_set v (7 - z) ≡ true
  pub above : (i : ℕ) → i < z → is_set v (7 - i) ≡ false
