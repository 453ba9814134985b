-- What a get record knows of a line's bytes in one sector.
use Rattle.std.specs.Prelude.{Bool, false, ◌≡◌, ℕ, ◌+◌, ◌-◌, ◌≤◌, ◌<◌}
use Rattle.layout.specs.Image.{Disk, Geometry}
use Rattle.layout.specs.File.{ends_line, in_use}
use Rattle.rules.specs.declared.Place.{Place}

-- n bytes of the entered sector are of one line: none before the last ends it, and the last does or does not
pub record InLine (g : Geometry) (d : Disk) (p : Place) (n : ℕ) (ended : Bool) : Type 0 where
  pub some : 0 < n
  pub within : p.offset + n ≤ in_use g (d p.sector)
  pub others : (j : ℕ) → j + 1 < n → ends_line (d p.sector) (p.offset + j) ≡ false
  pub last : ends_line (d p.sector) (p.offset + (n - 1)) ≡ ended
