-- Which byte ends a name: a test that the caller hands over.
use Rattle.std.specs.Prelude.{Bool, ℕ, ◌≡◌, ◌<◌, ◌^◌}

-- what the calls of a test give is what p says of each byte
abbrev pub Tests : (ℕ → Bool → Type 0) → (ℕ → Bool) → Type 0
Tests gives p = (x : ℕ) (b : Bool) → x < 2 ^ 16 → gives x b → b ≡ p x
