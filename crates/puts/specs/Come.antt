-- How far a put has come.
use Rattle.std.specs.Prelude.{List, ◌≡◌, ℕ, ◌≤◌, length, drop}
use Rattle.layout.specs.Image.{Disk, Geometry}
use Rattle.rules.specs.Put.{Adds, put_from}

-- the same answer and disk, whatever was given out before
abbrev pub Same : Adds → Adds → Type 0
Same a o = (a.added ≡ o.added) × (a.disk ≡ o.disk)

-- a put of the bytes b: before its byte i₀, on disk d₀ with last sector p₀, it goes on as before its byte i on disk d with last sector p
pub record Puts (g : Geometry) (s : ℕ) (b : List ℕ) (d₀ : Disk) (p₀ i₀ : ℕ) (d : Disk) (p i : ℕ) : Type 0 where
  pub least : i₀ ≤ i
  pub most : i ≤ length b
  pub same : Same (put_from g (drop i₀ b) d₀ s p₀ i₀) (put_from g (drop i b) d s p i)
