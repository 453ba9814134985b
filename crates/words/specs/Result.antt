-- The result of a call in one u64.
use Rattle.std.specs.Prelude.{ℕ, ◌+◌, ◌*◌}

-- status + 256 * count
abbrev pub result_of : ℕ → ℕ → ℕ
result_of status count = status + 256 * count

-- a table or a record that is malformed answers 255 with count 0
abbrev pub malformed : ℕ
malformed = 255
