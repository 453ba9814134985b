-- What a put or a put record tells of the bytes that it added.
use Rattle.std.specs.Prelude.{List, ℕ}
use Rattle.rules.specs.declared.Added.{Added}
use Rattle.rules.specs.declared.Form.{Form}
use Rattle.rules.specs.Put.{reported}

-- what adding them left, with only the bytes of the buffer b counted
abbrev pub told : Form → List ℕ → Added → Added
told f b a = record { status = a.status; count = reported f b a.count; last = a.last }
