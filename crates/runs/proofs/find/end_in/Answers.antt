use Rattle.layout.specs.Basics.{first_from}
use Rattle.layout.specs.Image.{geometry_of, view}
use Rattle.layout.specs.File.{ends_line}
use Rattle.runs.proofs.Ends.{first-within}
use mathlib.Core.Path.{◌≡◌, ◌∙◌}
use Prim.Native.Nat.{◌+◌}
use native.Mathlib.Omega.{arith}
use Rattle.runs.proofs.find.end_in.Goals as goal

-- what is found in the image is behind the sector's start
found : (c : goal.After-first_end) → let a = c.args in c.first_end.result ≡ c.start-first.result + first_from (ends_line (view (geometry_of a.m) a.image.now a.sector)) a.n a.place
found c = let a = c.args in c.first_end.ensures ∙ rw c.start-first.ensures.0 (first-within (geometry_of a.m) a.image.now a.sector a.n a.place (omega arith))

pub overflow_sub-result : goal.overflow_sub-result
overflow_sub-result c = let e = found c in omega arith

pub returns : goal.returns
returns c = let e = found c in omega arith
