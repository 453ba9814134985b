use Rattle.layout.proofs.Image.{lawful}
use Rattle.layout.proofs.Run.{part_values}
use Rattle.layout.specs.Image.{geometry_of}
use Rattle.image.proofs.Places.{starts_within}
use lib.Seq.{sets}
use mathlib.Core.Path.{◌≡◌, ap, ◌∙◌}
use Prim.Native.Nat.{◌+◌, ◌-◌}
use native.Mathlib.Nat.{add-zero}
use native.Mathlib.Omega.{arith}
use Rattle.runs.proofs.run.get_data.Goals as goal

pub overflow_add-end : goal.overflow_add-end
overflow_add-end c = let e = c in let w = starts_within _ e.requires.0.0 _ e.requires.1 e.requires.2 in omega arith

pub slice_bounds-copy-end : goal.slice_bounds-copy-end
slice_bounds-copy-end c = let e = c in let w = starts_within _ e.requires.0.0 _ e.requires.1 e.requires.2 in omega arith

pub returns : goal.returns
returns c =
    let entry = c in
    let a = entry.args in
    let room = a.m.density.room in
    let w = starts_within _ entry.requires.0.0 _ entry.requires.1 entry.requires.2 in
    let l = (lawful _ entry.requires.0.0).whole _ entry.requires.1 in
    let e : a.start + room - a.start ≡ room = omega arith in
    let z = part_values (geometry_of a.m) room a.image.now a.sector 0 (λ i h. omega arith) (omega arith) in
    c.copy.ensures ∙ rw (e, entry.requires.3) (ap (sets a.buffer.now a.at) (rw (add-zero ((geometry_of a.m).start a.sector)) at z))
