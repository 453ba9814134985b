use Rattle.layout.proofs.Image.{lawful}
use Rattle.layout.specs.Image.{geometry_of, view}
use Rattle.runs.proofs.Runs.{view_sets}
use mathlib.Core.Path.{ap, ◌∙◌}
use native.Mathlib.Omega.{arith}
use Rattle.runs.proofs.run.write_run.Goals as goal

pub returns : goal.returns
returns c = let a = c.args in
    let s = c.start.ensures in
    let w = lawful a.m c.requires.0.0 in
    ap (view (geometry_of a.m)) c.copy.ensures ∙ rw s.0 (view_sets _ w _ _ a.sector a.place (λ i h. omega arith) (omega arith))
