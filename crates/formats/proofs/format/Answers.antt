use mathlib.Core.Path.{◌∙◌}
use Rattle.formats.proofs.Fresh.{written_all}
use Rattle.formats.proofs.format.Goals as goal

pub returns : goal.returns
returns c =
    let mapped = c in
    let counted = mapped in
    mapped.write_map.ensures ∙ rw (counted.write_counts.ensures, counted.clear.ensures) (written_all _)
