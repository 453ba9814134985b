use native.Mathlib.Omega.{arith}
use mathlib.Core.Path.{ap, ◌∙◌}
use Rattle.files.proofs.Given.{freed_data}
use Rattle.layout.specs.Volume.{lowest}
use Rattle.layout.proofs.Data.{data_facts}
use Rattle.files.proofs.gives.reopen.Goals as goal

pub give-requires : goal.give-requires
give-requires c =
    let d = data_facts _ (freed_data _ _ _ c.requires.2 c.requires.3) in
    let e = c.lowest_free-k.ensures ∙ ap (λ r. lowest (r 360)) c.free_chain.ensures in
    omega arith
