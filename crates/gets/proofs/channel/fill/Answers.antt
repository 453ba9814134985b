use native.Mathlib.Omega.{arith}
use Rattle.rules.specs.declared.Form.TheVariants.{Record}
use Rattle.gets.proofs.Ending.{filled_entered}
use Rattle.gets.proofs.channel.fill.Goals as goal

pub told-requires : goal.told-requires
told-requires c =
    let e = filled_entered _ _ _ _ _ Record c.fill_line.ensures.0 c.requires.3 in
    (omega arith, e.most, e.least)
