use Rattle.std.proofs.Common.{rules, refl, ◌∙◌}
use borrow.Author.Tests.{tests}
use native.Mathlib.Nat.{sub-zero}
use Rattle.std.proofs.lemmas.Iterator.{YieldsList-from_range}
use Rattle.std.proofs.lemmas.Iterator.Search.{all_from_yields_List}
use Rattle.layout.specs.Image.{geometry_of, view}
use Rattle.layout.specs.Directory.{nonzero, reached}
use Rattle.directory.proofs.Ranges.{all_range}
use Rattle.directory.proofs.flags.reached.Goals as goal

pub returns : goal.returns
unfolding reached
returns c = let a = c.args in
    let p = nonzero (view (geometry_of a.m) a.image.now) in
    all_from_yields_List p _ _ c.all.result c.all.ensures.ran (YieldsList-from_range 0 a.slot a.slot refl (sub-zero _)) (λ x b q k. search (rules, tests)) ∙ all_range p a.slot
