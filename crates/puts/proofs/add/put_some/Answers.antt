use Rattle.puts.proofs.Adding.{put_some}
use Rattle.layout.specs.Image.{geometry_of, view}
use Rattle.layout.proofs.Data.{data_facts}
use mathlib.Core.Path.{sym, ap, ◌∙◌}
use native.Mathlib.Omega.{arith}
use Rattle.puts.proofs.add.put_some.Goals as goal

pub returns-then-had-n : goal.returns-then-had-n
returns-then-had-n c =
    let q = data_facts _ c.requires.2 in
    let g = geometry_of c.args.m in
    let e = put_some g c.args.slot c.args.buffer.now (view g c.args.image.now) c.args.last (λ z. omega arith) (omega arith) in
    (c.added.ensures ∙ ap (λ o. o.added) (sym e), c.add_run.ensures ∙ ap (λ o. o.disk) (sym e))
