use Rattle.rules.specs.declared.Added.{Added}
use Rattle.layout.specs.File.{ends_line}
use Rattle.layout.specs.Image.{geometry_of, view}
use Rattle.layout.proofs.Search.{first-most}
use Rattle.rules.specs.Put.{put_from}
use Rattle.puts.proofs.Sent.{line_end}
use Rattle.puts.proofs.Behind.{put_sane}
use Rattle.puts.proofs.Whole.{line-ends, line-full, line_own}
use lib.ListN.{length, get_or, take}
use lib.Seq.{take_all}
use mathlib.Core.Logic.{◌≢◌}
use mathlib.Core.Path.{◌≡◌, sym, ap, ◌∙◌}
use Rattle.std.proofs.Common.{rules}
use Prim.Native.Nat.{◌+◌}
use native.Mathlib.Omega.{arith}
use Rattle.puts.proofs.record.put_line.Goals as goal

pub overflow_add-end : goal.overflow_add-end
overflow_add-end c = let b = c.args.buffer.now in let most = first-most (ends_line (λ j. get_or b j 0)) (length b) 0 in omega arith

pub returns-then-end-n : goal.returns-then-end-n
returns-then-end-n c =
    let a = c.args in
    let b = a.buffer.now in
    let g = geometry_of a.m in
    let d = view g a.image.now in
    let found = c.first_end-end.ensures in
    let e : c.min-line.result ≡ line_end b + 1 = omega arith in
    let q = ap (λ k. put_from g (take k b) d a.slot a.last 0) e in
    let t = line-ends g a.slot b d a.last (omega arith) in
    (c.put_some-a.ensures.0 ∙ ap (λ o. o.added) q ∙ t.0, c.put_some-a.ensures.1 ∙ ap (λ o. o.disk) q ∙ t.1)

pub returns-then-ne : goal.returns-then-ne
returns-then-ne c =
    let a = c.args in
    let b = a.buffer.now in
    let g = geometry_of a.m in
    let d = view g a.image.now in
    let found = c.first_end-end.ensures in
    let put = rw (take_all c.min-line.result b (omega arith)) at c.put_some-a.ensures in
    let refused : c.put_some-a.result.status ≢ 1 = search rules in
    let t = line-full g a.slot b d a.last (omega arith) (λ e. refused (ap (λ (x : Added). x.status) put.0 ∙ e)) in
    (put.0 ∙ t.0, put.1 ∙ t.1)

pub put_end-requires : goal.put_end-requires
put_end-requires c =
    let a = c.args in
    let b = a.buffer.now in
    let g = geometry_of a.m in
    let d = view g a.image.now in
    let put = rw (take_all c.min-line.result b (omega arith)) at c.put_some-a.ensures in
    let sane = put_sane g a.slot b d a.last 0 (record { table = c.requires.3; last = c.requires.2 }) in
    (omega arith, c.requires.1, rw put.0 sane.last, rw put.1 sane.table)

pub returns : goal.returns
returns c =
    let a = c.args in
    let b = a.buffer.now in
    let g = geometry_of a.m in
    let d = view g a.image.now in
    let found = c.first_end-end.ensures in
    let put = rw (take_all c.min-line.result b (omega arith)) at c.put_some-a.ensures in
    let whole : c.put_some-a.result.status ≡ 1 = search rules in
    let t = line_own g a.slot b d a.last (omega arith) (ap (λ (x : Added). x.status) (sym put.0) ∙ whole) in
    let end = rw (put.0, put.1) at c.put_end.ensures in
    (end.0 ∙ t.0, end.1 ∙ t.1)
