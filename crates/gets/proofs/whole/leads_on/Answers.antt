use Rattle.gets.proofs.Counting.{leads_test}
use Rattle.runs.proofs.Packed.{view-small}
use Rattle.layout.proofs.Data.{data_facts}
use Rattle.layout.specs.Image.{geometry_of, view}
use Prim.Native.Nat.{◌+◌}
use native.Mathlib.Omega.{arith}
use Rattle.gets.proofs.whole.leads_on.Goals as goal

pub link_at-link-requires : goal.link_at-link-requires
link_at-link-requires c = let f = data_facts _ c.requires.2 in omega arith

pub used_at-used-requires : goal.used_at-used-requires
used_at-used-requires c = let f = data_facts _ c.requires.2 in omega arith

pub overflow_add-result : goal.overflow_add-result
overflow_add-result c = let f = data_facts _ c.requires.2 in omega arith

pub overflow_add-result-2 : goal.overflow_add-result-2
overflow_add-result-2 c = let f = data_facts _ c.requires.2 in omega arith

pub returns : goal.returns
returns c =
    let a = c.args in
    let g = geometry_of a.m in
    let low = view-small g a.image.now (λ i. (c.type_inv.image i).fits) a.sector (g.room + 1) in
    rw (c.link_at-link.ensures, c.used_at-used.ensures) (leads_test g (view g a.image.now) a.slot a.sector c.requires.2 (omega arith))
