use mathlib.Core.Bool.{not}
use mathlib.Core.List.{List}
use mathlib.Core.Path.{◌≡◌, sym, ap, ◌∙◌}
use Prim.Native.Nat.{ℕ, ◌≤◌}
use lib.ListN.{length}
use native.Mathlib.Omega.{arith}
use borrow.Author.Tests.{eq-eqb, ne_eqb}
use Rattle.std.specs.Prelude.{Result}
use Rattle.layout.specs.declared.FileName.{FileName}
use Rattle.layout.specs.declared.Parsed.{Parsed}
use Rattle.layout.specs.Names.{parse_name}
use Rattle.layout.proofs.Check.{check_yes, check_no}
use Rattle.capi.proofs.Few.{name-few}
use Rattle.capi.proofs.Filling.{values_over}
use Rattle.capi.specs.Leaves.{NameLeaves, name_in, name_leaves}
use Rattle.capi.proofs.dos_name.Goals as goal

-- with eleven bytes lent the call leaves what the parsed name says, by the name's case
leaves : (name eleven : List ℕ) (p : Parsed) {n : Result FileName ℕ} → length eleven ≡ 11 → p ≡ parse_name name → p.name ≡ n → name_leaves name eleven ≡ name_in eleven (record { name = n; place = p.place })
unfolding name_leaves
leaves name b p l e n =
    check_no {A = NameLeaves} _ _ _ (ap not (eq-eqb _ _ l)) ∙ ap (name_in b) (sym e) ∙ ap (λ (x : Result FileName ℕ). name_in b (record { name = x; place = p.place })) n

pub returns-then-eleven-ne11 : goal.returns-then-eleven-ne11
unfolding name_leaves
returns-then-eleven-ne11 c = let e = check_yes {A = NameLeaves} _ _ _ (ap not (ne_eqb _ _ c.if-eleven-ne11.true)) in (ap (λ o. o.result) (sym e), ap (λ o. o.eleven) (sym e))

pub pack-requires : goal.pack-requires
pack-requires c = let h : c.parse_name-p.result.place ≤ 15 = rw c.parse_name-p.ensures.0 (name-few c.args.name.now) in omega arith

pub pack-requires-in-Err : goal.pack-requires-in-Err
pack-requires-in-Err c = let h : c.parse_name-p.result.place ≤ 15 = rw c.parse_name-p.ensures.0 (name-few c.args.name.now) in omega arith

pub returns-in-Ok : goal.returns-in-Ok
returns-in-Ok c =
    let e = leaves c.args.name.now c.args.eleven.now c.parse_name-p.result c.if-eleven-ne11.false c.parse_name-p.ensures.0 c.in-Ok.is in
    (c.pack.ensures ∙ ap (λ o. o.result) (sym e), c.write_eleven.ensures ∙ sym (values_over _ 11 _ c.if-eleven-ne11.false) ∙ ap (λ o. o.eleven) (sym e))

pub returns-in-Err : goal.returns-in-Err
returns-in-Err c =
    let e = leaves c.args.name.now c.args.eleven.now c.parse_name-p.result c.if-eleven-ne11.false c.parse_name-p.ensures.0 c.in-Err.is in
    (c.pack-in-Err.ensures ∙ ap (λ o. o.result) (sym e), ap (λ o. o.eleven) (sym e))
