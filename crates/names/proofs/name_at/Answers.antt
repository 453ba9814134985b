use native.Mathlib.Omega.{arith}
use mathlib.Core.Bool.{true}
use mathlib.Core.Path.{◌≡◌}
use Rattle.layout.specs.Names.{char, letter, name_at}
use Rattle.layout.proofs.Logic.{and_left}
use Rattle.names.proofs.Inside.{name_inside, whole_inside, formed}
use Rattle.names.proofs.name_at.Goals as goal

pub returns-then-not-well_formed : goal.returns-then-not-well_formed
unfolding name_at
returns-then-not-well_formed g c = λ p t.
    rw (formed c.args.text.now p c.args.i c.char.ensures c.letter.ensures c.whole_end-w.ensures.0 c.char-2.ensures (t _ _ (omega arith) c.ends.ensures) c.if-not-well_formed.true) c.refused.ensures

pub name_word-requires : goal.name_word-requires
name_word-requires g c =
    let l = and_left c.letter.result c.ends.result c.if-not-well_formed.false in
    let e : letter (char c.args.text.now c.args.i) ≡ true = cc in
    let h = name_inside c.args.text.now c.args.i e in
    omega arith

pub extension_word-requires : goal.extension_word-requires
extension_word-requires g c =
    let l = and_left c.letter.result c.ends.result c.if-not-well_formed.false in
    let e : letter (char c.args.text.now c.args.i) ≡ true = cc in
    let h = whole_inside c.args.text.now c.args.i e in
    omega arith

pub returns : goal.returns
unfolding name_at
returns g c = λ p t.
    rw (formed c.args.text.now p c.args.i c.char.ensures c.letter.ensures c.whole_end-w.ensures.0 c.char-2.ensures (t _ _ (omega arith) c.ends.ensures) c.if-not-well_formed.false) (cc)
