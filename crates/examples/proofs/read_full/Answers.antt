-- What was read stands behind what the buffer had, and the input has lost both.
use Rattle.std.proofs.Common.{◌≡◌, ℕ, ◌+◌, ◌-◌, ◌≤◌, List, ◌++◌, rules, length, take, sym, ap, ◌∙◌, subst, length-take-le}
use Rattle.std.proofs.lemmas.List.{take-append-le}
use Rattle.std.proofs.Math.Seq.{take-append-add}
use Rattle.std.proofs.KnownBytes.{Consumes-trans}
use Rattle.std.specs.Io.KnownBytes.{Consumes}
use borrow.Rule.Slice.PartMut.{put_mid, post_of}
use Rattle.examples.proofs.read_full.Goals as goal

filled : (d k n : ℕ) (xs ys : List ℕ) → d ≤ length xs → n ≤ length ys → take (d + n) (put_mid d k xs ys) ≡ take d xs ++ take n ys
filled d k n xs ys within fits =
    let after = post_of d k xs in
    subst (λ m. take (m + n) (put_mid d k xs ys) ≡ take d xs ++ take n ys) (length-take-le d xs within)
    (take-append-add (take d xs) (ys ++ after) n ∙ ap (λ s. take d xs ++ s) (take-append-le n ys after fits))

pub loop-done-preserved : goal.loop-done-preserved
loop-done-preserved g c =
    let l = c.loop-done in
    let r = c.in_ok-n.ensures in
    let joined = filled l.done (length l.buffer - l.done) c.in_ok-n.n l.buffer c.read.new.buf l.invariant.0 r.bound.0 in
    (search rules, subst (Consumes _ _) (sym joined) (Consumes-trans _ _ _ _ _ l.invariant.1 r.bytes.0))
