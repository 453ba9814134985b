-- The bytes that a put record adds: through the buffer's first $9B, or the whole buffer and then one $9B.
use mathlib.Core.Bool.{Bool, true, false, not, ◌&&◌, true≢false}
use mathlib.Core.List.{List, [], ◌∷◌, ◌++◌, append-nil}
use mathlib.Core.Logic.{◌≢◌}
use mathlib.Core.Path.{◌≡◌, refl, sym, ap, ◌∙◌}
use Prim.Native.Nat.{ℕ, ◌+◌, ◌≤◌, ◌<◌, min}
use native.Mathlib.Omega.{arith}
use lib.ListN.{length, take, length-append}
use lib.Seq.{take-length, take-append-le}
use Rattle.rules.specs.declared.Form.{Form}
use Rattle.rules.specs.declared.Form.TheVariants.{Characters, Record}
use Rattle.rules.specs.declared.Transfer.TheVariants.{Put}
use Rattle.rules.specs.declared.Command.TheVariants.{Moves}
use Rattle.layout.specs.Basics.{if, member, through}
use Rattle.layout.specs.File.{end_of_line}
use Rattle.layout.specs.Status.{succeeds, Succeeds, Fails}
use Rattle.layout.proofs.Logic.{and_no}
use Rattle.layout.proofs.Lines.{through_length, through_prefix, through-first, through-second}
use Rattle.rules.specs.Put.{sent, reported}
use Rattle.rules.specs.Commands.{Effect}
use Rattle.rules.specs.Demand2.{added_by}
use Rattle.rules.proofs.Sent.{sent_some}

abbrev own : List ℕ
own = end_of_line ∷ []

-- at most one byte more than the buffer has
pub sent_length : (b : List ℕ) → length (sent Record b) ≤ length b + 1
sent_length b = let n = length-append b own in let m = through_length end_of_line (b ++ own) in omega arith

-- where the buffer has a $9B, and where it has none
sent-through : (b : List ℕ) → member end_of_line b ≡ true → sent Record b ≡ through end_of_line b
sent-through b m = through-first end_of_line b own m

pub sent_own : (b : List ℕ) → member end_of_line b ≡ false → sent Record b ≡ b ++ own
unfolding through
sent_own b m = through-second end_of_line b own m

-- n of them were added, all with a success and fewer with any other number: these are the bytes that are told of a put or a put record
pub added_is : (f : Form) (b : List ℕ) (n : ℕ) (e : Effect) → e.count ≡ reported f b n → n ≤ length (sent f b) → (Succeeds e.status → n ≡ length (sent f b)) → (Fails e.status → length (sent f b) ≢ 0 → n < length (sent f b))
    → added_by (Moves (Put f)) b e ≡ take n (sent f b)
added_is Characters b n e c few whole short = rw c
added_is Record b n e c few whole short = rw c (go (member end_of_line b) refl (succeeds e.status) refl)
  where
    -- no own $9B
    caller : (l : List ℕ) → l ≡ [] → n ≤ length b → take n b ≡ take n (sent Record b) → take (min n (length b)) b ++ l ≡ take n (sent Record b)
    caller l z h q = let m : min n (length b) ≡ n = omega arith in rw (z, m) (append-nil (take n b) ∙ q)

    go : (a : Bool) → member end_of_line b ≡ a → (t : Bool) → succeeds e.status ≡ t → take (min n (length b)) b ++ if (succeeds e.status && not (member end_of_line b)) own [] ≡ take n (sent Record b)
    go true m t s =
        let k = sent-through b m in
        let l = through_length end_of_line b in
        let h : n ≤ length (through end_of_line b) = rw k at few in
        caller _ (rw (m, and_no (succeeds e.status))) (omega arith) (sym (ap (take n) k ∙ through_prefix end_of_line n b h))
    go false m true s =
        let k = sent_own b m in
        let l = length-append b own in
        let h : n ≡ length (b ++ own) = whole s ∙ ap length k in
        let u : min n (length b) ≡ length b = omega arith in
        rw (u, k, m, s, h, take-length b, take-length (b ++ own))
    go false m false s =
        let k = sent_own b m in
        let l = length-append b own in
        let h : n < length (b ++ own) = rw k at (short (λ q. true≢false (sym q ∙ s)) (sent_some b)) in
        caller _ (rw s) (omega arith) (sym (ap (take n) k ∙ take-append-le n b own (omega arith)))
