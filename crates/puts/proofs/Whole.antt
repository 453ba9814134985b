-- A put in the parts that the code has: the line of a put record and the $9B behind it.
use mathlib.Core.List.{List, [], ◌∷◌, ◌++◌}
use mathlib.Core.Logic.{◌≢◌}
use mathlib.Core.Path.{◌≡◌, refl, sym, ap, ◌∙◌}
use Prim.Native.Nat.{ℕ, suc, min, ◌+◌, ◌≤◌, ◌<◌}
use native.Mathlib.Omega.{arith}
use lib.ListN.{length, take, length-take}
use Rattle.layout.specs.declared.State.{State}
use Rattle.layout.specs.Basics.{through}
use Rattle.layout.specs.Image.{Disk, Geometry}
use Rattle.layout.specs.File.{end_of_line}
use Rattle.layout.specs.Status.{success}
use Rattle.rules.specs.declared.Added.{Added}
use Rattle.rules.specs.declared.Advanced.{Advanced}
use Rattle.rules.specs.declared.Form.{Form}
use Rattle.rules.specs.declared.Form.TheVariants.{Record}
use Rattle.rules.specs.Get.{advanced}
use Rattle.rules.specs.Put.{Adds, sent, reported, put_from}
use Rattle.rules.proofs.Sent.{none-reported}
use Rattle.puts.specs.Recorded.{told}
use Rattle.puts.proofs.Sent.{line_end, sent-ends, sent_open}
use Rattle.puts.proofs.Behind.{behind}

-- no more than the caller's bytes are reported as they are
recorded_same : (b : List ℕ) (a : Added) → a.count ≤ length b → a ≡ told Record b a
recorded_same b a h = let e : a.count ≡ min a.count (length b) = omega arith in ap (λ n. record { status = a.status; count = n; last = a.last }) e

-- what a put or a put record answers, where the put of its bytes answers a
abbrev pub answer : Form → List ℕ → Advanced → Advanced
answer f b a = advanced a.status (reported f b a.count) a.state

-- a refusal reports nothing
pub answer_nothing : (f : Form) (b : List ℕ) (status : ℕ) (st : State) → advanced status 0 st ≡ answer f b (advanced status 0 st)
answer_nothing f b status st = ap (λ n. advanced status n st) (sym (none-reported f b))

-- a $9B of its own is sent behind the whole buffer
own_end : (b : List ℕ) → length b ≤ line_end b → sent Record b ≡ b ++ end_of_line ∷ []
unfolding through
own_end b h = sent_open b (end_of_line ∷ []) h

module _ (g : Geometry) (s : ℕ) (b : List ℕ) (d : Disk) (p : ℕ) where
  abbrev whole : Adds
  whole = put_from g (sent Record b) d s p 0

  -- the buffer has one
  pub line-ends : line_end b < length b → let a = put_from g (take (line_end b + 1) b) d s p 0 in (a.added ≡ told Record b whole.added) × (a.disk ≡ whole.disk)
  line-ends h =
      let n : line_end b + 1 ≡ suc (line_end b) = omega arith in
      let q : take (line_end b + 1) b ≡ sent Record b = ap (λ k. take k b) n ∙ sym (sent-ends b (end_of_line ∷ []) h) in
      let short : length (sent Record b) ≤ length b = rw (← q, length-take) (omega arith) in
      let most = (behind g s (sent Record b) d p 0).most in
      rw q (recorded_same b whole.added (omega arith), refl)

  -- it has none, and did not fit
  pub line-full : length b ≤ line_end b → let a = put_from g b d s p 0 in a.added.status ≢ success → (a.added ≡ told Record b whole.added) × (a.disk ≡ whole.disk)
  line-full h z =
      let a = behind g s b d p 0 in
      let most = a.most in
      let (added, disk) = a.full (end_of_line ∷ []) z in
      rw (own_end b h, added, disk) (recorded_same b (put_from g b d s p 0).added (omega arith), refl)

  -- or fitted, and one is added behind it
  pub line_own : length b ≤ line_end b → let a = put_from g b d s p 0 in a.added.status ≡ success → let o = put_from g (end_of_line ∷ []) a.disk s a.added.last a.added.count in (record { status = o.added.status; count = a.added.count; last = o.added.last } ≡ told Record b whole.added) × (o.disk ≡ whole.disk)
  line_own h z =
      let a = put_from g b d s p 0 in
      let o = put_from g (end_of_line ∷ []) a.disk s a.added.last a.added.count in
      let all = (behind g s b d p 0).all z in
      let (added, disk) = (behind g s b d p 0).more (end_of_line ∷ []) z in
      let least = (behind g s (end_of_line ∷ []) a.disk a.added.last a.added.count).least in
      let n : a.added.count ≡ min o.added.count (length b) = omega arith in
      rw (own_end b h, added, disk) (ap (λ k. record { status = o.added.status; count = k; last = o.added.last }) n, refl)
