-- The bytes that a call moves on a channel: some where it is a put there, or a get, of either form, and none otherwise.
use mathlib.Core.Bool.{Bool, true, false, true≢false}
use mathlib.Core.List.{List, []}
use mathlib.Core.Logic.{◌⊎◌, inl, inr}
use mathlib.Core.Path.{◌≡◌, refl, sym, ap, ◌∙◌}
use Prim.Native.Nat.{ℕ}
use native.Mathlib.Decide.{ℕ_discrete}
use lib.ListN.{length, take}
use borrow.Author.Tests.{eq-eqb, ne_eqb}
use Rattle.rules.specs.declared.Block.{Block}
use Rattle.rules.specs.declared.Form.{Form}
use Rattle.rules.specs.declared.Transfer.TheVariants.{Get, Put}
use Rattle.rules.specs.declared.Command.{Command}
use Rattle.rules.specs.declared.Command.TheVariants.{Moves, Close, Files, Unlisted}
use Rattle.rules.specs.Cio.{Outcome, is_get, is_put, command_of}
use Rattle.rules.specs.Lists.{Call, cio_of}
use Rattle.rules.specs.Demand2.{On, added_by, put_by, got_by, left_of, left_behind, left_by}

-- the two tests pass gets and puts, of either form
is_get_lem : (k : Command) → is_get k ≡ true → (f : Form) × (k ≡ Moves (Get f))
is_get_lem (Moves (Get f)) e = (f, refl)
is_get_lem (Moves (Put f)) e = absurd (true≢false (sym e))
is_get_lem Close e = absurd (true≢false (sym e))
is_get_lem (Files k) e = absurd (true≢false (sym e))
is_get_lem (Unlisted n) e = absurd (true≢false (sym e))

is_put_lem : (k : Command) → is_put k ≡ true → (f : Form) × (k ≡ Moves (Put f))
is_put_lem (Moves (Get f)) e = absurd (true≢false (sym e))
is_put_lem (Moves (Put f)) e = (f, refl)
is_put_lem Close e = absurd (true≢false (sym e))
is_put_lem (Files k) e = absurd (true≢false (sym e))
is_put_lem (Unlisted n) e = absurd (true≢false (sym e))

-- no other command leaves fewer bytes, or adds some
not_get : (k : Command) → is_get k ≡ false → (n : ℕ) (r : List ℕ) → left_behind k n r ≡ r
not_get (Moves (Get f)) e n r = absurd (true≢false e)
not_get (Moves (Put f)) e n r = refl
not_get Close e n r = refl
not_get (Files k) e n r = refl
not_get (Unlisted status) e n r = refl

not_put : (k : Command) → is_put k ≡ false → (b : List ℕ) (o : Outcome) → added_by k b o.effect ≡ []
not_put (Moves (Get f)) e b o = refl
not_put (Moves (Put f)) e b o = absurd (true≢false e)
not_put Close e b o = refl
not_put (Files k) e b o = refl
not_put (Unlisted status) e b o = refl

module _ (i : ℕ) (c : Block) (text b : List ℕ) where
  abbrev call : Call
  call = cio_of c text b

  abbrev k : Command
  k = command_of c.command

  -- a get from channel i
  module _ {f : Form} (h : On i (Moves (Get f)) call) where
    pub got-on : (o : Outcome) → got_by i call o ≡ take o.effect.count o.buffer
    unfolding got_by
    got-on o = rw (eq-eqb c.channel i h.0, h.1)

    pub left-on : (r : List ℕ) → left_by i call r ≡ left_of f (length b) r
    unfolding left_by
    left-on r = rw (eq-eqb c.channel i h.0, h.1)

  -- a put on it
  pub put_on_lem : {f : Form} → On i (Moves (Put f)) call → (o : Outcome) → put_by i call o ≡ added_by (Moves (Put f)) b o.effect
  unfolding put_by
  put_on_lem h o = rw (eq-eqb c.channel i h.0, h.1)

  -- no get from it
  pub record NoGet : Type 0 where
    pub none : {f : Form} → On i (Moves (Get f)) call → ⊥
    pub got : (o : Outcome) → got_by i call o ≡ []
    pub left : (r : List ℕ) → left_by i call r ≡ r

  pub getting : ((f : Form) × On i (Moves (Get f)) call) ⊎ NoGet
  unfolding got_by left_by
  getting = go (ℕ_discrete c.channel i) (is_get k) refl
    where
      go : Dec (c.channel ≡ i) → (t : Bool) → is_get k ≡ t → ((f : Form) × On i (Moves (Get f)) call) ⊎ NoGet
      go (yes e) true q = let (f, h) = is_get_lem k q in inl (f, (e, h))
      go (yes e) false q = inr (record { none = λ h. true≢false (ap is_get (sym h.1) ∙ q); got = λ o. rw (eq-eqb c.channel i e, q); left = λ r. rw (eq-eqb c.channel i e) (not_get k q (length b) r) })
      go (no n) t q = inr (record { none = λ h. n h.0; got = λ o. rw (ne_eqb c.channel i n); left = λ r. rw (ne_eqb c.channel i n) })

  -- no put on it
  pub record NoPut : Type 0 where
    pub none : {f : Form} → On i (Moves (Put f)) call → ⊥
    pub put : (o : Outcome) → put_by i call o ≡ []

  pub putting : ((f : Form) × On i (Moves (Put f)) call) ⊎ NoPut
  unfolding put_by
  putting = go (ℕ_discrete c.channel i) (is_put k) refl
    where
      go : Dec (c.channel ≡ i) → (t : Bool) → is_put k ≡ t → ((f : Form) × On i (Moves (Put f)) call) ⊎ NoPut
      go (yes e) true q = let (f, h) = is_put_lem k q in inl (f, (e, h))
      go (yes e) false q = inr (record { none = λ h. true≢false (ap is_put (sym h.1) ∙ q); put = λ o. rw (eq-eqb c.channel i e) (not_put k q b o) })
      go (no n) t q = inr (record { none = λ h. n h.0; put = λ o. rw (ne_eqb c.channel i n) })
