-- The other way: a call that passes its checks does what its command does.
use mathlib.Core.Bool.{true}
use mathlib.Core.Path.{◌≡◌, ap, ◌∙◌}
use mathlib.Core.List.{List}
use Prim.Native.Nat.{ℕ}
use lib.Dec.{leb}
use borrow.Author.Tests.{lt-leb}
use Rattle.layout.specs.declared.State.{State}
use Rattle.layout.specs.declared.State.TheVariants.{Closed, Reading, Writing}
use Rattle.layout.specs.declared.Table.{Table}
use Rattle.rules.specs.declared.Block.{Block}
use Rattle.rules.specs.declared.Form.{Form}
use Rattle.rules.specs.declared.Transfer.TheVariants.{Get, Put}
use Rattle.rules.specs.declared.Command.{Command}
use Rattle.rules.specs.declared.Command.TheVariants.{Moves, Close}
use Rattle.layout.specs.Image.{Disk, Geometry}
use Rattle.layout.specs.Directory.{count, write_flag, is43}
use Rattle.layout.specs.Channels.{state_of, with_state}
use Rattle.layout.specs.Status.{write_protected}
use Rattle.layout.proofs.Check.{check_yes, check_no}
use Rattle.rules.specs.Get.{get_as}
use Rattle.rules.specs.Put.{sent, put_on}
use Rattle.rules.specs.Commands.{Effect, refused, done, put_at, open_read, close_state, close_call}
use Rattle.rules.specs.Cio.{Outcome, get_at, transfer, command, cio}
use Rattle.rules.proofs.Acts.{On, Opens, Closes}
use Rattle.rules.proofs.Aimed.{sought-slot, aimed-slot}
use Rattle.rules.proofs.Ends.{get_leaves, put_leaves, open_input}

module _ (g : Geometry) (d : Disk) (t : Table) (c : Block) (text b : List ℕ) where
  -- on a channel below 8
  pub does : {k : Command} → On c k → cio g d t c text b ≡ command g d t k c text b
  unfolding cio
  does o = check_no {A = Outcome} (leb 8 c.channel) _ _ (lt-leb 8 c.channel o.small) ∙ ap (λ k. command g d t k c text b) o.command

  does_effect : {k : Command} → On c k → (cio g d t c text b).effect ≡ (command g d t k c text b).effect
  does_effect o = ap (λ (r : Outcome). r.effect) (does o)

  -- a get and a put of either form, on a channel in this state
  pub does_get : {f : Form} → On c (Moves (Get f)) → {st : State} → state_of t c.channel ≡ st → cio g d t c text b ≡ get_leaves d t c.channel (get_as g f d st b)
  unfolding command transfer get_at
  does_get {f = f} o e = does o ∙ ap (λ st. get_leaves d t c.channel (get_as g f d st b)) e

  pub does_put : {f : Form} → On c (Moves (Put f)) → {st : State} → state_of t c.channel ≡ st → (cio g d t c text b).effect ≡ put_leaves t c.channel f b (put_on g d c.protected st (sent f b))
  unfolding command transfer put_at
  does_put {f = f} o e = does_effect o ∙ ap (λ st. put_leaves t c.channel f b (put_on g d c.protected st (sent f b))) e

  -- a close of a channel that writes
  does_close_state : (s p : ℕ) → On c Close → state_of t c.channel ≡ Writing s p → (cio g d t c text b).effect ≡ close_state g d t c.channel c.protected (Writing s p)
  unfolding command close_call
  does_close_state s p o e = does_effect o ∙ ap (close_state g d t c.channel c.protected) e

  -- with the notch closed
  pub does_stay : (s p : ℕ) → On c Close → state_of t c.channel ≡ Writing s p → c.protected ≡ true → (cio g d t c text b).effect ≡ refused write_protected d t
  unfolding close_state
  does_stay s p o e q = does_close_state s p o e ∙ check_yes {A = Effect} _ _ _ q

  -- with it open, of a slot with $43
  pub does_close : (s p : ℕ) → Closes g d t c s p → is43 d s ≡ true → (cio g d t c text b).effect ≡ done g d t (write_flag d s 0x42) (with_state t c.channel Closed)
  unfolding close_state
  does_close s p h o = does_close_state s p h.on h.state ∙ check_no {A = Effect} _ _ _ h.permitted ∙ check_no {A = Effect} _ _ _ (rw o)

  -- an open for input
  pub does_open : (s : ℕ) → Opens g d t c text s → (cio g d t c text b).effect ≡ done g d t d (with_state t c.channel (Reading s 0 0 (count d s)))
  unfolding command open_read
  does_open s h =
      does_effect h.ready.on
      ∙ open_input g d t c text b h.ready h.direction
      ∙ aimed-slot g d t _ _ (sought-slot d _ h.told.read h.at)
      ∙ check_no {A = Effect} _ _ _ h.quiet
