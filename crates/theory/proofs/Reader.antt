-- A channel that reads: what it has yet to hand out, and a get or a get record from it.
use mathlib.Core.List.{List}
use mathlib.Core.Path.{◌≡◌, refl, sym, ap, ◌∙◌}
use Prim.Native.Nat.{ℕ, ◌<◌}
use native.Mathlib.Decide.{dec_lt}
use native.Mathlib.Omega.{arith}
use lib.ListN.{length, take, drop, drop_of_length-le}
use lib.Seq.{take_all, length-take-le, drop-length}
use Rattle.layout.specs.declared.State.TheVariants.{Reading}
use Rattle.rules.specs.declared.Block.{Block}
use Rattle.rules.specs.declared.Form.{Form}
use Rattle.rules.specs.declared.Transfer.TheVariants.{Get}
use Rattle.rules.specs.declared.Command.TheVariants.{Moves}
use Rattle.layout.specs.Image.{Geometry}
use Rattle.layout.specs.Channels.{state_of}
use Rattle.rules.specs.Get.{or_end_reached}
use Rattle.rules.specs.Lists.{cio_of, System, after, outcome_of}
use Rattle.rules.specs.Sound.{Sound}
use Rattle.rules.specs.Demand2.{On, offered, left_of, answered, LastInUse, HandsOut}
use Rattle.rules.proofs.Does.{does_get}
use Rattle.theory.proofs.Reading.{rest}
use Rattle.theory.proofs.SoundChan.{state_at}
use Rattle.theory.proofs.SoundGet.{get_on_lem}

module _ (g : Geometry) (s : ℕ) (r : List ℕ) (y : System) where
  -- channel j reads slot s, and has r yet to hand out
  pub record Reads (j : ℕ) : Type 0 where
    pub sound : Sound g y.disk y.table
    pub sector : ℕ
    pub offset : ℕ
    pub left : ℕ
    pub reads : state_of y.table j ≡ Reading s sector offset left
    pub bytes : rest g y.disk s sector offset ≡ r

-- the buffer behind what a get hands out
left_over : (r b : List ℕ) → drop (length (take (length b) r)) b ≡ drop (length r) b
left_over r b = go (dec_lt (length r) (length b))
  where
    go : Dec (length r < length b) → drop (length (take (length b) r)) b ≡ drop (length r) b
    go (yes h) = rw (take_all (length b) r (omega arith))
    go (no h) = rw (length-take-le (length b) r (omega arith), drop-length b) (sym (drop_of_length-le b {i = length r} (omega arith)))

-- one from it, as a call on channel i
pub get_call : (g : Geometry) (s i : ℕ) → i < 8 → (f : Form) (c : Block) (text b : List ℕ) → On i (Moves (Get f)) (cio_of c text b) → (r : List ℕ) (y : System) → Reads g s r y i → (sure : Type 0) → (sure → LastInUse g y.disk s)
    → let o = outcome_of g (cio_of c text b) y in HandsOut g y.disk i sure f r b o × Reads g s (left_of f (length b) r) (after o.effect) i × (o.effect.disk ≡ y.disk)
unfolding outcome_of
get_call g s i z form c text b (e, f) r y h sure u =
    let w = rw h.bytes at (get_on_lem g y.disk y.table h.sound i z s h.sector h.offset h.left h.reads form b) in
    let st = state_at g y.disk y.table h.sound i z _ ∙ w.state in
    rw (does_get g y.disk y.table c text b (record { small = rw e z; command = f }) (ap (state_of y.table) e ∙ h.reads), e) (
      record { status = w.status ∙ ap (λ x. or_end_reached g y.disk b x (answered form (length b) r)) (sym st); count = w.count; buffer = w.buffer ∙ rw (left_over (offered form r) b); last = w.last; reached = λ q. w.reached (u q) },
      record { sound = w.sound; sector = w.sector; offset = w.offset; left = w.left; reads = st; bytes = w.rests },
      refl,
    )
