-- The rest of a line that does not fit is dropped to its end, on any disk: no more bytes can come than are allowed for it.
use mathlib.Core.List.{List, []}
use mathlib.Core.Logic.{◌≢◌}
use mathlib.Core.Path.{◌≡◌}
use Prim.Native.Nat.{ℕ, suc, zero, ◌+◌, ◌*◌, ◌≤◌}
use native.Mathlib.Nat.{mul_comm, suc-mul}
use native.Mathlib.Numerals.{add-one}
use native.Mathlib.Omega.{arith}
use lib.ListN.{length}
use Rattle.rules.specs.declared.Form.TheVariants.{Record}
use Rattle.rules.specs.declared.Place.{Place}
use Rattle.layout.specs.Image.{Disk, Geometry}
use Rattle.layout.specs.Status.{truncated}
use Rattle.rules.specs.Get.{Reads, read_from, most}
use Rattle.rules.proofs.Steps.{past, read_step}
use Rattle.rules.proofs.Reach.{here, reach, readable-most, seek-inside, read_enough}
use Rattle.theory.specs.LinesBack.{DropsAll}

module _ (g : Geometry) (d : Disk) (s : ℕ) where
  -- where the buffer filled first, the entered sector has fewer bytes left than there is room for
  abbrev Inside : Reads → Type 0
  Inside z = z.got.status ≡ truncated → here g d s z.got.place.sector z.got.place.offset + 1 ≤ g.room

  inside : (n i : ℕ) (p : Place) (b : List ℕ) → here g d s p.sector p.offset + 1 ≤ g.room → Inside (read_from g Record d s n i p b)
  unfolding read_from
  inside zero i p b h = λ _. h
  inside (suc n) i p b h = read_step g d s Inside Record n i p b (λ _ _ _ e. absurd (omega arith)) (λ q e _. inside n (i + 1) (past q) _ (seek-inside g d s p.left p.sector p.offset q (omega arith) e)) (λ _ _ e. absurd (omega arith)) (λ _ _ e. absurd (omega arith))

  -- after a byte that was read it is so
  after_one : (n i : ℕ) (p : Place) (b : List ℕ) → n ≢ 0 → here g d s p.sector p.offset ≤ g.room → Inside (read_from g Record d s n i p b)
  after_one zero i p b z h = absurd (omega (arith, z))
  after_one (suc n) i p b z h = read_step g d s Inside Record n i p b (λ _ _ _ e. absurd (omega arith)) (λ q e _. inside n (i + 1) (past q) _ (seek-inside g d s p.left p.sector p.offset q h e)) (λ _ _ e. absurd (omega arith)) (λ _ _ e. absurd (omega arith))

pub drops_all : DropsAll
unfolding reach
drops_all g d s p b e some cut n h =
    let q = (read_from g Record d s (length b) 0 p b).got.place in
    let w = after_one g d s (length b) 0 p b some (readable-most g d s p.sector p.offset e) cut in
    let u = mul_comm g.room q.left in
    let v = suc-mul q.left g.room in
    let k : most g q ≡ suc q.left * g.room = rw (add-one q.left) in
    read_enough g d s Record n (most g q) 0 q [] (omega arith) (omega arith)
