-- A run of bytes of one sector: what it leaves when it is written, and what it reads as.
use mathlib.Core.List.{List, [], ◌∷◌}
use mathlib.Core.Logic.{◌≢◌}
use mathlib.Core.Path.{◌≡◌, refl, ap, ◌∙◌}
use Prim.Native.Nat.{ℕ, suc, zero, ◌+◌, ◌≤◌, ◌<◌}
use native.Mathlib.Nat.{add-zero}
use native.Mathlib.Omega.{arith}
use lib.ListN.{length, get_or, take, drop}
use lib.Seq.{drop-cons}
use Rattle.layout.specs.Basics.{values_from}
use Rattle.layout.specs.Image.{Disk, Geometry, view, write_byte, write_run}
use Rattle.layout.proofs.Update.{update_same, update_other, write_same, write_other}
use Rattle.layout.proofs.Image.{view_byte}

-- it leaves the other sectors
pub run-other : (xs : List ℕ) (d : Disk) (k j x : ℕ) → x ≢ k → write_run d k j xs x ≡ d x
unfolding write_run
run-other [] d k j x n = refl
run-other (v ∷ xs) d k j x n = run-other xs (write_byte d k j v) k (j + 1) x n ∙ write_other d k j v x n

-- and the places before it
run-before : (xs : List ℕ) (d : Disk) (k j i : ℕ) → i < j → write_run d k j xs k i ≡ d k i
unfolding write_run
run-before [] d k j i b = refl
run-before (v ∷ xs) d k j i b = run-before xs (write_byte d k j v) k (j + 1) i (omega arith) ∙ rw (write_same d k j v) (update_other (d k) j v i (λ e. omega arith))

-- its bytes read back
pub run_values : (xs : List ℕ) (d : Disk) (k j : ℕ) → values_from (write_run d k j xs k) (length xs) j ≡ xs
unfolding write_run values_from
run_values [] d k j = refl
run_values (v ∷ xs) d k j = rw (run-before xs (write_byte d k j v) k (j + 1) j (omega arith), run_values xs (write_byte d k j v) k (j + 1), write_same d k j v, update_same (d k) j v)

-- a part of the image, within one sector, has that sector's bytes
pub part_values : (g : Geometry) (n : ℕ) (l : List ℕ) (k j : ℕ) → ((i : ℕ) → i < n → j + i < g.size k) → g.start k + j + n ≤ length l
    → take n (drop (g.start k + j) l) ≡ values_from (view g l k) n j
unfolding values_from
part_values g zero l k j f h = refl
part_values g (suc n) l k j f h =
    let here : j < g.size k = rw (add-zero j) at (f 0 (omega arith)) in
    let e : suc (g.start k + j) ≡ g.start k + (j + 1) = omega arith in
    let q : g.start k + j < length l = omega arith in
    rw (drop-cons l (g.start k + j) 0 q, e, view_byte g l k j here) (ap (λ xs. get_or l (g.start k + j) 0 ∷ xs) (part_values g n l k (j + 1) (λ i q. let d : j + 1 + i ≡ j + suc i = omega arith in rw d (f (suc i) (omega arith))) (omega arith)))
