-- Full sectors chained behind the one that was given out last: how far a put has come, were the counts written now.
use mathlib.Core.Bool.{true}
use mathlib.Core.List.{List}
use mathlib.Core.Logic.{◌≢◌}
use mathlib.Core.Path.{◌≡◌, refl, sym, ap, ◌∙◌}
use Prim.Native.Nat.{ℕ, suc, ◌+◌, ◌-◌, ◌*◌, ◌≤◌, ◌<◌}
use native.Mathlib.Nat.{suc-mul, mul-le-mul_right}
use native.Mathlib.Omega.{arith}
use lib.ListN.{length, take, drop, length-drop}
use lib.Seq.{length-take-le}
use Rattle.layout.specs.Image.{Disk, Geometry}
use Rattle.layout.specs.Volume.{data_sector, free, free_count, lowest}
use Rattle.layout.specs.File.{in_use, give}
use Rattle.layout.proofs.Good.{good_facts, ones_most}
use Rattle.volume.proofs.Below.{none_at}
use Rattle.puts.specs.Run.{add_run, chained, settled_from}
use Rattle.puts.specs.Come.{Puts}
use Rattle.puts.specs.Searched.{Searched}
use Rattle.rules.proofs.Rooms.{room_new}
use Rattle.puts.proofs.Adding.{puts-start, puts-run, run-adds}
use Rattle.puts.proofs.Searching.{give-empty, room_data, searched_give, searched_add}
use Rattle.puts.proofs.Settling.{settled-none, settled-free, settled-next, chained-count}

-- on disk d the sectors behind p₀ up to p were chained, with the bytes of b from i₀ on
pub record Chaining (g : Geometry) (s : ℕ) (b : List ℕ) (d₀ : Disk) (p₀ i₀ : ℕ) (d : Disk) (p : ℕ) : Type 0 where
  pub kind : data_sector p ≡ true
  pub least : p₀ ≤ p
  pub count : free_count (d 360) < 65536
  pub full : g.room ≤ in_use g (settled_from g d s p₀ p p)
  pub searched : Searched (settled_from g d s p₀ p 360) (p + 1)
  pub puts : Puts g s b d₀ p₀ i₀ (settled_from g d s p₀ p) p (i₀ + (p - p₀) * g.room)

-- behind a sector itself there is none
none-behind : (i p p₀ r : ℕ) → p ≡ p₀ → i + (p - p₀) * r ≡ i
none-behind i p p₀ r e = let none : p - p₀ ≡ 0 = omega arith in rw none (omega arith)

-- where n bytes hold the sectors behind p₀ up to e, they hold those up to the one behind p
pub bytes_within : (i p₀ p e r n : ℕ) → p₀ ≤ p → p < e → i + (e - p₀) * r ≤ n → i + (p - p₀ + 1) * r ≤ n
bytes_within i p₀ p e r n a h u =
    let part : p - p₀ + 1 ≤ e - p₀ = omega arith in
    let bytes = mul-le-mul_right r part in
    omega arith

module _ {g : Geometry} {s : ℕ} {b : List ℕ} {d₀ : Disk} {p₀ i₀ : ℕ} where
  -- none was chained yet
  pub chaining_start : data_sector p₀ ≡ true → i₀ ≤ length b → g.room ≤ in_use g (d₀ p₀) → Searched (d₀ 360) (p₀ + 1) → Chaining g s b d₀ p₀ i₀ d₀ p₀
  chaining_start kind within full t =
      let e = settled-none g s p₀ p₀ d₀ refl in
      let balance = (good_facts (d₀ 360) t.table).balance in
      let most = ones_most (d₀ 360) 90 in
      record { kind = kind; least = omega arith; count = omega arith; full = rw e full; searched = rw e t; puts = rw (e, none-behind i₀ p₀ p₀ g.room refl) (puts-start within) }

  -- none was chained at all: nothing is left to be written
  pub chaining_none : {d : Disk} {p : ℕ} → p ≡ p₀ → Searched (settled_from g d s p₀ p 360) (p + 1) → Puts g s b d₀ p₀ i₀ (settled_from g d s p₀ p) p (i₀ + (p - p₀) * g.room)
      → Searched (d 360) (p₀ + 1) × Puts g s b d₀ p₀ i₀ d p₀ i₀
  chaining_none {d} {p} e t w = (rw (settled-none g s p₀ p d e, e) at t, rw (settled-none g s p₀ p d e, none-behind i₀ p p₀ g.room e, e) at w)

  module _ {d : Disk} {p : ℕ} (w : Chaining g s b d₀ p₀ i₀ d p) where
    -- the disk, were the counts written now
    abbrev now : Disk
    now = settled_from g d s p₀ p

    -- the next sector on the disk is free: then it is the lowest that is, and a data sector
    module _ (top : p < 719) (f : free (d 360) (p + 1) ≡ true) where
      low : p + 1 ≡ lowest (now 360)
      low = none_at (now 360) (p + 1) w.searched.none (omega arith) (settled-free g s p₀ p d w.kind (p + 1) ∙ f)

      some : p + 1 ≢ 0
      some = λ e. omega arith

      next : data_sector (p + 1) ≡ true
      next = room_data g now (p + 1) w.searched (p + 1) low some

      -- and is chained too, with as many bytes of b as it can hold
      pub chaining_next : s < 64 → 0 < g.room → i₀ + (p - p₀ + 1) * g.room ≤ length b → (e : Disk) → e ≡ chained g d s p (p + 1) (take g.room (drop (i₀ + (p - p₀) * g.room) b)) → Chaining g s b d₀ p₀ i₀ e (p + 1)
      chaining_next h pos within e q =
          let k = p + 1 in
          let i = i₀ + (p - p₀) * g.room in
          let xs = take g.room (drop i b) in
          let least = w.least in
          let more : k - p₀ ≡ suc (p - p₀) = omega arith in
          let on : i₀ + (k - p₀) * g.room ≡ i + g.room = rw (more, suc-mul (p - p₀) g.room) (omega arith) in
          let n : length xs ≡ g.room = length-take-le g.room (drop i b) (rw length-drop (omega arith)) in
          let given = give g now s p k in
          let room = room_new g s now p k w.full low some in
          let empty = give-empty g now s p k in
          let law : settled_from g e s p₀ k ≡ add_run g given k xs = rw q (settled-next g s p₀ p d w.kind next xs h n w.count w.least) in
          record {
            kind = next;
            least = omega arith;
            count = rw (q, chained-count g s p₀ p d w.kind next xs) w.count;
            full = rw (law, run-adds g given k xs, empty, n) (omega arith);
            searched = rw law (searched_add g given (k + 1) (searched_give g now k w.searched k low some s p w.kind) k xs next);
            puts = rw on (puts-run w.puts k given (sym (ap (λ o. o.sector) room)) (sym (ap (λ o. o.disk) room)) some (rw empty pos) g.room pos (omega arith) (rw empty (omega arith)) (settled_from g e s p₀ k) law);
          }
