-- Sectors chained one behind the other, their counts written at the end: the same disk as each of them given out whole.
use mathlib.Core.Bool.{true}
use mathlib.Core.List.{List, [], ◌∷◌}
use mathlib.Core.Logic.{◌≢◌}
use mathlib.Core.Path.{◌≡◌, refl, sym, ap, ◌∙◌}
use Prim.Native.Nat.{ℕ, ◌+◌, ◌-◌, ◌*◌, ◌/◌, ◌%◌, ◌≤◌, ◌<◌}
use native.Mathlib.Decide.{ℕ_discrete}
use native.Mathlib.Omega.{arith}
use native.Mathlib.Nat.{zero-add}
use lib.ListN.{length}
use borrow.Author.Tests.{eq-eqb, ne_eqb}
use Rattle.layout.specs.Basics.{update}
use Rattle.layout.specs.Image.{Sector, Disk, Geometry, write_byte, write_run, write_word}
use Rattle.layout.specs.Volume.{data_sector, free, bit_off, map_byte, map_bit, free_count, mark_used, write_free_count, use_all, use_bits}
use Rattle.layout.specs.Directory.{count, write_entry, write_count}
use Rattle.layout.specs.File.{write_in_use, write_link, linked, emptied, give}
use Rattle.layout.proofs.Update.{update_same, update_other, update-update, update_id, pair_read}
use Rattle.layout.proofs.Data.{data_facts}
use Rattle.layout.proofs.Map.{used_bit, write_free_count_byte, write_free_count-free}
use Rattle.puts.specs.Run.{add_run, chained, counted, settled, settled_from}
use Rattle.puts.proofs.Adding.{update_swap, write_twice, write_comm, run_write, run_used, in_use_write, used_twice}

-- a change of the disk that reads and writes one sector
record On (a : ℕ) (f : Disk → Disk) : Type 0 where
  act : Sector → Sector
  is : (d : Disk) → f d ≡ update d a (act (d a))

module _ {a : ℕ} {f : Disk → Disk} (p : On a f) where
  -- the other sectors stay
  on-other : (d : Disk) (x : ℕ) → x ≢ a → f d x ≡ d x
  on-other d x n = rw (p.is d) (update_other d a (p.act (d a)) x n)

  -- one change after another of the same sector
  on_then : {h : Disk → Disk} → On a h → On a (λ d. f (h d))
  on_then {h} q = record {
    act = λ r. p.act (q.act r);
    is = λ d. p.is (h d) ∙ rw (q.is d, update_same d a (q.act (d a))) (update-update d a (q.act (d a)) (p.act (q.act (d a))));
  }

  -- changes of two sectors in either order
  on-apart : {b : ℕ} {h : Disk → Disk} → On b h → a ≢ b → (d : Disk) → f (h d) ≡ h (f d)
  on-apart {b} {h} q n d =
      let x = p.act (d a) in
      let y = q.act (d b) in
      let l : f (h d) ≡ update (update d b y) a x = p.is (h d) ∙ rw (q.is d, update_other d b y a n) in
      let r : h (f d) ≡ update (update d a x) b y = q.is (f d) ∙ rw (p.is d, update_other d a x b (λ e. n (sym e))) in
      l ∙ update_swap d b a y x (λ e. n (sym e)) ∙ sym r

-- a byte written, a run of bytes, a file sector's last bytes
on_write_byte : (k j : ℕ) (v : Sector → ℕ) → On k (λ d. write_byte d k j (v (d k)))
unfolding write_byte
on_write_byte k j v = record { act = λ r. update r j (v r); is = λ d. refl }

on-run : (xs : List ℕ) (k j : ℕ) → On k (λ d. write_run d k j xs)
unfolding write_run
on-run [] k j = record { act = λ r. r; is = λ d. sym (update_id d k (d k) refl) }
on-run (x ∷ xs) k j = on_then (on-run xs k (j + 1)) (on_write_byte k j (λ _. x))

on_link : (g : Geometry) (k s n : ℕ) → On k (λ d. write_link g d k s n)
unfolding write_link
on_link g k s n = on_then (on_write_byte k (g.room + 1) (λ _. n % 256)) (on_write_byte k g.room (λ _. s * 4 + n / 256))

on_used : (g : Geometry) (k n : ℕ) → On k (λ d. write_in_use g d k n)
unfolding write_in_use
on_used g k n = on_write_byte k (g.room + 2) (λ _. n)

-- two bytes of sector k that hold a number, low byte first, and the number changed
module _ (k i j : ℕ) where
  abbrev read_pair : Disk → ℕ
  read_pair d = d k i + 256 * d k j

  abbrev write_pair : Disk → ℕ → Disk
  write_pair d v = write_byte (write_byte d k i (v % 256)) k j (v / 256 % 256)

  on_pair : (f : ℕ → ℕ) → On k (λ d. write_pair d (f (read_pair d)))
  unfolding write_byte
  on_pair f = record {
    act = λ r. (let v = f (r i + 256 * r j) in update (update r i (v % 256)) j (v / 256 % 256));
    is = λ d. (let v = f (read_pair d) in rw (update_same d k (update (d k) i (v % 256))) (update-update d k _ _));
  }

  module _ (n : i ≢ j) (d : Disk) where
    -- both bytes written twice
    pair_twice : (v w x y : ℕ) → write_byte (write_byte (write_byte (write_byte d k i v) k j w) k i x) k j y ≡ write_byte (write_byte d k i x) k j y
    pair_twice v w x y =
        ap (λ e. write_byte e k j y) (write_comm (write_byte d k i v) k j w i x (λ q. n (sym q)) ∙ ap (λ e. write_byte e k j w) (write_twice d k i v x)) ∙ write_twice (write_byte d k i x) k j w y

    pair_again : (v w : ℕ) → write_pair (write_pair d v) w ≡ write_pair d w
    pair_again v w = pair_twice (v % 256) (v / 256 % 256) (w % 256) (w / 256 % 256)

    -- only the number modulo 65536 counts
    pair_mod : (v w : ℕ) → v % 65536 ≡ w % 65536 → write_pair d v ≡ write_pair d w
    pair_mod v w e = rw (low v, high v, e, ← low w, ← high w)
      where
        low : (x : ℕ) → x % 256 ≡ x % 65536 % 256
        low x = omega arith

        high : (x : ℕ) → x / 256 % 256 ≡ x % 65536 / 256
        high x = omega arith

-- n sectors more in the slot's count, and n fewer in the free count; n of them and then one
abbrev more : ℕ → ℕ → Disk → Disk
more s n d = write_count d s (count d s + n)

abbrev fewer : ℕ → Disk → Disk
fewer n d = write_free_count d (free_count (d 360) - n)

on_more : (s n : ℕ) → On (361 + s / 8) (more s n)
unfolding write_count write_entry
on_more s n = on_pair (361 + s / 8) (s % 8 * 16 + 1) (s % 8 * 16 + 2) (λ v. v + n)

more_more : (s n : ℕ) (d : Disk) → more s 1 (more s n d) ≡ more s (n + 1) d
unfolding write_count write_entry
more_more s n d =
    let a = 361 + s / 8 in
    let i = s % 8 * 16 + 1 in
    let j = s % 8 * 16 + 2 in
    let c = count d s in
    ap (λ v. write_pair a i j (more s n d) (v + 1)) (pair_read d a i j (c + n) (λ e. omega arith))
    ∙ pair_again a i j (λ e. omega arith) d (c + n) ((c + n) % 65536 + 1)
    ∙ pair_mod a i j (λ e. omega arith) d ((c + n) % 65536 + 1) (c + (n + 1)) (omega arith)

on_fewer : (n : ℕ) → On 360 (fewer n)
unfolding write_free_count write_word
on_fewer n = on_pair 360 3 4 (λ v. v - n)

fewer_fewer : (n : ℕ) (d : Disk) → free_count (d 360) < 65536 → fewer 1 (fewer n d) ≡ fewer (n + 1) d
unfolding write_free_count write_word
fewer_fewer n d h =
    let f = free_count (d 360) in
    let e : (f - n) % 65536 - 1 ≡ f - (n + 1) = omega arith in
    ap (λ v. write_pair 360 3 4 (fewer n d) (v - 1)) (pair_read d 360 3 4 (f - n) (λ e. omega arith))
    ∙ pair_again 360 3 4 (λ e. omega arith) d (f - n) ((f - n) % 65536 - 1)
    ∙ rw e

-- a map bit cleared leaves the free count, and may be cleared before it is written or after it
on_taken : (k : ℕ) → On 360 (λ d. mark_used d k)
unfolding mark_used
on_taken k = on_write_byte 360 (map_byte k) (λ r. bit_off (r (map_byte k)) (map_bit k))

taken_count : (d : Disk) (k : ℕ) → free_count (mark_used d k 360) ≡ free_count (d 360)
taken_count d k = rw (used_bit.byte d k 3 (λ e. omega arith), used_bit.byte d k 4 (λ e. omega arith))

taken_write : (d : Disk) (k v : ℕ) → mark_used (write_free_count d v) k ≡ write_free_count (mark_used d k) v
unfolding mark_used write_free_count write_word
taken_write d k v =
    let w = bit_off (d 360 (map_byte k)) (map_bit k) in
    ap (λ x. write_byte (write_free_count d v) 360 (map_byte k) (bit_off x (map_bit k))) (write_free_count_byte d v (map_byte k) (λ e. omega arith) (λ e. omega arith))
    ∙ write_comm (write_byte d 360 3 (v % 256)) 360 4 (v / 256 % 256) (map_byte k) w (λ e. omega arith)
    ∙ ap (λ x. write_byte x 360 4 (v / 256 % 256)) (write_comm d 360 3 (v % 256) (map_byte k) w (λ e. omega arith))

taken_fewer : (d : Disk) (k n : ℕ) → mark_used (fewer n d) k ≡ fewer n (mark_used d k)
taken_fewer d k n = rw (taken_count d k) (taken_write d k (free_count (d 360) - n))

-- n sectors counted and one more taken and counted, or all of them at the end
counted_more : (d : Disk) (s k n : ℕ) → free_count (d 360) < 65536 → counted (mark_used (counted d s n) k) s 1 ≡ counted (mark_used d k) s (n + 1)
unfolding counted
counted_more d s k n h =
    let x = more s n d in
    let y = more s 1 (mark_used x k) in
    let e : mark_used x k ≡ more s n (mark_used d k) = on-apart (on_taken k) (on_more s n) (λ e. omega arith) d in
    let f : free_count (y 360) ≡ free_count (d 360) = ap free_count (on-other (on_more s 1) (mark_used x k) 360 (λ e. omega arith)) ∙ taken_count x k ∙ ap free_count (on-other (on_more s n) d 360 (λ e. omega arith)) in
    ap (λ z. fewer 1 (more s 1 z)) (taken_fewer x k n)
    ∙ ap (fewer 1) (on-apart (on_more s 1) (on_fewer n) (λ e. omega arith) (mark_used x k))
    ∙ fewer_fewer n y (omega arith)
    ∙ ap (λ z. fewer (n + 1) (more s 1 z)) e
    ∙ ap (fewer (n + 1)) (more_more s n (mark_used d k))

-- the table and the slot's sector are not k
record Apart (s k : ℕ) : Type 0 where
  table : 360 ≢ k
  slot : 361 + s / 8 ≢ k

data_apart : (s k : ℕ) → s < 64 → data_sector k ≡ true → Apart s k
data_apart s k h e = let f = data_facts k e in record { table = λ q. f.table (sym q); slot = λ q. f.directory (s / 8) (omega arith) (sym q) }

module _ (g : Geometry) (s p k : ℕ) (xs : List ℕ) where
  -- sector k with the bytes xs, which fill it, and no next; the same behind sector p
  abbrev fill : Disk → Disk
  fill d = write_run (write_in_use g (write_link g d k s 0) k g.room) k 0 xs

  abbrev filled : Disk → Disk
  filled d = fill (write_link g d p s k)

  on-fill : On k fill
  on-fill = on_then (on-run xs k 0) (on_then (on_used g k g.room) (on_link g k s 0))

  -- a change of another sector before it or after it, and the counts
  filled_apart : {a : ℕ} {f : Disk → Disk} → On a f → a ≢ p → a ≢ k → (d : Disk) → f (filled d) ≡ filled (f d)
  filled_apart o n m d = on-apart o on-fill m (write_link g d p s k) ∙ ap fill (on-apart o (on_link g p s k) n d)

  filled-counted : Apart s p → Apart s k → (n : ℕ) (d : Disk) → counted (filled d) s n ≡ filled (counted d s n)
  unfolding counted
  filled-counted x y n d = ap (fewer n) (filled_apart (on_more s n) x.slot y.slot d) ∙ filled_apart (on_fewer n) x.table y.table (more s n d)

  -- a link of sector p that was there before does not count
  filled_again : (d : Disk) → filled (write_link g d p s 0) ≡ filled d
  unfolding write_link
  filled_again d = ap fill (pair_twice p g.room (g.room + 1) (λ e. omega arith) d (s * 4 + 0 / 256) (0 % 256) (s * 4 + k / 256) (k % 256))

  module _ (h : length xs ≡ g.room) where
    -- the sector's own link written last
    link_last : (d : Disk) → write_link g (chained g d s p k xs) k s 0 ≡ filled (mark_used d k)
    unfolding chained write_link write_in_use
    link_last d =
        let r = g.room in
        let x = write_link g (mark_used d k) p s k in
        let y = write_byte x k (r + 2) r in
        let v = s * 4 + 0 / 256 in
        let w = 0 % 256 in
        ap (λ e. write_byte e k (r + 1) w) (sym (run_write xs y k 0 r v (omega arith)))
        ∙ sym (run_write xs (write_byte y k r v) k 0 (r + 1) w (omega arith))
        ∙ ap (λ e. write_run e k 0 xs) (ap (λ e. write_byte e k (r + 1) w) (write_comm x k (r + 2) r r v (λ e. omega arith)) ∙ write_comm (write_byte x k r v) k (r + 2) r (r + 1) w (λ e. omega arith))

    -- bytes added to an emptied sector fill it, where its bytes in use are written first
    add_fill : (d : Disk) → add_run g (emptied g d s k) k xs ≡ fill d
    unfolding add_run emptied
    add_fill d =
        let x = write_link g d k s 0 in
        rw (in_use_write g x k 0, zero-add (length xs), h) (ap (λ y. write_in_use g y k g.room) (run_used g xs x k 0 0 (omega arith)) ∙ used_twice g (write_run x k 0 xs) k 0 g.room) ∙ sym (run_used g xs x k 0 g.room (omega arith))

    -- sector k given out whole
    add_give : p ≢ 0 → (d : Disk) → add_run g (give g d s p k) k xs ≡ filled (counted (mark_used d k) s 1)
    unfolding give linked counted use_all use_bits
    add_give z d =
        let e : more s 1 (use_all (k ∷ []) d) ≡ fewer 1 (more s 1 (mark_used d k)) = rw (← taken_count d k) (on-apart (on_more s 1) (on_fewer 1) (λ e. omega arith) (mark_used d k)) in
        rw (ne_eqb p 0 z) (add_fill (write_link g (more s 1 (use_all (k ∷ []) d)) p s k) ∙ ap filled e)

    module _ (x : Apart s p) (y : Apart s k) (z : p ≢ 0) (d : Disk) where
      -- one sector chained and settled is one given out whole
      settled-one : settled g (chained g d s p k xs) s k 1 ≡ add_run g (give g d s p k) k xs
      unfolding settled
      settled-one = ap (λ e. counted e s 1) (link_last d) ∙ filled-counted x y 1 (mark_used d k) ∙ sym (add_give z d)

      -- a link of sector p before a sector is taken and counted, or after it
      link_counted : (n : ℕ) → counted (mark_used (write_link g d p s 0) k) s n ≡ write_link g (counted (mark_used d k) s n) p s 0
      unfolding counted
      link_counted n =
          let o = on_link g p s 0 in
          ap (λ e. counted e s n) (on-apart (on_taken k) o x.table d)
          ∙ ap (fewer n) (on-apart (on_more s n) o x.slot (mark_used d k))
          ∙ on-apart (on_fewer n) o x.table (more s n (mark_used d k))

      -- and so is one more behind n of them
      settled_more : (n : ℕ) → free_count (d 360) < 65536 → settled g (chained g d s p k xs) s k (n + 1) ≡ add_run g (give g (settled g d s p n) s p k) k xs
      unfolding settled
      settled_more n f =
          let e = write_link g d p s 0 in
          let l : free_count (e 360) < 65536 = rw (on-other (on_link g p s 0) d 360 x.table) f in
          let q : counted (mark_used (settled g d s p n) k) s 1 ≡ write_link g (counted (mark_used d k) s (n + 1)) p s 0 = counted_more e s k n l ∙ link_counted (n + 1) in
          ap (λ e. counted e s (n + 1)) (link_last d)
          ∙ filled-counted x y (n + 1) (mark_used d k)
          ∙ sym (add_give z (settled g d s p n) ∙ ap filled q ∙ filled_again (counted (mark_used d k) s (n + 1)))

module _ (g : Geometry) (s p₀ p : ℕ) (d : Disk) where
  -- none chained, and some
  pub settled-none : p ≡ p₀ → settled_from g d s p₀ p ≡ d
  unfolding settled_from
  settled-none e = rw (eq-eqb p p₀ e)

  pub settled_some : p ≢ p₀ → settled_from g d s p₀ p ≡ settled g d s p (p - p₀)
  unfolding settled_from
  settled_some n = rw (ne_eqb p p₀ n)

-- the last of them, p, is a data sector
module _ (g : Geometry) (s p₀ p : ℕ) (d : Disk) (kind : data_sector p ≡ true) where
  -- a sector is as free before the counts are written as after it
  pub settled-free : (x : ℕ) → free (settled_from g d s p₀ p 360) x ≡ free (d 360) x
  unfolding settled counted
  settled-free x = go (ℕ_discrete p p₀)
    where
      go : Dec (p ≡ p₀) → free (settled_from g d s p₀ p 360) x ≡ free (d 360) x
      go (yes e) = rw (settled-none g s p₀ p d e)
      go (no n) =
          let y = write_link g d p s 0 in
          let z = more s (p - p₀) y in
          rw (settled_some g s p₀ p d n) (write_free_count-free z (free_count (z 360) - (p - p₀)) x)
          ∙ ap (λ r. free r x) (on-other (on_more s (p - p₀)) y 360 (λ e. omega arith) ∙ on-other (on_link g p s 0) d 360 (λ e. (data_facts p kind).table (sym e)))

  module _ (next : data_sector (p + 1) ≡ true) (xs : List ℕ) where
    -- a sector chained leaves the free count
    pub chained-count : free_count (chained g d s p (p + 1) xs 360) ≡ free_count (d 360)
    unfolding chained
    chained-count =
        let k = p + 1 in
        ap free_count (on-other (on_then (on-run xs k 0) (on_used g k g.room)) (write_link g (mark_used d k) p s k) 360 (λ e. (data_facts k next).table (sym e)) ∙ on-other (on_link g p s k) (mark_used d k) 360 (λ e. (data_facts p kind).table (sym e)))
        ∙ taken_count d k

    -- one sector more chained is one more given out whole, whether it is the first or not
    pub settled-next : s < 64 → length xs ≡ g.room → free_count (d 360) < 65536 → p₀ ≤ p → settled_from g (chained g d s p (p + 1) xs) s p₀ (p + 1) ≡ add_run g (give g (settled_from g d s p₀ p) s p (p + 1)) (p + 1) xs
    settled-next h l f least = settled_some g s p₀ k (chained g d s p k xs) (λ e. omega arith) ∙ go (ℕ_discrete p p₀)
      where
        k : ℕ
        k = p + 1

        x : Apart s p
        x = data_apart s p h kind

        y : Apart s k
        y = data_apart s k h next

        pos : p ≢ 0
        pos = λ e. let q = (data_facts p kind).pos in omega arith

        go : Dec (p ≡ p₀) → settled g (chained g d s p k xs) s k (k - p₀) ≡ add_run g (give g (settled_from g d s p₀ p) s p k) k xs
        go (yes e) = let n : k - p₀ ≡ 1 = omega arith in rw (settled-none g s p₀ p d e, n) (settled-one g s p k xs l x y pos d)
        go (no q) = let n : k - p₀ ≡ p - p₀ + 1 = omega arith in rw (settled_some g s p₀ p d q, n) (settled_more g s p k xs l x y pos d (p - p₀) f)
