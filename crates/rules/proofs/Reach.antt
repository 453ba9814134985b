-- How many bytes can come from a place on: at most those left in the entered sector, and a sector's data bytes for each sector yet to enter.
use mathlib.Core.Bool.{Bool, true, false, not, ◌&&◌, ◌||◌}
use mathlib.Core.List.{List}
use mathlib.Core.Logic.{◌⊎◌, inl, inr}
use mathlib.Core.Path.{◌≡◌, refl}
use Prim.Native.Nat.{ℕ, suc, zero, ◌+◌, ◌*◌, ◌-◌, ◌≤◌, ◌<◌}
use native.Mathlib.Nat.{mul-suc}
use native.Mathlib.Omega.{arith}
use lib.Dec.{leb, ltb, eqb}
use lib.ListN.{set}
use borrow.Author.Tests.{ltb-true, not-true}
use Rattle.layout.specs.Basics.{if}
use Rattle.layout.specs.Image.{Disk, Geometry}
use Rattle.layout.specs.File.{in_use, fits}
use Rattle.layout.specs.Status.{success}
use Rattle.layout.proofs.Logic.{and_left, and_right, or_cases}
use Rattle.layout.proofs.Chain.{fits_used}
use Rattle.rules.specs.declared.Form.{Form}
use Rattle.rules.specs.declared.Place.{Place}
use Rattle.rules.specs.declared.Seek.{Seek}
use Rattle.rules.specs.declared.Seek.TheVariants.{Ready, Ended, Broken}
use Rattle.rules.specs.Get.{ends_reading, place, reads, next_to_enter, has_byte, ends, seek, read_from, readable}
use Rattle.rules.proofs.Steps.{past, read_step}

module _ (g : Geometry) (d : Disk) (s : ℕ) where
  -- bytes left in the entered sector
  pub here : ℕ → ℕ → ℕ
  here k o = if (eqb k 0) 0 (in_use g (d k) - o)

  -- and with the sectors yet to enter
  unfoldable pub reach : ℕ → ℕ → ℕ → ℕ
  reach k o l = here k o + g.room * l

  -- a byte of the entered sector is one of them
  here_byte : (k o : ℕ) → has_byte g d k o ≡ true → here k (o + 1) + 1 ≤ here k o
  unfolding here has_byte
  here_byte k o e =
      let p = not-true (eqb k 0) (and_left (not (eqb k 0)) (ltb o (in_use g (d k))) e) in
      let q = ltb-true o (in_use g (d k)) (and_right (not (eqb k 0)) (ltb o (in_use g (d k))) e) in
      rw p (omega arith)

  -- a sector that fits has no more than there is room for
  here-most : (k : ℕ) → fits g (d k) s k ≡ true → (o : ℕ) → here k o ≤ g.room
  unfolding here
  here-most k e o = go (eqb k 0)
    where
      go : (b : Bool) → if b 0 (in_use g (d k) - o) ≤ g.room
      go true = omega arith
      go false = let h = fits_used g (d k) s k e in omega arith

  -- the byte that is found is within reach
  found_byte : (q : Place) → Place → Type 0
  found_byte p q = reach q.sector (q.offset + 1) q.left + 1 ≤ reach p.sector p.offset p.left

  seek_reach : (l k o : ℕ) (q : Place) → seek g d s k o l ≡ Ready q → found_byte (place k o l) q
  unfolding seek found_byte reach
  seek_reach zero k o q = go (has_byte g d k o) refl (ends g d k)
    where
      go : (b : Bool) → has_byte g d k o ≡ b → (c : Bool) → if b (Ready (place k o 0)) (if c (Ended (place k o 0)) (Broken (place k o 0))) ≡ Ready q → found_byte (place k o 0) q
      go true e c p = let z : place k o 0 ≡ q = cc in rw (← z) (let h = here_byte k o e in omega arith)
      go false e true p = let z : ◌≡◌ {A = ℕ} 0 1 = cc in absurd (omega arith)
      go false e false p = let z : ◌≡◌ {A = ℕ} 0 1 = cc in absurd (omega arith)
  seek_reach (suc l) k o q = go (has_byte g d k o) refl (ends g d k) refl (fits g (d n) s n) refl (seek_reach l n 0 q)
    where
      n : ℕ
      n = next_to_enter g d s k

      go : (b : Bool) → has_byte g d k o ≡ b → (c : Bool) → ends g d k ≡ c → (f : Bool) → fits g (d n) s n ≡ f
          → (seek g d s n 0 l ≡ Ready q → found_byte (place n 0 l) q) → seek g d s k o (suc l) ≡ Ready q → found_byte (place k o (suc l)) q
      go true e c p f t rest h = let m = rw (e, seek) at h in let z : place k o (suc l) ≡ q = cc in rw (← z) (let w = here_byte k o e in omega arith)
      go false e true p f t rest h = let m = rw (e, p, seek) at h in let z : ◌≡◌ {A = ℕ} 0 1 = cc in absurd (omega arith)
      go false e false p true t rest h =
          let m : seek g d s n 0 l ≡ Ready q = rw (e, p, t, seek) at h in
          let w = rest m in
          let u = here-most n t 0 in
          let v = mul-suc g.room l in
          omega arith
      go false e false p false t rest h = let m = rw (e, p, t, seek) at h in let z : ◌≡◌ {A = ℕ} 0 1 = cc in absurd (omega arith)

  pub read_reach : (f : Form) (n i : ℕ) (p : Place) (b : List ℕ) → (read_from g f d s n i p b).got.count ≤ i + reach p.sector p.offset p.left
  unfolding read_from found_byte
  read_reach f zero i p b = omega arith
  read_reach f (suc n) i p b =
      read_step g d s (λ r. r.got.count ≤ i + reach p.sector p.offset p.left) f n i p b
      (λ q e _. let w = seek_reach p.left p.sector p.offset q e in omega arith)
      (λ q e _. let w = seek_reach p.left p.sector p.offset q e in let m = read_reach f n (i + 1) (past q) (set b i (d q.sector q.offset)) in omega arith)
      (λ _ _. omega arith)
      (λ _ _. omega arith)

  -- what may be read on from has at most a sector's bytes left
  pub readable-most : (k o : ℕ) → readable g d s k o ≡ true → here k o ≤ g.room
  unfolding readable here
  readable-most k o e = go (or_cases (eqb k 0) (fits g (d k) s k && leb o (in_use g (d k))) (and_right (ltb s 64) (eqb k 0 || fits g (d k) s k && leb o (in_use g (d k))) e))
    where
      go : (eqb k 0 ≡ true) ⊎ ((fits g (d k) s k && leb o (in_use g (d k))) ≡ true) → here k o ≤ g.room
      go (inl z) = rw z (omega arith)
      go (inr f) = here-most k (and_left (fits g (d k) s k) (leb o (in_use g (d k))) f) o

  -- behind a byte that was found the entered sector has fewer left than there is room for
  pub seek-inside : (l k o : ℕ) (q : Place) → here k o ≤ g.room → seek g d s k o l ≡ Ready q → here q.sector (q.offset + 1) + 1 ≤ g.room
  unfolding seek
  seek-inside zero k o q w = go (has_byte g d k o) refl (ends g d k)
    where
      go : (b : Bool) → has_byte g d k o ≡ b → (c : Bool) → if b (Ready (place k o 0)) (if c (Ended (place k o 0)) (Broken (place k o 0))) ≡ Ready q → here q.sector (q.offset + 1) + 1 ≤ g.room
      go true e c p = let z : place k o 0 ≡ q = cc in rw (← z) (let h = here_byte k o e in omega arith)
      go false e true p = let z : ◌≡◌ {A = ℕ} 0 1 = cc in absurd (omega arith)
      go false e false p = let z : ◌≡◌ {A = ℕ} 0 1 = cc in absurd (omega arith)
  seek-inside (suc l) k o q w = go (has_byte g d k o) refl (ends g d k) refl (fits g (d n) s n) refl (seek-inside l n 0 q)
    where
      n : ℕ
      n = next_to_enter g d s k

      go : (b : Bool) → has_byte g d k o ≡ b → (c : Bool) → ends g d k ≡ c → (f : Bool) → fits g (d n) s n ≡ f
          → (here n 0 ≤ g.room → seek g d s n 0 l ≡ Ready q → here q.sector (q.offset + 1) + 1 ≤ g.room) → seek g d s k o (suc l) ≡ Ready q → here q.sector (q.offset + 1) + 1 ≤ g.room
      go true e c p f t rest h = let m = rw (e, seek) at h in let z : place k o (suc l) ≡ q = cc in rw (← z) (let u = here_byte k o e in omega arith)
      go false e true p f t rest h = let m = rw (e, p, seek) at h in let z : ◌≡◌ {A = ℕ} 0 1 = cc in absurd (omega arith)
      go false e false p true t rest h = rest (here-most n t 0) (rw (e, p, t, seek) at h)
      go false e false p false t rest h = let m = rw (e, p, t, seek) at h in let z : ◌≡◌ {A = ℕ} 0 1 = cc in absurd (omega arith)

  -- where more bytes are wanted than can come, it does not matter how many more
  pub read_enough : (f : Form) (n m i : ℕ) (p : Place) (b : List ℕ) → reach p.sector p.offset p.left < n → reach p.sector p.offset p.left < m → read_from g f d s n i p b ≡ read_from g f d s m i p b
  unfolding read_from found_byte
  read_enough f zero m i p b h k = absurd (omega arith)
  read_enough f (suc n) zero i p b h k = absurd (omega arith)
  read_enough f (suc n) (suc m) i p b h k = go (seek g d s p.sector p.offset p.left) refl (read_enough f n m (i + 1))
    where
      More : Type 0
      More = (p : Place) (b : List ℕ) → reach p.sector p.offset p.left < n → reach p.sector p.offset p.left < m → read_from g f d s n (i + 1) p b ≡ read_from g f d s m (i + 1) p b

      pick : (t : Bool) (q : Place) (c : List ℕ) → reach q.sector (q.offset + 1) q.left < n → reach q.sector (q.offset + 1) q.left < m → More
          → if t (reads success (i + 1) (past q) c) (read_from g f d s n (i + 1) (past q) c) ≡ if t (reads success (i + 1) (past q) c) (read_from g f d s m (i + 1) (past q) c)
      pick true q c u v more = refl
      pick false q c u v more = more (past q) c u v

      go : (q : Seek) → seek g d s p.sector p.offset p.left ≡ q → More → read_from g f d s (suc n) i p b ≡ read_from g f d s (suc m) i p b
      go (Ready q) e more =
          let w = seek_reach p.left p.sector p.offset q e in
          let x = d q.sector q.offset in
          rw (e, read_from) (pick (ends_reading f x) q (set b i x) (omega arith) (omega arith) more)
      go (Ended q) e more = rw (e, read_from)
      go (Broken q) e more = rw (e, read_from)
