-- An image and the disk that it holds determine each other.
use mathlib.Core.Bool.{Bool, true, false}
use mathlib.Core.List.{List}
use mathlib.Core.Path.{◌≡◌, refl, sym, ap, ◌∙◌, fun_ext}
use Prim.Native.Nat.{ℕ, suc, zero, ◌+◌, ◌-◌, ◌*◌, ◌/◌, ◌%◌, ◌≤◌, ◌<◌}
use native.Mathlib.Decide.{dec_lt}
use native.Mathlib.Nat.{add-zero, zero-add, mul_comm, mul-le-mul, mul-le-mul_right, mod-add-div, mod-lt, mod-eq_of_lt, div-eq_of_lt, mul-add-div_right, mul-add-mod_self_right}
use native.Mathlib.Omega.{arith}
use lib.Dec.{eqb}
use lib.ListN.{length, get_or, set}
use lib.Seq.{get_or-set_same, get_or-set_other, ext_get_or}
use borrow.Author.Tests.{eqb-true, eqb-false, ne_eqb, ltb-true, lt-ltb, le-ltb}
use Rattle.layout.specs.Basics.{if, update, values_from}
use Rattle.layout.specs.declared.density.Density.{Density}
use Rattle.layout.specs.declared.density.Medium.{Medium}
use Rattle.layout.specs.Image.{Disk, Geometry, geometry, geometry_of, Regular, inside, view, image_of, write_byte, start_in, size_in, sector_in, place_in}

-- what everything else uses of a geometry
pub record Lawful (g : Geometry) : Type 0 where
  -- each byte of an image is at one place of one sector
  pub there : (i : ℕ) → g.place_of i < g.size (g.sector_of i)
  pub back : (i : ℕ) → g.start (g.sector_of i) + g.place_of i ≡ i
  pub sector : (k j : ℕ) → j < g.size k → g.sector_of (g.start k + j) ≡ k
  pub place : (k j : ℕ) → j < g.size k → g.place_of (g.start k + j) ≡ j
  -- the header and sectors 1 to 720 are the image
  pub within : (k j : ℕ) → k ≤ 720 → j < g.size k → g.start k + j < g.total
  pub beyond : (k j : ℕ) → 720 < k → g.total ≤ g.start k + j
  -- every sector has 128 bytes or more, and a file sector its data bytes and three behind them, which count in a byte
  pub least : (k : ℕ) → 1 ≤ k → 128 ≤ g.size k
  pub whole : (k : ℕ) → 4 ≤ k → g.size k ≡ g.room + 3
  pub roomy : 125 ≤ g.room
  pub small : g.room ≤ 253

-- a header of h bytes and a density: where the sectors start, and which sector a byte is in
module _ (h : ℕ) (d : Density) where
  abbrev g : Geometry
  g = geometry h d

  abbrev n : ℕ
  n = d.size

  -- sector 0 is the header
  pub start-header : g.start 0 ≡ 0
  unfolding start_in
  start-header = refl

  pub size-header : g.size 0 ≡ h
  unfolding size_in
  size-header = refl

  pub start_boot : (k : ℕ) → 1 ≤ k → k < 4 → g.start k ≡ h + (k - 1) * 128
  unfolding start_in
  start_boot k a b = rw (ne_eqb k 0 (λ e. omega arith), lt-ltb k 4 b)

  pub start_data : (k : ℕ) → 4 ≤ k → g.start k ≡ h + 384 + (k - 4) * n
  unfolding start_in
  start_data k a = rw (ne_eqb k 0 (λ e. omega arith), le-ltb k 4 a)

  pub size_boot : (k : ℕ) → 1 ≤ k → k < 4 → g.size k ≡ 128
  unfolding size_in
  size_boot k a b = rw (ne_eqb k 0 (λ e. omega arith), lt-ltb k 4 b)

  pub size_data : (k : ℕ) → 4 ≤ k → g.size k ≡ n
  unfolding size_in
  size_data k a = rw (ne_eqb k 0 (λ e. omega arith), le-ltb k 4 a)

  of_header : (i : ℕ) → i < h → (g.sector_of i ≡ 0) × (g.place_of i ≡ i)
  unfolding sector_in place_in
  of_header i a = (rw (lt-ltb i h a), rw (lt-ltb i h a))

  of_boot : (i : ℕ) → h ≤ i → i < h + 384 → (g.sector_of i ≡ (i - h) / 128 + 1) × (g.place_of i ≡ (i - h) % 128)
  unfolding sector_in place_in
  of_boot i a b = (rw (le-ltb i h a, lt-ltb i (h + 384) b), rw (le-ltb i h a, lt-ltb i (h + 384) b))

  of_data : (i : ℕ) → h + 384 ≤ i → (g.sector_of i ≡ (i - (h + 384)) / n + 4) × (g.place_of i ≡ (i - (h + 384)) % n)
  unfolding sector_in place_in
  of_data i a = let b : h ≤ i = omega arith in (rw (le-ltb i h b, le-ltb i (h + 384) a), rw (le-ltb i h b, le-ltb i (h + 384) a))

  -- a byte of a sector, found again
  module _ (pos : 0 < n) where
    at_data : (c j : ℕ) → j < n → ((c * n + j) / n ≡ c) × ((c * n + j) % n ≡ j)
    at_data c j b = let e = mul-add-div_right pos c j in let f = div-eq_of_lt b in (omega arith, mul-add-mod_self_right c n j ∙ mod-eq_of_lt b)

    found_at : (k j : ℕ) → j < g.size k → (g.sector_of (g.start k + j) ≡ k) × (g.place_of (g.start k + j) ≡ j)
    found_at k j b = go (dec_lt k 1) (dec_lt k 4)
      where
        go : Dec (k < 1) → Dec (k < 4) → (g.sector_of (g.start k + j) ≡ k) × (g.place_of (g.start k + j) ≡ j)
        go (yes a) c =
            let e : k ≡ 0 = omega arith in
            let b' : j < h = rw (e, size-header) at b in
            rw (e, start-header, zero-add j) (of_header j b')
        go (no a) (yes c) =
            let b' : j < 128 = rw (size_boot k (omega arith) c) at b in
            let e = of_boot (h + (k - 1) * 128 + j) (omega arith) (omega arith) in
            rw (start_boot k (omega arith) c) (e.0 ∙ omega arith, e.1 ∙ omega arith)
        go (no a) (no c) =
            let b' : j < n = rw (size_data k (omega arith)) at b in
            let i = h + 384 + (k - 4) * n + j in
            let e = of_data i (omega arith) in
            let r : i - (h + 384) ≡ (k - 4) * n + j = omega arith in
            let f = at_data (k - 4) j b' in
            rw (start_data k (omega arith)) (e.0 ∙ rw (r, f.0) (omega arith), e.1 ∙ rw (r, f.1))

    -- each byte is in a sector
    byte_at : (i : ℕ) → (g.place_of i < g.size (g.sector_of i)) × (g.start (g.sector_of i) + g.place_of i ≡ i)
    byte_at i = go (dec_lt i h) (dec_lt i (h + 384))
      where
        go : Dec (i < h) → Dec (i < h + 384) → (g.place_of i < g.size (g.sector_of i)) × (g.start (g.sector_of i) + g.place_of i ≡ i)
        go (yes a) b = let e = of_header i a in rw (e.0, e.1, size-header, start-header) (a, omega arith)
        go (no a) (yes b) =
            let e = of_boot i (omega arith) b in
            let k = (i - h) / 128 + 1 in
            rw (e.0, e.1, size_boot k (omega arith) (omega arith), start_boot k (omega arith) (omega arith)) (omega arith, omega arith)
        go (no a) (no b) =
            let e = of_data i (omega arith) in
            let x = i - (h + 384) in
            let k = x / n + 4 in
            let m = mod-add-div x n in
            let c : k - 4 ≡ x / n = omega arith in
            rw (e.0, e.1, size_data k (omega arith), start_data k (omega arith), c) (mod-lt x pos, let t = mul_comm n (x / n) in omega arith)

    in_image : (k j : ℕ) → k ≤ 720 → j < g.size k → g.start k + j < g.total
    in_image k j t b = go (dec_lt k 1) (dec_lt k 4)
      where
        go : Dec (k < 1) → Dec (k < 4) → g.start k + j < g.total
        go (yes a) c =
            let e : k ≡ 0 = omega arith in
            let b' : j < h = rw (e, size-header) at b in
            rw (e, start-header) (omega arith)
        go (no a) (yes c) = let b' : j < 128 = rw (size_boot k (omega arith) c) at b in rw (start_boot k (omega arith) c) (omega arith)
        go (no a) (no c) =
            let b' : j < n = rw (size_data k (omega arith)) at b in
            let m = mul-le-mul_right {m = k - 4} {n = 716} n (omega arith) in
            rw (start_data k (omega arith)) (omega arith)

    past_image : (k j : ℕ) → 720 < k → g.total ≤ g.start k + j
    past_image k j t = let m = mul-le-mul_right {m = 717} {n = k - 4} n (omega arith) in rw (start_data k (omega arith)) (omega arith)

-- once over the header and the sector size
module _ (m : Medium) (r : Regular m) where
  abbrev h : ℕ
  h = m.header

  abbrev d : Density
  d = m.density

  pos : 0 < d.size
  pos = omega arith

  least : (k : ℕ) → 1 ≤ k → Dec (k < 4) → 128 ≤ (geometry_of m).size k
  least k a (yes b) = rw (size_boot h d k a b) (omega arith)
  least k a (no b) = rw (size_data h d k (omega arith)) (omega arith)

  pub lawful : Lawful (geometry_of m)
  lawful = record {
    there = λ i. (byte_at h d pos i).0;
    back = λ i. (byte_at h d pos i).1;
    sector = λ k j b. (found_at h d pos k j b).0;
    place = λ k j b. (found_at h d pos k j b).1;
    within = in_image h d pos;
    beyond = past_image h d pos;
    least = λ k a. least k a (dec_lt k 4);
    whole = λ k a. rw (size_data h d k a) (omega arith);
    roomy = omega arith;
    small = omega arith;
  }

  -- the bytes of the sectors from the fourth to one of the disk fit a number of the code
  pub data_span : (k : ℕ) → k ≤ 720 → (k - 4) * d.size ≤ 183296
  data_span k a = let b = mul-le-mul {n₁ = k - 4} {m₁ = d.size} {n₂ = 716} {m₂ = 256} (omega arith) (omega arith) in omega arith

module _ (g : Geometry) where
  -- a place below a sector's length is inside, and one past it is none
  pub inside_yes : (k j : ℕ) → j < g.size k → inside g k j ≡ true
  unfolding inside
  inside_yes k j b = lt-ltb j (g.size k) b

  pub inside-no : (k j : ℕ) → g.size k ≤ j → inside g k j ≡ false
  unfolding inside
  inside-no k j b = le-ltb j (g.size k) b

  inside_lt : (k j : ℕ) → inside g k j ≡ true → j < g.size k
  unfolding inside
  inside_lt k j e = ltb-true j (g.size k) e

  -- a byte read from the image is the byte of its sector
  pub view_byte : (l : List ℕ) (k j : ℕ) → j < g.size k → view g l k j ≡ get_or l (g.start k + j) 0
  unfolding view
  view_byte l k j b = rw (inside_yes k j b)

  -- a place that is none reads as 0
  pub view_past : (l : List ℕ) (k j : ℕ) → g.size k ≤ j → view g l k j ≡ 0
  unfolding view
  view_past l k j b = rw (inside-no k j b)

-- a byte of the header is the image's byte of that number
pub view-header : (m : Medium) (l : List ℕ) (j : ℕ) → j < m.header → view (geometry_of m) l 0 j ≡ get_or l j 0
view-header m l j b = view_byte (geometry_of m) l 0 j (rw (size-header m.header m.density) b) ∙ ap (λ i. get_or l i 0) (rw (start-header m.header m.density) (zero-add j))

module _ (g : Geometry) (lawful : Lawful g) where
  -- a byte stored in the image is a byte of its sector written
  pub view_set : (l : List ℕ) (k j v : ℕ) → j < g.size k → g.start k + j < length l → view g (set l (g.start k + j) v) ≡ write_byte (view g l) k j v
  unfolding view write_byte update
  view_set l k j v b h = fun_ext (λ k'. fun_ext (λ j'. go k' j' (inside g k' j') refl (eqb k' k) refl (eqb j' j) refl))
    where
      e : inside g k j ≡ true
      e = inside_yes g k j b

      goal : ℕ → ℕ → Type 0
      goal k' j' = ◌≡◌ {A = ℕ} (if (inside g k' j') (get_or (set l (g.start k + j) v) (g.start k' + j') 0) 0) (write_byte (view g l) k j v k' j')

      go : (k' j' : ℕ) (a : Bool) → inside g k' j' ≡ a → (b : Bool) → eqb k' k ≡ b → (c : Bool) → eqb j' j ≡ c → goal k' j'
      go k' j' a p true q true r = rw (q, r, eqb-true k' k q, eqb-true j' j r, e) (get_or-set_same l (g.start k + j) v 0 h)
      go k' j' true p true q false r =
          let here : inside g k j' ≡ true = rw (eqb-true k' k q) at p in
          rw (q, r, eqb-true k' k q, here) (get_or-set_other l (g.start k + j) (g.start k + j') v 0 (λ x. eqb-false j' j r (sym (lawful.place k j' (inside_lt g k j' here)) ∙ ap g.place_of x ∙ lawful.place k j b)))
      go k' j' false p true q false r = let here : inside g k j' ≡ false = rw (eqb-true k' k q) at p in rw (q, r, eqb-true k' k q, here)
      go k' j' true p false q c r = rw (q, p) (get_or-set_other l (g.start k + j) (g.start k' + j') v 0 (λ x. eqb-false k' k q (sym (lawful.sector k' j' (inside_lt g k' j' p)) ∙ ap g.sector_of x ∙ lawful.sector k j b)))
      go k' j' false p false q c r = rw (q, p)

-- n values of a function have length n, and their i-th is the function's
module _ (f : ℕ → ℕ) where
  pub values_length : (n j : ℕ) → length (values_from f n j) ≡ n
  unfolding values_from
  values_length zero j = refl
  values_length (suc n) j = ap suc (values_length n (j + 1))

  pub values_at : (n j i : ℕ) → i < n → get_or (values_from f n j) i 0 ≡ f (j + i)
  unfolding values_from
  values_at zero j i h = absurd (omega arith)
  values_at (suc n) j zero h = ap f (sym (add-zero j))
  values_at (suc n) j (suc i) h = values_at n (j + 1) i (omega arith) ∙ ap f (omega arith)

-- an image of n bytes has n bytes
pub image_length : (g : Geometry) (n : ℕ) (d : Disk) → length (image_of g n d) ≡ n
unfolding image_of
image_length g n d = values_length _ n 0

module _ (g : Geometry) (lawful : Lawful g) where
  -- the image that holds the disk of an image is that image, whatever its length
  pub image-view : (l : List ℕ) → image_of g (length l) (view g l) ≡ l
  unfolding image_of
  image-view l = ext_get_or 0 (image_of g (length l) (view g l)) l size (λ i h. values_at at (length l) 0 i (rw size at h) ∙ ap at (zero-add i) ∙ view_byte g l (g.sector_of i) (g.place_of i) (lawful.there i) ∙ ap (λ x. get_or l x 0) (lawful.back i))
    where
      at : ℕ → ℕ
      at i = view g l (g.sector_of i) (g.place_of i)

      size : length (image_of g (length l) (view g l)) ≡ length l
      size = image_length g (length l) (view g l)

  -- so the disk after a call, and the length, which a call never changes, say every byte of the image after it
  pub image_of_lem : (l : List ℕ) (n : ℕ) (d : Disk) → length l ≡ n → view g l ≡ d → l ≡ image_of g n d
  image_of_lem l n d p q = rw (← p, ← q) (sym (image-view l))
