-- What showing tells, by its answer; and what it shows lies within the image.
use mathlib.Core.Bool.{Bool, true, false}
use mathlib.Core.List.{List}
use mathlib.Core.Path.{◌≡◌, refl, sym, ◌∙◌}
use Prim.Native.Nat.{ℕ, ◌+◌, ◌≤◌, ◌<◌}
use native.Mathlib.Omega.{arith}
use lib.Dec.{ltb}
use lib.ListN.{length}
use Rattle.layout.specs.declared.density.Medium.{Medium}
use Rattle.std.specs.Prelude.{Result, Ok, Err}
use Rattle.layout.specs.Image.{Geometry, geometry_of, view}
use Rattle.layout.specs.Header.{served_as}
use Rattle.layout.specs.File.{in_use, fits}
use Rattle.layout.proofs.Check.{served_as_lem, served_not}
use Rattle.layout.proofs.Logic.{and_right}
use Rattle.layout.proofs.Data.{data_facts}
use Rattle.layout.proofs.Chain.{fits_data, fits_used}
use Rattle.layout.proofs.Header.{served_whole}
use Rattle.layout.proofs.Image.{lawful}
use Rattle.rules.specs.Showing.{enters, shows, shown_start, shown_length}

-- what a yes says of the sector
pub record Shown (g : Geometry) (l : List ℕ) (s k : ℕ) : Type 0 where
  pub fit : fits g (view g l k) s k ≡ true
  pub low : 4 ≤ k
  pub high : k < 720
  pub small : in_use g (view g l k) ≤ g.room

pub enters_true : (g : Geometry) (l : List ℕ) (s k : ℕ) → enters g l s k ≡ true → Shown g l s k
unfolding enters
enters_true g l s k e =
    let f = and_right (ltb s 64) (fits g (view g l k) s k) e in
    let q = data_facts k (fits_data g (view g l k) s k f) in
    record { fit = f; low = omega arith; high = omega arith; small = fits_used g (view g l k) s k f }

module _ (l : List ℕ) (s k : ℕ) where
  -- on an image that is served as m
  module _ (m : Medium) (e : served_as l ≡ Ok m) where
    pub shows_is : shows l s k ≡ enters (geometry_of m) l s k
    unfolding shows
    shows_is = served_as_lem {A = Bool} (served_as l) _ _ e

    pub start_yes : enters (geometry_of m) l s k ≡ true → shown_start l s k ≡ (geometry_of m).start k
    unfolding shown_start
    start_yes q = served_as_lem {A = ℕ} (served_as l) _ _ e ∙ rw q

    pub start-no : enters (geometry_of m) l s k ≡ false → shown_start l s k ≡ 0
    unfolding shown_start
    start-no q = served_as_lem {A = ℕ} (served_as l) _ _ e ∙ rw q

    pub length_yes : enters (geometry_of m) l s k ≡ true → shown_length l s k ≡ in_use (geometry_of m) (view (geometry_of m) l k)
    unfolding shown_length
    length_yes q = served_as_lem {A = ℕ} (served_as l) _ _ e ∙ rw q

    pub length_no : enters (geometry_of m) l s k ≡ false → shown_length l s k ≡ 0
    unfolding shown_length
    length_no q = served_as_lem {A = ℕ} (served_as l) _ _ e ∙ rw q

  -- no: an empty part at the image's start, whether the image is served or not
  pub shown-none : shows l s k ≡ false → (shown_start l s k ≡ 0) × (shown_length l s k ≡ 0)
  unfolding shown_start shown_length
  shown-none h = go (served_as l) refl
    where
      go : (v : Result Medium ℕ) → served_as l ≡ v → (shown_start l s k ≡ 0) × (shown_length l s k ≡ 0)
      go (Ok m) e = let q = sym (shows_is m e) ∙ h in (start-no m e q, length_no m e q)
      go (Err n) e = (served_not {A = ℕ} (served_as l) _ _ e, served_not {A = ℕ} (served_as l) _ _ e)

  pub shown-within : shown_start l s k + shown_length l s k ≤ length l
  unfolding shows
  shown-within = go (served_as l) refl (shows l s k) refl
    where
      none : shows l s k ≡ false → shown_start l s k + shown_length l s k ≤ length l
      none h = let (a, b) = shown-none h in omega arith

      go : (v : Result Medium ℕ) → served_as l ≡ v → (b : Bool) → shows l s k ≡ b → shown_start l s k + shown_length l s k ≤ length l
      go v e false h = none h
      go (Err n) e true h = none (served_not {A = Bool} (served_as l) _ _ e)
      go (Ok m) e true h =
          let q = sym (shows_is m e) ∙ h in
          let w = served_whole l m e in
          let t = enters_true (geometry_of m) l s k q in
          let a = start_yes m e q in
          let b = length_yes m e q in
          let u = (lawful m w.0).whole k t.low in
          let v = (lawful m w.0).within k (geometry_of m).room (omega arith) (omega arith) in
          omega arith
