-- The header written: the image is then served by it, and every sector is as it was.
use mathlib.Core.Bool.{true, false, ◌||◌, true≢false}
use mathlib.Core.List.{List}
use mathlib.Core.Path.{◌≡◌, refl, sym, ap, ◌∙◌}
use Prim.Native.Nat.{ℕ, ◌+◌, ◌-◌, ◌≤◌, ◌<◌}
use native.Mathlib.Decide.{dec_lt}
use native.Mathlib.Omega.{arith}
use lib.Dec.{eqb}
use lib.ListN.{length, get_or, drop, length-append, length-drop}
use lib.Seq.{get_or-append-add, get_or-drop}
use borrow.Author.Tests.{eqb-true, not-false}
use Rattle.layout.specs.declared.density.Medium.{Medium}
use Rattle.layout.specs.Basics.{all_below, values_from}
use Rattle.layout.specs.Image.{Geometry, atr_single, atr_double, geometry_of, view}
use Rattle.layout.specs.Header.{units, header_byte, same_header, agrees}
use Rattle.layout.specs.Status.{Succeeds}
use Rattle.layout.proofs.Check.{by_check}
use Rattle.layout.proofs.Image.{start_boot, start_data, view_byte, view_past, values_length}
use Rattle.layout.proofs.Header.{Kind, is_single, is_double, kind-served}
use Rattle.rules.specs.WriteHeader.{HeaderOutcome, header_bytes, with_header, header_call}
use Rattle.theory.specs.HeaderCalls.{Headed, HeaderCalls}

module _ (m : Medium) (l : List ℕ) (long : 16 ≤ length l) where
  abbrev g : Geometry
  g = geometry_of m

  -- sixteen bytes
  size : length (header_bytes m) ≡ 16
  unfolding header_bytes
  size = values_length (header_byte m) 16 0

  same_length : length (with_header m l) ≡ length l
  unfolding with_header
  same_length = length-append (header_bytes m) (drop 16 l) ∙ rw (size, length-drop 16 l) (omega arith)

  -- what lies behind them is as it was
  behind : (i : ℕ) → 16 ≤ i → get_or (with_header m l) i 0 ≡ get_or l i 0
  unfolding with_header
  behind i h =
      let n = i - 16 in
      let a : length (header_bytes m) + n ≡ i = rw size (omega arith) in
      let b : 16 + n ≡ i = omega arith in
      ap (λ x. get_or (with_header m l) x 0) (sym a) ∙ get_or-append-add (header_bytes m) (drop 16 l) n 0 ∙ get_or-drop 16 l n 0 ∙ ap (λ x. get_or l x 0) b

  -- and there lies every sector but the header
  module _ (s : m.header ≡ 16) where
    after : (k : ℕ) → 1 ≤ k → Dec (k < 4) → 16 ≤ g.start k
    after k a (yes b) = rw (start_boot m.header m.density k a b) (omega arith)
    after k a (no b) = rw (start_data m.header m.density k (omega arith)) (omega arith)

    sectors : (k j : ℕ) → 1 ≤ k → view g (with_header m l) k j ≡ view g l k j
    sectors k j a = go (dec_lt j (g.size k))
      where
        go : Dec (j < g.size k) → view g (with_header m l) k j ≡ view g l k j
        go (yes b) = let t = after k a (dec_lt k 4) in rw (view_byte g (with_header m l) k j b, view_byte g l k j b) (behind (g.start k + j) (omega arith))
        go (no b) = rw (view_past g (with_header m l) k j (omega arith), view_past g l k j (omega arith))

    headed : Kind (with_header m l) m → Headed l (with_header m l)
    headed q = record { medium = m; served = kind-served (with_header m l) m q; long = same_length; sectors = sectors }

-- the header agrees, whatever lies behind it
single-agrees : (l : List ℕ) → agrees atr_single (with_header atr_single l) ≡ true
unfolding agrees same_header all_below with_header header_bytes header_byte units values_from
single-agrees l = refl

double_agrees : (l : List ℕ) → agrees atr_double (with_header atr_double l) ≡ true
unfolding agrees same_header all_below with_header header_bytes header_byte units values_from
double_agrees l = refl

-- the other of the two lengths
is_double_lem : (n : ℕ) → (eqb n 92176 || eqb n 183952) ≡ true → eqb n 92176 ≡ false → n ≡ 183952
is_double_lem n p q = eqb-true n 183952 (rw q at p)

pub header-calls : HeaderCalls
unfolding header_call
header-calls l protected =
    by_check P _ _ _ (λ _ e. absurd (true≢false (sym e))) λ a.
    by_check P _ _ _ (λ _ e. absurd (true≢false (sym e))) λ _.
    by_check P _ _ _
    (λ q _. let n = eqb-true (length l) 92176 q in headed atr_single l (omega arith) refl (is_single refl (same_length atr_single l (omega arith) ∙ n) (single-agrees l)))
    λ q _. let n = is_double_lem (length l) (not-false (eqb (length l) 92176 || eqb (length l) 183952) a) q in headed atr_double l (omega arith) refl (is_double refl (same_length atr_double l (omega arith) ∙ n) (double_agrees l))
  where
    P : HeaderOutcome → Type 0
    P o = Succeeds o.reply.status → Headed l o.image
