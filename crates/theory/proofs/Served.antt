-- Calls on images: of one that is served each is the call on the disk that the image holds; of one that is not, each answers 203 or 205. What a call leaves is served as what it found.
use mathlib.Core.Bool.{Bool, true, false, true≢false}
use mathlib.Core.List.{List, [], ◌∷◌}
use mathlib.Core.Logic.{◌≢◌, ◌⊎◌, inl, inr}
use mathlib.Core.Path.{◌≡◌, refl, sym, ap, ◌∙◌}
use Prim.Native.Nat.{ℕ}
use native.Mathlib.Omega.{arith}
use lib.Dec.{eqb}
use lib.ListN.{length}
use borrow.Author.Tests.{eqb-true, not-true}
use Rattle.layout.specs.declared.Channel.{Channel}
use Rattle.layout.specs.declared.Table.{Table}
use Rattle.layout.specs.declared.density.Medium.{Medium}
use Rattle.std.specs.Prelude.{Result, Ok, Err}
use Rattle.rules.specs.declared.Block.{Block}
use Rattle.layout.specs.Basics.{check, member}
use Rattle.layout.specs.Image.{Sector, Disk, Geometry, atr_single, atr_double, geometry_of, view, image_of}
use Rattle.layout.specs.Header.{agrees, served_atr, served_as}
use Rattle.layout.specs.Status.{bad_image, bad_header}
use Rattle.layout.proofs.Check.{served_as_lem, served_not, by_check}
use Rattle.layout.proofs.Header.{served_whole, served_again}
use Rattle.layout.proofs.Image.{Lawful, lawful, image-view, image_length, view-header}
use Rattle.rules.specs.Get.{GetOutcome, get_on}
use Rattle.rules.specs.Put.{put_on}
use Rattle.rules.specs.Cio.{ImageOutcome, leaves, cio, cio_call}
use Rattle.rules.specs.Recovery.{ImageRecovered, recover, recover_call}
use Rattle.rules.specs.Sectors.{ImageSectorOutcome, sector, sector_call}
use Rattle.rules.specs.Showing.{shows}
use Rattle.rules.specs.Thin.{ImagePutOutcome, read_lent, thin_get, write_lent, thin_put}
use Rattle.rules.specs.Demand1.{Unserved, Reasons}
use Rattle.theory.proofs.Placed.{Placed, view_placed, placed_view}

module _ (l : List ℕ) (m : Medium) (w : served_as l ≡ Ok m) where
  abbrev g : Geometry
  g = geometry_of m

  pub laws : Lawful g
  laws = lawful m (served_whole l m w).0

  pub cio-on : (t : Table) (c : Block) (text b : List ℕ) → cio_call l t c text b ≡ leaves g l (cio g (view g l) t c text b)
  unfolding cio_call
  cio-on t c text b = served_as_lem {A = ImageOutcome} (served_as l) _ _ w

  pub recover-on : (protected : Bool) (s : ℕ) → let r = recover g (view g l) protected s in recover_call l protected s ≡ record { reply = r.reply; image = image_of g (length l) r.disk }
  unfolding recover_call
  recover-on protected s = served_as_lem {A = ImageRecovered} (served_as l) _ _ w

  pub sector-on : (protected : Bool) (device unit command k : ℕ) (b : List ℕ) → let o = sector g (view g l) protected device unit command k b in sector_call l protected device unit command k b ≡ record { reply = o.reply; image = image_of g (length l) o.disk; buffer = o.buffer }
  unfolding sector_call
  sector-on protected device unit command k b = served_as_lem {A = ImageSectorOutcome} (served_as l) _ _ w

  pub thin_get_on : (c : Channel) (b : List ℕ) → thin_get l c b ≡ get_on g (view g l) c.state b
  unfolding read_lent
  thin_get_on c b = served_as_lem {A = GetOutcome} (served_as l) _ _ w

  pub thin_put_on : (protected : Bool) (c : Channel) (b : List ℕ) → let o = put_on g (view g l) protected c.state b in thin_put l protected c b ≡ record { answer = o.answer; image = image_of g (length l) o.disk; given = o.given }
  unfolding write_lent
  thin_put_on protected c b = served_as_lem {A = ImagePutOutcome} (served_as l) _ _ w

  -- the image of the disk that it held before is the same list
  pub kept-image : (d : Disk) → d ≡ view g l → image_of g (length l) d ≡ l
  kept-image d e = rw e (image-view g laws l)

  -- the disk that it holds is one that an image can hold
  pub viewed : Placed g (view g l 0) (view g l)
  viewed = view_placed g laws l (served_whole l m w).1

  -- a disk with the same header that an image can hold: its image is as long, holds it, and is served alike
  module _ (d : Disk) (p : Placed g (view g l 0) d) where
    abbrev held : List ℕ
    held = image_of g (length l) d

    pub held-view : view g held ≡ d
    held-view = rw (served_whole l m w).1 (placed_view g laws (view g l 0) d p)

    pub held-served : served_as held ≡ Ok m
    held-served = served_again l held m w (image_length g (length l) d) (λ j b. sym (view-header m held j b) ∙ ap (λ (r : Sector). r j) (ap (λ (e : Disk). e 0) held-view ∙ p.header) ∙ view-header m l j b)

pub unserved : (l : List ℕ) (n : ℕ) → served_as l ≡ Err n → Unserved l n
unfolding cio_call recover_call sector_call read_lent write_lent shows
unserved l n w = record {
  calls = λ t c text b. ap (λ (o : ImageOutcome). o.answer.status) (served_not {A = ImageOutcome} _ _ _ w);
  recoveries = λ protected s. ap (λ (r : ImageRecovered). r.reply.status) (served_not {A = ImageRecovered} _ _ _ w);
  sectors = λ protected device unit command k b. ap (λ (o : ImageSectorOutcome). o.reply.status) (served_not {A = ImageSectorOutcome} _ _ _ w);
  thin_gets = λ c b. ap (λ (o : GetOutcome). o.answer.status) (served_not {A = GetOutcome} _ _ _ w);
  thin_puts = λ protected c b. ap (λ (o : ImagePutOutcome). o.answer.status) (served_not {A = ImagePutOutcome} _ _ _ w);
  shown = λ s k. served_not {A = Bool} _ _ _ w;
}

-- which images are not served
clash : {A : Type 0} {m : Medium} {k : ℕ} → Ok m ≡ Err k → A
clash e = absurd (let z : ◌≡◌ {A = ℕ} 0 1 = cc in omega arith)

module _ (l : List ℕ) where
  abbrev n : ℕ
  n = length l

  -- another length
  abbrev Other : Type 0
  Other = member n (92160 ∷ 92176 ∷ 183952 ∷ []) ≡ false

  other : served_as l ≡ Err bad_image → Other
  unfolding served_as served_atr member
  other = by_check P _ _ _ (λ _ e. clash e) λ a. by_check P _ _ _ (λ _. by_check P _ _ _ (λ _ e. swap e) λ _ e. clash e) λ b. by_check P _ _ _ (λ _. by_check P _ _ _ (λ _ e. swap e) λ _ e. clash e) λ c _. rw (a, b, c)
    where
      P : Result Medium ℕ → Type 0
      P v = v ≡ Err bad_image → Other

      swap : ◌≡◌ {A = Result Medium ℕ} (Err bad_header) (Err bad_image) → Other
      swap e = absurd (let z : ◌≡◌ {A = ℕ} 205 203 = cc in omega arith)

  unknown : (a b c : Bool) → eqb n 92160 ≡ a → eqb n 92176 ≡ b → eqb n 183952 ≡ c → Other → served_as l ≡ Err bad_image
  unfolding served_as check member
  unknown true b c p q r e = absurd (true≢false (rw p at e))
  unknown false true c p q r e = absurd (true≢false (rw (p, q) at e))
  unknown false false true p q r e = absurd (true≢false (rw (p, q, r) at e))
  unknown false false false p q r e = rw (p, q, r)

  -- an ATR file whose header does not agree
  abbrev Wrong : Type 0
  Wrong = (m : Medium) × ((m ≡ atr_single) ⊎ (m ≡ atr_double)) × (n ≡ (geometry_of m).total) × (agrees m l ≡ false)

  header : served_as l ≡ Err bad_header → Wrong
  unfolding served_as served_atr
  header = by_check P _ _ _ (λ _ e. clash e) λ _. by_check P _ _ _
      (λ q. by_check P _ _ _ (λ t _. (atr_single, inl refl, eqb-true n 92176 q, not-true (agrees atr_single l) t)) λ _ e. clash e)
      λ _. by_check P _ _ _
      (λ q. by_check P _ _ _ (λ t _. (atr_double, inr refl, eqb-true n 183952 q, not-true (agrees atr_double l) t)) λ _ e. clash e)
      λ _ e. absurd (let z : ◌≡◌ {A = ℕ} 203 205 = cc in omega arith)
    where
      P : Result Medium ℕ → Type 0
      P v = v ≡ Err bad_header → Wrong

  wrong : (m : Medium) → (m ≡ atr_single) ⊎ (m ≡ atr_double) → n ≡ (geometry_of m).total → agrees m l ≡ false → served_as l ≡ Err bad_header
  unfolding served_as served_atr check
  wrong m (inl e) p q = let p' : n ≡ 92176 = rw e at p in let q' : agrees atr_single l ≡ false = rw e at q in rw (p', q')
  wrong m (inr e) p q = let p' : n ≡ 183952 = rw e at p in let q' : agrees atr_double l ≡ false = rw e at q in rw (p', q')

  reasons : (k : ℕ) → served_as l ≡ Err k → (k ≡ bad_image) ⊎ (k ≡ bad_header)
  unfolding served_as served_atr
  reasons k = by_check P _ _ _ (λ _ e. clash e) λ _. by_check P _ _ _ (λ _. by_check P _ _ _ (λ _ e. inr cc) λ _ e. clash e) λ _. by_check P _ _ _ (λ _. by_check P _ _ _ (λ _ e. inr cc) λ _ e. clash e) λ _ e. inl cc
    where
      P : Result Medium ℕ → Type 0
      P v = v ≡ Err k → (k ≡ bad_image) ⊎ (k ≡ bad_header)

  pub not_served_lem : Reasons l
  not_served_lem = record {
    lengths = (other, λ e. unknown (eqb n 92160) (eqb n 92176) (eqb n 183952) refl refl refl e);
    headers = (header, λ k. let (m, e, p, q) = k in wrong m e p q);
    only = reasons;
  }

  -- so its number is no other than 203 and 205
  pub unserved-apart : (k : ℕ) → k ≢ bad_image → k ≢ bad_header → (n : ℕ) → served_as l ≡ Err n → n ≢ k
  unserved-apart k a b n w e = go (reasons n w)
    where
      go : (n ≡ bad_image) ⊎ (n ≡ bad_header) → ⊥
      go (inl f) = a (sym e ∙ f)
      go (inr f) = b (sym e ∙ f)
