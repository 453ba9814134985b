-- A write with the notch closed, of either form, leaves image and record, whatever it answers.
use mathlib.Core.Bool.{true, false, not}
use mathlib.Core.List.{List, []}
use mathlib.Core.Path.{◌≡◌, refl, ap, ◌∙◌}
use Prim.Native.Nat.{ℕ, ◌*◌}
use lib.ListN.{drop, take-append-drop}
use Rattle.layout.specs.declared.State.{State}
use Rattle.layout.specs.declared.density.Medium.{Medium}
use Rattle.std.specs.Prelude.{Ok, Err}
use Rattle.layout.specs.Image.{Disk, Geometry, geometry_of, view}
use Rattle.layout.specs.Header.{served_as}
use Rattle.layout.specs.Channels.{channel}
use Rattle.layout.proofs.Check.{check_yes, check_no, served_as_lem, served_not}
use Rattle.layout.proofs.Header.{served_whole}
use Rattle.layout.proofs.Image.{lawful, image-view}
use Rattle.rules.specs.declared.Form.{Form}
use Rattle.rules.specs.Get.{advanced}
use Rattle.rules.specs.Put.{sent, put_keeps, put_on}
use Rattle.rules.proofs.Sent.{none-reported}
use Rattle.rules.specs.Thin.{ImagePutOutcome, write_lent}
use Rattle.words.specs.Result.{result_of, malformed}
use Rattle.words.specs.Words.{is_channel, state_in, channel_at, with_channel}
use Rattle.words.proofs.Channels.{record_keeps}
use Rattle.capi.specs.Leaves.{PutLeaves, put_words, write_leaves}

-- a table with a record of its own in that record's place
pub own_record : (ws : List ℕ) (c : ℕ) → with_channel ws c (channel_at ws c) ≡ ws
unfolding with_channel channel_at
own_record ws c = rw (take-append-drop 5 (drop (5 * c) ws)) (take-append-drop (5 * c) ws)

module _ (l ws : List ℕ) (f : Form) (b : List ℕ) where
  -- this result, and all that was lent as it was
  abbrev pub stays : ℕ → PutLeaves
  stays r = record { result = r; image = l; channel = ws }

  pub not_record : is_channel ws ≡ false → write_leaves f l true ws b ≡ stays malformed
  unfolding write_leaves
  not_record e = check_yes _ _ _ (ap not e)

  module _ (good : is_channel ws ≡ true) where
    -- a write that leaves image and state
    kept : (n : ℕ) → write_lent f l true (channel (state_in ws)) b ≡ record { answer = advanced n 0 (state_in ws); image = l; given = [] } → write_leaves f l true ws b ≡ stays (result_of n 0)
    unfolding write_leaves
    kept n e = check_no {A = PutLeaves} _ _ _ (ap not good) ∙ ap (put_words ws) e ∙ ap (λ w. record { result = result_of n 0; image = l; channel = w }) (record_keeps ws (state_in ws) refl)

    pub not_served_lem : (n : ℕ) → served_as l ≡ Err n → write_leaves f l true ws b ≡ stays (result_of n 0)
    unfolding write_lent
    not_served_lem n q = kept n (served_not {A = ImagePutOutcome} _ _ _ q)

    -- what a put answers there, by the state that the words say
    pub served-closed : {m : Medium} {st : State} {n : ℕ} → served_as l ≡ Ok m → st ≡ state_in ws → ((g : Geometry) (d : Disk) (b : List ℕ) → put_on g d true st b ≡ put_keeps n d st) → write_leaves f l true ws b ≡ stays (result_of n 0)
    unfolding write_lent
    served-closed {m = m} {n = n} q e h =
        let g = geometry_of m in
        let k : put_on g (view g l) true (state_in ws) (sent f b) ≡ put_keeps n (view g l) (state_in ws) = rw e at (h g (view g l) (sent f b)) in
        kept n (served_as_lem {A = ImagePutOutcome} _ _ _ q ∙ rw (k, none-reported f b) (ap (λ i. record { answer = advanced n 0 (state_in ws); image = i; given = [] }) (image-view g (lawful m (served_whole l m q).0) l)))
