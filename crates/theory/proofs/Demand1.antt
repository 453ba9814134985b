-- Demand 1, of every call on any image.
use mathlib.Core.List.{List}
use mathlib.Core.Logic.{◌⊎◌, inl, inr}
use mathlib.Core.Path.{◌≡◌, refl}
use Prim.Native.Nat.{ℕ}
use Rattle.std.specs.Prelude.{Result, Ok, Err}
use Rattle.layout.specs.declared.density.Medium.{Medium}
use Rattle.layout.specs.Header.{served_as}
use Rattle.layout.specs.Status.{bad_image, bad_header}
use Rattle.rules.specs.Demand1.{Answers, Unserved, Demand1}
use Rattle.theory.proofs.Served.{unserved, not_served_lem}
use Rattle.theory.proofs.Answers.{all_answers, header-answers}
use Rattle.theory.proofs.Refusals.{refusals}
use Rattle.theory.proofs.Transfers.{transfers}

pub demand1 : Demand1
demand1 = record { answers = all_answers; unserved = unserved; reasons = not_served_lem; headers = header-answers; refusals = refusals; transfers = transfers }

-- what holds of 203 and 205, and of a status on an image that is served, holds of the status on any
pub on_any : (Q : ℕ → Type 0) → Q bad_image → Q bad_header → (l : List ℕ) {status : ℕ} → (Answers l → Q status) → ((n : ℕ) → Unserved l n → status ≡ n) → Q status
on_any Q p q l {status = status} on off = go (served_as l) refl
  where
    refused : (n : ℕ) → (n ≡ bad_image) ⊎ (n ≡ bad_header) → Q n
    refused n (inl e) = rw e p
    refused n (inr e) = rw e q

    go : (v : Result Medium ℕ) → served_as l ≡ v → Q status
    go (Ok m) e = on (demand1.answers l m e)
    go (Err n) e = rw (off n (demand1.unserved l n e)) (refused n ((demand1.reasons l).only n e))
