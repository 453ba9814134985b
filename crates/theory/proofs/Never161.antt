-- No call answers 161. Every status is one of the numbers of demand 1's lists, and 161 is in none of them.
use mathlib.Core.Bool.{true}
use mathlib.Core.List.{List, [], ◌∷◌}
use mathlib.Core.Path.{◌≡◌, refl, ap, ◌∙◌}
use Prim.Native.Nat.{ℕ}
use Rattle.rules.specs.declared.Block.{Block}
use Rattle.rules.specs.declared.Form.TheVariants.{Characters, Record}
use Rattle.rules.specs.declared.Transfer.{Transfer}
use Rattle.rules.specs.declared.Transfer.TheVariants.{Get, Put}
use Rattle.rules.specs.declared.FileCommand.{FileCommand}
use Rattle.rules.specs.declared.FileCommand.TheVariants.{Open, Status, Rename, Delete, Lock, Unlock, Format}
use Rattle.rules.specs.declared.Command.TheVariants.{Moves, Files}
use Rattle.layout.specs.Basics.{member}
use Rattle.layout.specs.Image.{geometry_of, view}
use Rattle.layout.specs.Channels.{open_at}
use Rattle.layout.specs.Status.{success, end_reached, bad_image, bad_header, bad_channel, bad_command, not_served, channel_open, channel_closed, write_only, read_only, write_protected, bad_device, bad_unit, bad_name, bad_table, not_found, file_locked, file_held, bad_chain, name_taken, no_slot, disk_full, end_of_file, truncated, lost_chain, no_device, bad_request, bad_length}
use Rattle.layout.proofs.Check.{check_yes, by_check}
use Rattle.layout.proofs.Members.{passes, passes_each, member_apart}
use Rattle.layout.proofs.Search.{all_fails, all_at}
use Rattle.rules.specs.Commands.{Effect, on_closed}
use Rattle.rules.specs.Cio.{Outcome, ImageOutcome, command}
use Rattle.rules.specs.Demand1.{open_answers, get_answers, put_answers, command_answers, answers, recovery_answers, sector_answers, header_answers, Answers, Unserved}
use Rattle.rules.proofs.Ends.{by_command}
use Rattle.rules.proofs.Does.{does}
use Rattle.theory.specs.Never161.{EveryStatus, Never161}
use Rattle.theory.proofs.Served.{cio-on}
use Rattle.theory.proofs.Demand1.{demand1, on_any}

-- the numbers that a call can answer, all of them
unfoldable pub numbers : List ℕ
numbers =
    success ∷ end_reached ∷ bad_image ∷ bad_header ∷ bad_channel ∷ bad_command ∷ not_served ∷ channel_open ∷ channel_closed ∷ write_only ∷ read_only ∷ write_protected ∷ bad_device ∷ bad_unit ∷ bad_name ∷ bad_table ∷ not_found ∷ file_locked ∷ file_held ∷ bad_chain ∷ name_taken ∷ no_slot ∷ disk_full ∷ end_of_file ∷ truncated ∷ lost_chain ∷ no_device ∷ bad_request ∷ bad_length ∷ []

-- all of a list's numbers are among them
abbrev Within : List ℕ → Type 0
Within l = passes (λ n. member n numbers) l ≡ true

answers-within : (c : Block) → Within (answers c)
unfolding answers command_answers open_answers passes member numbers
answers-within c = by_check Within _ _ _ (λ _. refl) λ _. by_command (λ k. Within (command_answers c.direction k)) c.command moved refl filed refl refl
  where
    moved : (k : Transfer) → Within (command_answers c.direction (Moves k))
    moved (Get Characters) = refl
    moved (Get Record) = refl
    moved (Put f) = refl

    filed : (k : FileCommand) → Within (command_answers c.direction (Files k))
    filed Open = by_check Within _ _ _ (λ _. refl) λ _. by_check Within _ _ _ (λ _. refl) λ _. refl
    filed Status = refl
    filed Rename = refl
    filed Delete = refl
    filed Lock = refl
    filed Unlock = refl
    filed Format = refl

-- what holds of each of the numbers holds of every status
module _ (Q : ℕ → Type 0) (q : (n : ℕ) → member n numbers ≡ true → Q n) where
  -- of a number of a list that is within them
  of : {n : ℕ} (l : List ℕ) → Within l → member n l ≡ true → Q n
  of {n = n} l w m = q n (passes_each _ l w n m)

  -- of one that an image that is served answers from such a list, and any other image with its own refusal
  answered : (l : List ℕ) {status : ℕ} (list : List ℕ) → Within list → (Answers l → member status list ≡ true) → ((n : ℕ) → Unserved l n → status ≡ n) → Q status
  unfolding member numbers
  answered l list w on = on_any Q (q bad_image refl) (q bad_header refl) l (λ a. of list w (on a))

  pub every_status : EveryStatus Q
  unfolding passes member numbers
  every_status = record {
    calls = λ l t c text b. answered l (answers c) (answers-within c) (λ a. a.calls t c text b) (λ n u. u.calls t c text b);
    recoveries = λ l protected s. answered l recovery_answers refl (λ a. a.recoveries protected s) (λ n u. u.recoveries protected s);
    sectors = λ l protected device unit command k b. answered l sector_answers refl (λ a. a.sectors protected device unit command k b) (λ n u. u.sectors protected device unit command k b);
    thin_gets = λ l c b. answered l get_answers refl (λ a. a.thin_gets c b) (λ n u. u.thin_gets c b);
    thin_puts = λ l protected c b. answered l put_answers refl (λ a. a.thin_puts protected c b) (λ n u. u.thin_puts protected c b);
    headers = λ l protected. of header_answers refl (demand1.headers l protected);
  }

-- where all eight channels are open, so is the one that a command names
pub never161 : Never161
unfolding command on_closed member numbers
never161 = record {
  closed = λ t. all_fails (open_at t) 8;
  named = λ l m w t a c k e h text b. let g = geometry_of m in
      ap (λ (o : ImageOutcome). o.answer.status) (cio-on l m w t c text b)
      ∙ ap (λ (o : Outcome). o.effect.status) (does g (view g l) t c text b (record { small = h; command = e }))
      ∙ ap (λ (e : Effect). e.status) (check_yes {A = Effect} _ _ _ (all_at (open_at t) 8 a c.channel h));
  never = every_status _ (member_apart 161 numbers refl);
}
