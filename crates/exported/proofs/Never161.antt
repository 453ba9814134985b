-- No exported function answers 161: a result's low eight bits are the status of the rules, 255, or what showing and names have there.
use mathlib.Core.Bool.{Bool, true, false}
use mathlib.Core.List.{List}
use mathlib.Core.Path.{◌≡◌, refl}
use Prim.Native.Nat.{ℕ, ◌+◌, ◌*◌}
use native.Mathlib.Omega.{arith}
use Rattle.std.specs.Prelude.{Result, Ok, Err}
use Rattle.layout.specs.declared.FileName.{FileName}
use Rattle.layout.specs.Basics.{if, member}
use Rattle.layout.specs.Names.{read_name, whole_end, body, ending, name_status, parsed, parse_name}
use Rattle.layout.proofs.Check.{by_check}
use Rattle.layout.proofs.Members.{member_apart}
use Rattle.rules.specs.Showing.{shows, shown_start, shown_length}
use Rattle.rules.proofs.Ends.{by_read}
use Rattle.words.specs.Result.{result_of}
use Rattle.capi.specs.Leaves.{CioLeaves, cio_leaves, GetLeaves, read_leaves, PutLeaves, write_leaves, shown_result, NameLeaves, name_leaves}
use Rattle.theory.specs.Never161.{EveryStatus}
use Rattle.theory.proofs.Never161.{numbers, every_status}
use Rattle.exported.specs.Never161.{Not161, ResultsNever161}
use Rattle.exported.proofs.Words.{number_byte}

-- a result of one of the numbers, with any count
of_number : (n : ℕ) → member n numbers ≡ true → (count : ℕ) → Not161 (result_of n count)
unfolding member numbers
of_number n m count e =
    let h = number_byte n m in
    member_apart 161 numbers refl n m (omega arith)

results : EveryStatus (λ n. (count : ℕ) → Not161 (result_of n count))
results = every_status _ of_number

-- showing has 1 or 0 there
shown-result : (l : List ℕ) (s k : ℕ) → Not161 (shown_result l s k)
unfolding shown_result
shown-result l s k = go (shows l s k) (shown_start l s k * 1024 + shown_length l s k)
  where
    go : (b : Bool) (n : ℕ) → Not161 (result_of (if b 1 0) n)
    go true n e = omega arith
    go false n e = omega arith

-- a name has 1, 130, 160 or 165
name-result : (text b : List ℕ) → Not161 (name_leaves text b).result
unfolding name_leaves parse_name read_name
name-result text b = by_check (λ (o : NameLeaves). Not161 o.result) _ _ _ (λ _ e. omega arith) λ _. go (read_name text) refl
  where
    go : (x : Result FileName ℕ) → read_name text ≡ x → let p = parsed x (whole_end text (body text)) in Not161 (result_of (name_status p.name) p.place)
    go (Ok f) e = λ q. omega arith
    go (Err n) e = by_read (λ x. Not161 (result_of x 0)) (λ q. omega arith) (λ q. omega arith) (λ q. omega arith) ending text n e

pub results_never161 : ResultsNever161
unfolding cio_leaves read_leaves write_leaves
results_never161 = record {
  cio = λ l ws c text b. by_check (λ (o : CioLeaves). Not161 o.result) _ _ _ (λ _ e. omega arith) λ _. results.calls l _ c text b _;
  recover = λ l protected s. results.recoveries l protected s _;
  sector = λ l protected device unit command k b. results.sectors l protected device unit command k b _;
  show = shown-result;
  thin_get = λ l ws b. by_check (λ (o : GetLeaves). Not161 o.result) _ _ _ (λ _ e. omega arith) λ _. results.thin_gets l _ b _;
  thin_put = λ l protected ws b. by_check (λ (o : PutLeaves). Not161 o.result) _ _ _ (λ _ e. omega arith) λ _. results.thin_puts l protected _ b _;
  name = name-result;
  header = λ l protected. results.headers l protected _;
}
