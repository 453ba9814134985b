-- A notch other than 0 is closed, and with it closed no exported function changes the image.
use mathlib.Core.Bool.{true, not}
use mathlib.Core.Logic.{◌≢◌}
use mathlib.Core.Path.{◌≡◌, refl, ap}
use Prim.Native.Nat.{ℕ}
use borrow.Author.Tests.{ne_eqb}
use Rattle.layout.proofs.Check.{by_check}
use Rattle.rules.specs.Lists.{Call, cio_of, recovery_of, protected_in}
use Rattle.capi.specs.Leaves.{CioLeaves, closed, cio_leaves, PutLeaves, write_leaves}
use Rattle.theory.proofs.Protected.{list_image, protects}
use Rattle.exported.specs.Words.{ImageWords, call_words, words}
use Rattle.exported.specs.Protected.{WordsProtected}

is_closed : (notch : ℕ) → notch ≢ 0 → closed notch ≡ true
is_closed notch n = ap not (ne_eqb notch 0 n)

-- one call
call_image : (c : Call) (x : ImageWords) → protected_in c ≡ true → (call_words c x).after.image ≡ x.image
unfolding call_words cio_leaves
call_image (cio_of c text b) x q = by_check (λ (o : CioLeaves). o.image ≡ x.image) _ _ _ (λ _. refl) λ _. protects.calls x.image _ c text b q
call_image (recovery_of protected s) x q = rw q (protects.recoveries x.image s)

pub words_protected : WordsProtected
unfolding call_words cio_leaves write_leaves
words_protected = record {
  cio = λ l ws notch channel command direction text b n. by_check (λ (o : CioLeaves). o.image ≡ l) _ _ _ (λ _. refl) λ _. protects.calls l _ _ text b (is_closed notch n);
  recover = λ l notch s n. rw (is_closed notch n) (protects.recoveries l s);
  sector = λ l notch device unit command k b n. rw (is_closed notch n) (protects.sectors l device unit command k b);
  thin_put = λ l notch ws b n. by_check (λ (o : PutLeaves). o.image ≡ l) _ _ _ (λ _. refl) λ _. rw (is_closed notch n) (protects.thin_puts l _ b);
  header = λ l notch n. rw (is_closed notch n) (protects.headers l);
  lists = λ g. list_image (words g) (λ x. x.image) call_image;
}
