-- Lines there and back, for every machine on which demand 2 holds.
use mathlib.Core.Bool.{Bool, true, false}
use mathlib.Core.List.{List, [], ◌∷◌, ◌++◌, append_assoc}
use mathlib.Core.Logic.{◌≢◌, ◌⊎◌, inl, inr}
use mathlib.Core.Path.{◌≡◌, refl, sym, ap, subst, ◌∙◌}
use Prim.Native.Nat.{ℕ, ◌+◌, ◌<◌}
use native.Mathlib.Omega.{arith}
use lib.Dec.{eqb}
use lib.ListN.{length, drop, length-append}
use lib.Seq.{take-nil, take_all}
use borrow.Author.Tests.{ne_eqb, lt-leb}
use Rattle.rules.specs.declared.Block.{Block}
use Rattle.rules.specs.declared.Form.{Form}
use Rattle.rules.specs.declared.Form.TheVariants.{Record}
use Rattle.rules.specs.declared.Transfer.TheVariants.{Get, Put}
use Rattle.rules.specs.declared.Command.TheVariants.{Moves}
use Rattle.layout.specs.Basics.{if, member, through, behind}
use Rattle.layout.specs.Image.{Disk, Geometry, geometry_of}
use Rattle.layout.specs.File.{end_of_line}
use Rattle.layout.specs.Status.{success, Succeeds, end_of_file}
use Rattle.layout.proofs.Lines.{through-second, behind-second, member-within}
use Rattle.rules.specs.Get.{or_end_reached}
use Rattle.rules.specs.Cio.{Outcome}
use Rattle.rules.specs.Lists.{Call, cio_of, recovery_of, Event, Machine, after, perform, run, events, disks, images}
use Rattle.rules.specs.Demand2.{On, StaysOpen, put_by, put_bytes, left_by, left_after, answered, HandsOut, StoredOver, Demand2}
use Rattle.rules.proofs.Reached.{by_end, or_refused}
use Rattle.theory.specs.LinesBack.{joined, PutsLines, none, other, line, GetsLines, end, line_answer, NextLine, LinesBack, DiskLinesBack, ImageLinesBack}
use Rattle.theory.proofs.Moving.{NoGet, getting, left-on, NoPut, putting}
use Rattle.theory.proofs.Sending.{sent_own}
use Rattle.theory.proofs.Demand2.{demand2}
use Rattle.theory.proofs.SoundCalls.{call_sound}
use Rattle.theory.proofs.OnImages.{image-sound, image_demand2}

-- no line has a $9B inside
data Plain : List (List ℕ) → Type 0 where
  nil : Plain []
  cons : {ls : List (List ℕ)} (l : List ℕ) → member end_of_line l ≡ false → Plain ls → Plain (l ∷ ls)

puts_plain : {i : ℕ} {ls : List (List ℕ)} {es : List Event} → PutsLines i ls es → Plain ls
puts_plain none = nil
puts_plain (other e n p) = puts_plain p
puts_plain (line c text l y o k s m p) = cons l m (puts_plain p)

-- a call that is no put on channel i puts nothing on it, and one that is no get from it leaves all
no_put : (i : ℕ) (c : Call) → ((f : Form) → On i (Moves (Put f)) c → ⊥) → (o : Outcome) → put_by i c o ≡ []
unfolding put_by
no_put i (recovery_of protected s) n o = refl
no_put i (cio_of c text b) n o = go (putting i c text b)
  where
    go : ((f : Form) × On i (Moves (Put f)) (cio_of c text b)) ⊎ NoPut i c text b → put_by i (cio_of c text b) o ≡ []
    go (inl (f, k)) = absurd (n f k)
    go (inr k) = k.put o

no_get : (i : ℕ) (c : Call) → ((f : Form) → On i (Moves (Get f)) c → ⊥) → (r : List ℕ) → left_by i c r ≡ r
unfolding left_by
no_get i (recovery_of protected s) n r = refl
no_get i (cio_of c text b) n r = go (getting i c text b)
  where
    go : ((f : Form) × On i (Moves (Get f)) (cio_of c text b)) ⊎ NoGet i c text b → left_by i (cio_of c text b) r ≡ r
    go (inl (f, k)) = absurd (n f k)
    go (inr k) = k.left r

-- what is behind a line is the next ones
line-behind : (l : List ℕ) (ls : List (List ℕ)) → member end_of_line l ≡ false → behind end_of_line (joined (l ∷ ls)) ≡ joined ls
unfolding joined behind
line-behind l ls m = behind-second end_of_line l (end_of_line ∷ joined ls) m

line-through : (l : List ℕ) (ls : List (List ℕ)) → member end_of_line l ≡ false → through end_of_line (joined (l ∷ ls)) ≡ l ++ end_of_line ∷ []
unfolding joined through
line-through l ls m = through-second end_of_line l (end_of_line ∷ joined ls) m

-- where no line is left, none is behind it
none_left : (t : Bool) → if t (joined []) (behind end_of_line (joined [])) ≡ joined []
unfolding joined behind
none_left true = refl
none_left false = refl

-- get records leave the lines that are left
lines_left : (i : ℕ) (ls : List (List ℕ)) (cs : List Call) (ms : List (List ℕ)) → Plain ls → GetsLines i ls cs ms → (left_after i cs (joined ls) ≡ joined ms) × Plain ms
unfolding left_after
lines_left i ls [] ms p none = (refl, p)
lines_left i ls (_ ∷ cs) ms p (other c n h) = let (e, q) = lines_left i ls cs ms p h in (ap (left_after i cs) (no_get i c n (joined ls)) ∙ e, q)
lines_left i (_ ∷ ls) (_ ∷ cs) ms (cons _ m p) (line k text b l o w h) =
    let (e, q) = lines_left i ls cs ms p h in
    (ap (left_after i cs) (left-on i k text b o (joined (l ∷ ls)) ∙ rw (ne_eqb (length b) 0 (λ z. omega arith)) (line-behind l ls m)) ∙ e, q)
lines_left i [] (_ ∷ cs) ms p (end k text b o h) = let (e, q) = lines_left i [] cs ms p h in (ap (left_after i cs) (left-on i k text b o (joined []) ∙ none_left (eqb (length b) 0)) ∙ e, q)

-- where there was no line none is left
none-behind : (i : ℕ) (ls : List (List ℕ)) (cs : List Call) (ms : List (List ℕ)) → GetsLines i ls cs ms → joined ls ≡ [] → ms ≡ []
unfolding joined
none-behind i [] [] ms none e = refl
none-behind i [] (_ ∷ cs) ms (other c n h) e = none-behind i [] cs ms h e
none-behind i [] (_ ∷ cs) ms (end k text b o h) e = none-behind i [] cs ms h e
none-behind i (l ∷ ls) cs ms h e = absurd (let n = ap length e in let m = length-append l (end_of_line ∷ joined ls) in omega arith)

no_line : through end_of_line (joined []) ≡ []
unfolding joined through
no_line = refl

-- where no line is left, 136
status-none : (n : ℕ) → n ≢ 0 → answered Record n [] ≡ end_of_file
unfolding member
status-none n h = rw (ne_eqb n 0 h, take-nil n, lt-leb n 0 (omega (arith, h)))

module _ (g : Geometry) (d : Disk) (i : ℕ) (sure : Type 0) where
  -- behind the last line nothing is left, and 3 is answered; behind another one something is
  line-status : (l : List ℕ) (ms : List (List ℕ)) (b : List ℕ) (o : Outcome) → member end_of_line l ≡ false → sure → length b ≢ 0 → answered Record (length b) (joined (l ∷ ms)) ≡ success → HandsOut g d i sure Record (joined (l ∷ ms)) b o → o.effect.status ≡ line_answer ms
  unfolding joined
  line-status l [] b o m u n a h = h.reached u n a (rw (ne_eqb (length b) 0 n) (line-behind l [] m))
  line-status l (k ∷ ms) b o m u n a h =
      h.status ∙ ap (or_end_reached g d b _) a
      ∙ by_end g d b _ (λ x. o.effect.status ≡ x → x ≡ success) success (λ _. refl)
      (λ _ _ _ e. absurd (let z = ap length (sym (line-behind l (k ∷ ms) m) ∙ (rw (ne_eqb (length b) 0 n) at (h.last e))) in let y = length-append k (end_of_line ∷ joined ms) in omega arith)) (h.status ∙ ap (or_end_reached g d b _) a)

  -- what a get record then hands out is the next line
  next-line : (ms : List (List ℕ)) (b : List ℕ) (o : Outcome) → Plain ms → (ms ≢ [] → sure) → HandsOut g d i sure Record (joined ms) b o → NextLine ms b o
  unfolding joined
  next-line [] b o p u h = λ n. (
    h.status ∙ ap (or_end_reached g d b _) (status-none (length b) n) ∙ or_refused g d b _ (λ q. omega arith),
    h.count ∙ rw no_line (omega arith),
    h.buffer ∙ rw (no_line, take-nil (length b)),
  )
  next-line (l ∷ ms) b o (cons _ m p) u h = λ n.
      let w = line-through l ms m in
      let k : length (l ++ end_of_line ∷ []) ≡ length l + 1 = length-append l (end_of_line ∷ []) in (
        line-status l ms b o m (u (λ e. let z = ap length e in omega arith)) (λ e. omega arith) (rw (ne_eqb (length b) 0 (λ e. omega arith), member-within end_of_line (length b) l (joined ms) n)) h,
        h.count ∙ rw (w, k) (omega arith),
        h.buffer ∙ rw (w, k, take_all (length b) (l ++ end_of_line ∷ []) (omega arith)) (append_assoc l (end_of_line ∷ []) (drop (length l + 1) b)),
      )

-- lists of calls joined
module _ {X : Type 0} (m : Machine X) where
  run_join : (ps cs : List Call) (x : X) → run m (ps ++ cs) x ≡ run m cs (run m ps x)
  unfolding run
  run_join [] cs x = refl
  run_join (c ∷ ps) cs x = run_join ps cs (m.next c x)

  stays-first : (i : ℕ) (ps cs : List Call) (x : X) → StaysOpen i (events m (ps ++ cs) x) → StaysOpen i (events m ps x)
  unfolding events
  stays-first i [] cs x h = tt
  stays-first i (c ∷ ps) cs x (n, h) = (n, stays-first i ps cs (m.next c x) h)

-- an event that is a put record of a line that answered 1 put the line and its $9B
Told : ℕ → Event → Type 0
Told i e = (c : Block) (text l : List ℕ) → e.call ≡ cio_of c text l → On i (Moves (Put Record)) (cio_of c text l) → Succeeds e.outcome.effect.status → member end_of_line l ≡ false → put_by i e.call e.outcome ≡ l ++ end_of_line ∷ []

AllTold : ℕ → List Event → Type 0
AllTold i [] = Unit {0}
AllTold i (e ∷ es) = Told i e × AllTold i es

-- so put records put the lines
lines_put : {i : ℕ} {ls : List (List ℕ)} {es : List Event} → PutsLines i ls es → AllTold i es → put_bytes i es ≡ joined ls
unfolding put_bytes joined Told AllTold
lines_put none t = refl
lines_put {i = i} (other e n p) (_, t) = rw (no_put i e.call n e.outcome) (lines_put p t)
lines_put (line c text l y o k s m p) (t, ts) = rw (t c text l refl k s m, lines_put p ts) (append_assoc l (end_of_line ∷ []) _)

module _ {X : Type 0} (m : Machine X) (g : Geometry) (x : X) (i s : ℕ) (puts : (cs : List Call) → StaysOpen i (events m cs x) → StoredOver g m x i s cs) where
  all_told : (cs ps : List Call) → StaysOpen i (events m (ps ++ cs) x) → AllTold i (events m cs (run m ps x))
  unfolding events AllTold Told run
  all_told [] ps h = tt
  all_told (c ∷ cs) ps h = (
    λ k text l e o st n. rw e ((puts ps (stays-first m i ps (c ∷ cs) x h)).whole Record k text l o (rw e at st) ∙ sent_own l n),
    rw (run_join m ps (c ∷ []) x) at (all_told cs (ps ++ c ∷ []) (rw (append_assoc ps (c ∷ []) cs) h)),
  )

hands_same : (g : Geometry) (d : Disk) (i : ℕ) (sure : Type 0) {r q b : List ℕ} {o : Outcome} → r ≡ q → HandsOut g d i sure Record r b o → HandsOut g d i sure Record q b o
hands_same g d i sure {b = b} {o = o} e h = subst (λ r. HandsOut g d i sure Record r b o) e h

-- where demand 2 holds, and after every call
pub lines_back : {X : Type 0} (m : Machine X) (g : Geometry) (x : X) → Demand2 g m x → ((c : Call) → Demand2 g m (m.next c x)) → LinesBack m x
unfolding run
lines_back m g x d later c text b o q k s w cs ns ls p close r u ds hs c' again b' o' q' f k' es ns' ms l j name into on =
    let call = cio_of c text b in
    let y = m.next call x in
    let z = (d.opens c text b o q k).small in
    let (_, returns) = d.whole c text b o q k s w cs ns close r u in
    let left = ((returns ds hs).reads c' again b' o' q' f k' es ns').next Record j name into on in
    let put : put_bytes c.channel (events m cs y) ≡ joined ls = lines_put p (all_told m g y c.channel s ((later call).puts c.channel s z w) cs [] ns) in
    let (e, plain) = lines_left c'.channel ls es ms (puts_plain p) l in
    next-line g _ c'.channel _ ms into _ plain (λ n h. n (none-behind c'.channel ls es ms l (sym put ∙ h))) (hands_same g _ c'.channel _ (ap (left_after c'.channel es) put ∙ e) left)

pub disk_lines_back : (g : Geometry) → 0 < g.room → DiskLinesBack g
disk_lines_back g roomy x a = lines_back (disks g) g x (demand2 g roomy x a) (λ c. demand2 g roomy (after (perform g c x)) (call_sound g roomy c x a))

pub image_lines_back : ImageLinesBack
unfolding run
image_lines_back m x a = lines_back (images (geometry_of m)) (geometry_of m) x (image_demand2 m x a) (λ c. image_demand2 m _ ((image-sound m).calls x a (c ∷ [])))
