-- Every call ends in a refusal or in one of the acts. The rows of every command are gone down here, once.
use mathlib.Core.Bool.{Bool, true, false, not, ◌&&◌, true≢false}
use mathlib.Core.Logic.{◌≢◌}
use mathlib.Core.List.{List, [], ◌∷◌}
use mathlib.Core.Path.{◌≡◌, refl, sym, ap, subst, ◌∙◌}
use Prim.Native.Nat.{ℕ, ◌+◌}
use native.Mathlib.Omega.{arith}
use lib.Dec.{leb, eqb}
use lib.ListN.{length}
use borrow.Author.Tests.{eqb-true, eqb-false, leb-false, lt-leb, not-true, not-false}
use Rattle.layout.specs.declared.State.{State}
use Rattle.layout.specs.declared.State.TheVariants.{Closed, Reading, Writing}
use Rattle.layout.specs.declared.Table.{Table}
use Rattle.std.specs.Prelude.{Option, Some, None, Result, Ok, Err}
use Rattle.layout.specs.declared.FileName.{FileName}
use Rattle.rules.specs.declared.Unfound.{Unfound}
use Rattle.rules.specs.declared.Unfound.TheVariants.{Missing, Denied}
use Rattle.rules.specs.declared.Block.{Block}
use Rattle.rules.specs.declared.Form.{Form}
use Rattle.rules.specs.declared.Form.TheVariants.{Characters, Record}
use Rattle.rules.specs.declared.Transfer.{Transfer}
use Rattle.rules.specs.declared.Transfer.TheVariants.{Get, Put}
use Rattle.rules.specs.declared.FileCommand.{FileCommand}
use Rattle.rules.specs.declared.FileCommand.TheVariants.{Open, Status, Rename, Delete, Lock, Unlock, Format}
use Rattle.rules.specs.declared.Command.{Command}
use Rattle.rules.specs.declared.Command.TheVariants.{Moves, Close, Files, Unlisted}
use Rattle.layout.specs.Basics.{if, check, member}
use Rattle.layout.specs.Image.{Disk, Geometry}
use Rattle.layout.specs.Volume.{bit_on, bit_off, good, lowest}
use Rattle.layout.specs.Directory.{flag, write_flag, locked, found, find, is43}
use Rattle.layout.specs.File.{clean}
use Rattle.layout.specs.Channels.{state_of, with_state, held}
use Rattle.layout.specs.Names.{well_formed, name_at, read_as, body, ending, comma, whole_end, named, read_name, old_name, new_name, read_device, file_name}
use Rattle.layout.specs.Status.{success, Fails, bad_channel, bad_command, channel_open, write_only, channel_closed, write_protected, not_served, bad_device, bad_unit, bad_name, bad_table, not_found, file_locked, file_held, bad_chain, truncated}
use Rattle.layout.proofs.Check.{check_yes, check_no, by_check, by_name, by_found}
use Rattle.layout.proofs.Channels.{with_id}
use Rattle.layout.proofs.Logic.{and_left, and_right}
use Rattle.layout.proofs.Members.{member_head, member_tail}
use Rattle.rules.specs.Get.{readable, gets, GetOutcome, read_on, or_end_reached, tells_end, get_as}
use Rattle.rules.specs.Put.{sent, reported, writable, put_from, puts, PutOutcome, put_keeps, put_on}
use Rattle.rules.specs.Commands.{Effect, refused, could_change, done, put_at, passing, sought, target, may_change, may_free, both, aimed, open_read, open_found, open_new, open_target, open_write, open_call, close_state, close_call, status_call, rename_at, rename_call, delete_at, delete_call, flag_at, lock_call, unlock_call, format_call, file_command, on_closed}
use Rattle.rules.specs.Cio.{Outcome, outcome, get_at, command_of, Asks, transfer, command, cio}
use Rattle.rules.specs.Recovery.{Recovered, recovered, recover}
use Rattle.rules.specs.Demand1.{read_answers, write_answers, open_answers, get_answers, status_answers, lock_answers, format_answers, command_answers, answers, recovery_answers}
use Rattle.rules.specs.Lists.{Call, cio_of, recovery_of, System, recovering, outcome_of}
use Rattle.rules.proofs.Sent.{none-reported}
use Rattle.rules.proofs.Told.{by_passing, may_change_lem, may_free_lem}
use Rattle.rules.proofs.Acts.{plainly, Kind, asks, recovers, kind_of, On, Told, bytes, GetEnds, get_closed, get_writing, get_broken, get_none, get_some, PutWhy, put_plain, put_barred, put_no-table, put_broken, PutEnds, put_refuses, put_none, put_some, Why, plain, barred, no_table, no-chain, no_read, no_write, Ready, Aimed, Flags, Closes, Ends, refuses, reads, reads_none, writes, writes-none, frees, closes, drops, opens, rewrites, makes, tells, renames, deletes, locks, unlocks, formats, restores}

-- a refusal is no success
pub why_fails : {g : Geometry} {d : Disk} {t : Table} {protected : Bool} {k : Kind} {n : ℕ} → Why g d t protected k n → Fails n
why_fails (plain n p) e = true≢false (sym (rw e at p))
why_fails (barred q) e = true≢false (sym e)
why_fails (no_table h) e = true≢false (sym e)
why_fails (no-chain w s f h) e = true≢false (sym e)
why_fails (no_read i s k o l z q h) e = true≢false (sym e)
why_fails (no_write i s p z q h) e = true≢false (sym e)

-- a name's refusal is 130, 160 or 165: what holds of these holds of it
module _ (Q : ℕ → Type 0) (p : Q bad_device) (q : Q bad_unit) (r : Q bad_name) where
  is_refused : (k n : ℕ) → Q k → ◌≡◌ {A = Result FileName ℕ} (Err k) (Err n) → Q n
  is_refused k n h e = let v : k ≡ n = cc in rw (← v) h

  pub by_name_at : (ends : ℕ → Bool) (text : List ℕ) (i n : ℕ) → name_at ends text i ≡ Err n → Q n
  unfolding name_at
  by_name_at ends text i n = go (well_formed ends text i) _ _
    where
      go : (b : Bool) (x y : ℕ) → if b (Ok (file_name x y)) (Err bad_name) ≡ Err n → Q n
      go true x y e = absurd (let v : ◌≡◌ {A = ℕ} 0 1 = cc in omega arith)
      go false x y e = is_refused bad_name n r e

  pub by_read : (ends : ℕ → Bool) (text : List ℕ) (n : ℕ) → read_as ends text ≡ Err n → Q n
  unfolding read_as
  by_read ends text n = by_check P _ _ _ (λ _. is_refused bad_device n p) λ _. by_check P _ _ _ (λ _. is_refused bad_unit n q) λ _. by_name_at ends text (body text) n
    where
      P : Result FileName ℕ → Type 0
      P m = m ≡ Err n → Q n

  pub by_device : Q success → (text : List ℕ) → Q (read_device text)
  unfolding read_device
  by_device s text = by_check Q _ _ _ (λ _. p) λ _. by_check Q _ _ _ (λ _. q) λ _. by_check Q _ _ _ (λ _. r) λ _. s

-- two names: the refusal is that of either; where there is none the first was read
both-refused : (Q : ℕ → Type 0) (a b : Result FileName ℕ) → ((n : ℕ) → a ≡ Err n → Q n) → ((n : ℕ) → b ≡ Err n → Q n) → (n : ℕ) → both a b ≡ Err n → Q n
unfolding both
both-refused Q (Err k) b p q n e = p n e
both-refused Q (Ok f) (Err k) p q n e = q n e
both-refused Q (Ok f) (Ok h) p q n e = p n e

both_first : (a b : Result FileName ℕ) (x y : ℕ) → both a b ≡ Ok (file_name x y) → a ≡ Ok (file_name x y)
unfolding both
both_first (Err k) b x y e = e
both_first (Ok f) (Err k) x y e = absurd (let q : ◌≡◌ {A = ℕ} 0 1 = cc in omega arith)
both_first (Ok f) (Ok h) x y e = e

-- a get and a put on one channel, of either form
module _ (g : Geometry) (d : Disk) where
  pub get_ends : (f : Form) (st : State) (b : List ℕ) → GetEnds g d f b st (get_as g f d st b)
  unfolding read_on or_end_reached get_as
  get_ends f Closed b = get_closed
  get_ends f (Writing s p) b = get_writing s p
  get_ends f (Reading s k o l) b =
      by_check P _ _ _ (λ n. rw n (get_none s k o l (eqb-true (length b) 0 n))) λ n.
      by_check P _ _ _ (λ r. get_broken s k o l (not-true (readable g d s k o) r)) λ r.
      get_some s k o l (eqb-false (length b) 0 n) (not-false (readable g d s k o) r)
    where
      P : GetOutcome → Type 0
      P z = GetEnds g d f b (Reading s k o l) (tells_end g d b z)

  pub put_ends : (protected : Bool) (st : State) (b : List ℕ) → PutEnds g d protected b st (put_on g d protected st b)
  unfolding put_on member
  put_ends protected Closed b = put_refuses Closed _ (put_plain _ refl) refl
  put_ends protected (Reading s k o l) b = put_refuses (Reading s k o l) _ (put_plain _ refl) refl
  put_ends protected (Writing s p) b =
      by_check (PutEnds g d protected b (Writing s p)) _ _ _ (λ u. put_refuses _ _ (put_barred u) refl) λ u.
      by_check (PutEnds g d protected b (Writing s p)) _ _ _ (λ n. put_none s p (eqb-true (length b) 0 n)) λ n.
      by_check (PutEnds g d protected b (Writing s p)) _ _ _ (λ v. put_refuses _ _ (put_no-table (not-true (good (d 360)) v)) refl) λ v.
      by_check (PutEnds g d protected b (Writing s p)) _ _ _ (λ w. put_refuses _ _ (put_broken s p (not-true (writable g d s p) w)) refl) λ w.
      put_some s p u (eqb-false (length b) 0 n) (not-false (good (d 360)) v) (not-false (writable g d s p) w)

  -- a put on a writing channel that passes the checks behind 144 adds the bytes, if there are any
  pub put_passes : (P : PutOutcome → Type 0) (protected : Bool) (s p : ℕ) (b : List ℕ) → good (d 360) ≡ true → writable g d s p ≡ true
      → (protected ≡ true → P (put_keeps write_protected d (Writing s p))) → (protected ≡ false → length b ≡ 0 → P (put_keeps success d (Writing s p))) → (protected ≡ false → length b ≢ 0 → P (puts s (put_from g b d s p 0)))
      → P (put_on g d protected (Writing s p) b)
  unfolding put_on
  put_passes P protected s p b v w closed none some =
      by_check P _ _ _ closed λ u.
      by_check P _ _ _ (λ n. none u (eqb-true (length b) 0 n)) λ n.
      by_check P _ _ _ (λ q. absurd (true≢false (sym v ∙ not-true (good (d 360)) q))) λ _.
      by_check P _ _ _ (λ q. absurd (true≢false (sym w ∙ not-true (writable g d s p) q))) λ _.
      some u (eqb-false (length b) 0 n)

-- a table of checks whose refusals have their numbers among l: what P says holds of each of them
record Rows {A : Type 0} (g : Geometry) (d : Disk) (t : Table) (protected : Bool) (k : Kind) (P : A → Type 0) (refusal : ℕ → A) (l : List ℕ) : Type 0 where
  refusing : (n : ℕ) → Why g d t protected k n → member n l ≡ true → P (refusal n)

-- a number that tells nothing of the table or of a chain, among l
abbrev Plain : List ℕ → ℕ → Type 0
Plain l n = (plainly n && member n l) ≡ true

-- 130, 160 and 165 are among l
abbrev Names : List ℕ → Type 0
Names l = (member bad_device l && (member bad_unit l && member bad_name l)) ≡ true

-- the kinds of rows
module _ {A : Type 0} {g : Geometry} {d : Disk} {t : Table} {protected : Bool} {k : Kind} {P : A → Type 0} {refusal : ℕ → A} {l : List ℕ} (w : Rows g d t protected k P refusal l) where
  refuse_plain : (n : ℕ) → Plain l n → P (refusal n)
  refuse_plain n p = w.refusing n (plain n (and_left (plainly n) (member n l) p)) (and_right (plainly n) (member n l) p)

  row : {test : Bool} (n : ℕ) (rest : Unit {0} → A) → Plain l n → (test ≡ false → P (rest tt)) → P (check test (refusal n) rest)
  row {test = test} n rest p q = by_check P test _ rest (λ _. refuse_plain n p) q

  -- a test that must hold, and that tells why where it does not
  row_why : {test : Bool} {n : ℕ} (rest : Unit {0} → A) → (test ≡ false → Why g d t protected k n) → member n l ≡ true → (test ≡ true → P (rest tt)) → P (check (not test) (refusal n) rest)
  row_why {test = test} {n = n} rest y m q = by_check P (not test) _ rest (λ e. w.refusing n (y (not-true test e)) m) λ e. q (not-false test e)

  -- 144, where the notch is closed and the call could change the image
  notch_row : {change : Bool} (rest : Unit {0} → A) → (change ≡ true → member write_protected l ≡ true) → ((change && protected) ≡ false → P (rest tt)) → P (check (change && protected) (refusal write_protected) rest)
  notch_row {change = change} rest m q = by_check P (change && protected) _ rest (λ e. w.refusing write_protected (barred (and_right change protected e)) (m (and_left change protected e))) q

  name-row : {x : Result FileName ℕ} (rest : (ℕ → ℕ) → A) → ((n : ℕ) → x ≡ Err n → Plain l n) → ((r : Told x) → P (rest (bytes r))) → P (named x refusal rest)
  name-row {x = x} rest p q = by_name P x refusal rest (λ n e. refuse_plain n (p n e)) λ a e r. q (record { word = a; extension = e; read = r })

  found-row : {f : Option ℕ} (n : ℕ) (rest : ℕ → A) → Plain l n → ((s : ℕ) → f ≡ Some s → P (rest s)) → P (found f (refusal n) rest)
  found-row {f = f} n rest p q = by_found P f _ rest (λ _. refuse_plain n p) q

  -- 167 and 200, where a file is to be changed
  module _ (s : ℕ) (rest : Unit {0} → A) (p : Plain l file_locked) (q : Plain l file_held) where
    abbrev Refuses : ℕ → Type 0
    Refuses n = n ≢ success → P (refusal n)

    kept : Refuses (may_change d t s)
    unfolding may_change
    kept = by_check Refuses _ _ _ (λ _ _. refuse_plain file_locked p) λ _. by_check Refuses _ _ _ (λ _ _. refuse_plain file_held q) λ _ h. absurd (h refl)

    change_row : (locked (flag d s) ≡ false → held d t s ≡ false → P (rest tt)) → P (passing (may_change d t s) refusal rest)
    change_row r = by_passing P _ refusal rest kept λ e. let f = may_change_lem d t s e in r f.0 f.1

    -- and 164, where its chain is to be freed
    free-row : (clean g d s ≡ false → Why g d t protected k bad_chain) → member bad_chain l ≡ true → (locked (flag d s) ≡ false → held d t s ≡ false → clean g d s ≡ true → P (rest tt)) → P (passing (may_free g d t s) refusal rest)
    unfolding may_free
    free-row y m r =
        by_passing P _ refusal rest
        (by_passing Refuses _ _ _ (λ h _. kept h) λ _. by_check Refuses _ _ _ (λ e _. w.refusing bad_chain (y (not-true (clean g d s) e)) m) λ _ h. absurd (h refl))
        λ e. let f = may_free_lem d t s g e in let h = may_change_lem d t s f.0 in r h.0 h.1 f.1

  -- a name that could not be read
  module _ (m : Names l) where
    abbrev device_in : member bad_device l ≡ true
    device_in = and_left (member bad_device l) (member bad_unit l && member bad_name l) m

    abbrev unit_in : member bad_unit l ≡ true
    unit_in = and_left (member bad_unit l) (member bad_name l) (and_right (member bad_device l) (member bad_unit l && member bad_name l) m)

    abbrev name_in_lem : member bad_name l ≡ true
    name_in_lem = and_right (member bad_unit l) (member bad_name l) (and_right (member bad_device l) (member bad_unit l && member bad_name l) m)

    read_plain : (ends : ℕ → Bool) (text : List ℕ) (n : ℕ) → read_as ends text ≡ Err n → Plain l n
    read_plain ends text n = by_read (Plain l) device_in unit_in name_in_lem ends text n

    at_plain : (ends : ℕ → Bool) (text : List ℕ) (i n : ℕ) → name_at ends text i ≡ Err n → Plain l n
    at_plain ends text i n = by_name_at (Plain l) device_in unit_in name_in_lem ends text i n

-- the file of a name
module _ {g : Geometry} {d : Disk} {t : Table} {protected : Bool} {k : Kind} where
  sought-row : {l : List ℕ} {P : Result ℕ Unfound → Type 0} → Rows g d t protected k P (λ n. Err (Denied n)) l → (x : Result FileName ℕ) → ((n : ℕ) → x ≡ Err n → Plain l n)
      → ((r : Told x) → find d (bytes r) ≡ None → P (Err (Missing (file_name r.word r.extension)))) → ((r : Told x) (s : ℕ) → find d (bytes r) ≡ Some s → P (Ok s)) → P (sought d x)
  unfolding sought
  sought-row w (Err n) p q r = refuse_plain w n (p n refl)
  sought-row {P = P} w (Ok f) p q r =
      let told : Told (Ok f) = record { word = f.name; extension = f.extension; read = refl } in
      by_found P _ _ _ (q told) (r told)

  -- and one that a command is to change
  target_row : {l : List ℕ} {P : Result ℕ Unfound → Type 0} → Rows g d t protected k P (λ n. Err (Denied n)) l → (x : Result FileName ℕ) → ((n : ℕ) → x ≡ Err n → Plain l n) → member bad_table l ≡ true
      → ((r : Told x) → good (d 360) ≡ true → find d (bytes r) ≡ None → P (Err (Missing (file_name r.word r.extension)))) → ((s : ℕ) → Aimed g d t x s → P (Ok s)) → P (target d x)
  unfolding target
  target_row w (Err n) p m q r = refuse_plain w n (p n refl)
  target_row w (Ok f) p m q r =
      row_why w _ no_table m λ v.
      sought-row w (Ok f) p (λ n f. q n v f) λ n s f.
      r s (record { told = n; table = v; at = f })

  -- where it is to be there
  module _ {l : List ℕ} {P : Effect → Type 0} (w : Rows g d t protected k P (λ n. refused n d t) l) (x : Result FileName ℕ) (act : ℕ → Effect) (p : (n : ℕ) → x ≡ Err n → Plain l n) (m : Plain l not_found) where
    on-slot : Rows g d t protected k (λ a. P (aimed g d t a act)) (λ n. Err (Denied n)) l
    unfolding aimed
    on-slot = record { refusing = w.refusing }

    seen-row : ((r : Told x) (s : ℕ) → find d (bytes r) ≡ Some s → P (act s)) → P (aimed g d t (sought d x) act)
    unfolding aimed
    seen-row r = sought-row on-slot x p (λ _ _. refuse_plain w not_found m) r

    aimed-row : member bad_table l ≡ true → ((s : ℕ) → Aimed g d t x s → P (act s)) → P (aimed g d t (target d x) act)
    unfolding aimed
    aimed-row n r = target_row on-slot x p n (λ _ _ _. refuse_plain w not_found m) r

  -- 13 status, whatever is to be shown of its effect
  status-row : {P : Effect → Type 0} → Rows g d t protected k P (λ n. refused n d t) status_answers → (text : List ℕ) → P (done g d t d t) → P (status_call g d t text)
  unfolding status_call read_name member
  status-row w text p =
      seen-row w _ _ (read_plain w refl ending text) refl λ _ _ _.
      row w _ _ refl λ _.
      p

-- a status leaves the disk
pub status-disk : (g : Geometry) (d : Disk) (t : Table) (text : List ℕ) → (status_call g d t text).disk ≡ d
status-disk g d t text = status-row {protected = false} {k = asks (Files Status)} {P = λ e. e.disk ≡ d} (record { refusing = λ _ _ _. refl }) text refl

-- the answers of a command on a channel below 8
pub answers_are : (c : Block) (k : Command) → On c k → answers c ≡ command_answers c.direction k
unfolding answers
answers_are c k o = check_no (leb 8 c.channel) _ _ (lt-leb 8 c.channel o.small) ∙ ap (command_answers c.direction) o.command

-- on any other it answers 134
answers_134 : (c : Block) → leb 8 c.channel ≡ true → member bad_channel (answers c) ≡ true
unfolding answers
answers_134 c e = ap (member bad_channel) (check_yes (leb 8 c.channel) _ _ e) ∙ member_head bad_channel []

-- the answers of an open, by its direction
open_4 : (i : ℕ) → eqb i 4 ≡ true → open_answers i ≡ read_answers
unfolding open_answers
open_4 i e = check_yes (eqb i 4) _ _ e

open_8 : (i : ℕ) → eqb i 4 ≡ false → eqb i 8 ≡ true → open_answers i ≡ write_answers
unfolding open_answers
open_8 i e f = check_no (eqb i 4) _ _ e ∙ check_yes (eqb i 8) _ _ f

open_else : (i : ℕ) → eqb i 4 ≡ false → eqb i 8 ≡ false → open_answers i ≡ channel_open ∷ not_served ∷ []
unfolding open_answers
open_else i e f = check_no (eqb i 4) _ _ e ∙ check_no (eqb i 8) _ _ f

-- 129 is among them whatever the direction
open_any : (i : ℕ) → member channel_open (open_answers i) ≡ true
unfolding open_answers member
open_any i = by_check P _ _ _ (λ _. refl) λ _. by_check P _ _ _ (λ _. refl) λ _. refl
  where
    P : List ℕ → Type 0
    P l = member channel_open l ≡ true

-- 129 is among the answers of every command that needs a closed channel
closed_any : (i : ℕ) (k : FileCommand) → member channel_open (command_answers i (Files k)) ≡ true
unfolding command_answers member
closed_any i Open = open_any i
closed_any i Status = refl
closed_any i Rename = refl
closed_any i Delete = refl
closed_any i Lock = refl
closed_any i Unlock = refl
closed_any i Format = refl

-- 144 is among the answers of every one of them that could change the image
barred_any : (i : ℕ) (k : FileCommand) → could_change i k ≡ true → member write_protected (command_answers i (Files k)) ≡ true
unfolding command_answers open_answers check member
barred_any i Open e = rw (eqb-true i 8 e)
barred_any i Status e = absurd (true≢false (sym e))
barred_any i Rename e = refl
barred_any i Delete e = refl
barred_any i Lock e = refl
barred_any i Unlock e = refl
barred_any i Format e = refl

-- a command that is not listed is refused with 132 or 168: what holds of the listed ones and of these two holds of the command of any number
pub by_command : (P : Command → Type 0) (n : ℕ) → ((k : Transfer) → P (Moves k)) → P Close → ((k : FileCommand) → P (Files k)) → P (Unlisted bad_command) → P (Unlisted not_served) → P (command_of n)
unfolding command_of
by_command P n m c f low other =
    by_check P _ _ _ (λ _. f Open) λ _.
    by_check P _ _ _ (λ _. m (Get Record)) λ _.
    by_check P _ _ _ (λ _. m (Get Characters)) λ _.
    by_check P _ _ _ (λ _. m (Put Record)) λ _.
    by_check P _ _ _ (λ _. m (Put Characters)) λ _.
    by_check P _ _ _ (λ _. c) λ _.
    by_check P _ _ _ (λ _. f Status) λ _.
    by_check P _ _ _ (λ _. f Rename) λ _.
    by_check P _ _ _ (λ _. f Delete) λ _.
    by_check P _ _ _ (λ _. f Lock) λ _.
    by_check P _ _ _ (λ _. f Unlock) λ _.
    by_check P _ _ _ (λ _. f Format) λ _.
    by_check P _ _ _ (λ _. low) λ _.
    other

-- the refusal of a command that is not listed tells nothing
abbrev plainly_unlisted : Command → Bool
plainly_unlisted (Moves k) = true
plainly_unlisted Close = true
plainly_unlisted (Files k) = true
plainly_unlisted (Unlisted n) = plainly n

unlisted_plain : (n : ℕ) → plainly_unlisted (command_of n) ≡ true
unlisted_plain n = by_command (λ k. plainly_unlisted k ≡ true) n (λ _. refl) refl (λ _. refl) refl refl

-- a get and a put on one channel, with the table that they leave
abbrev pub get_leaves : Disk → Table → ℕ → GetOutcome → Outcome
get_leaves d t i r = outcome (record { status = r.answer.status; count = r.answer.count; disk = d; table = with_state t i r.answer.state; given = []; took = None }) r.buffer

abbrev pub put_leaves : Table → ℕ → Form → List ℕ → PutOutcome → Effect
put_leaves t i f b r = record { status = r.answer.status; count = reported f b r.answer.count; disk = r.disk; table = with_state t i r.answer.state; given = r.given; took = None }

-- each command
module _ (g : Geometry) (d : Disk) (t : Table) (c : Block) (text b : List ℕ) where
  -- what it ends in, where it leaves the buffer
  abbrev A : Command → Effect → Type 0
  A k e = Ends g d t (asks k) (cio_of c text b) (outcome e b)

  -- its table of checks
  abbrev T : Command → List ℕ → Type 0
  T k l = Rows g d t c.protected (asks k) (A k) (λ n. refused n d t) l

  rows : {k : Command} {l : List ℕ} → On c k → command_answers c.direction k ≡ l → T k l
  rows {k = k} o e = record { refusing = λ n y m. refuses n y (subst (λ x. member n x ≡ true) (sym (answers_are c k o ∙ e)) m) }

  -- 3 open
  open_read_ends : T (Files Open) read_answers → Ready g d t c Open → c.direction ≡ 4 → A (Files Open) (open_read g d t c.channel text)
  unfolding open_read read_name member
  open_read_ends w r e =
      seen-row w _ _ (read_plain w refl ending text) refl λ n s f.
      row w _ _ refl λ q.
      opens s (record { ready = r; direction = e; told = n; at = f; quiet = q })

  open_write_ends : T (Files Open) write_answers → Ready g d t c Open → c.direction ≡ 8 → A (Files Open) (open_write g d t c.channel text)
  unfolding open_write open_target open_found open_new read_name member
  open_write_ends w r e =
      let v : Rows g d t c.protected (asks (Files Open)) (λ a. A (Files Open) (open_target g d t c.channel a)) (λ n. Err (Denied n)) write_answers = record { refusing = w.refusing } in
      target_row v _ (read_plain w refl ending text) refl
      (λ n y f.
      found-row w _ _ refl λ s z.
      row w _ _ refl λ m.
      makes s (record { ready = r; direction = e; told = n; table = y; missing = f; vacant = z; room = eqb-false (lowest (d 360)) 0 m }))
      λ s a.
      free-row w s _ refl refl (no-chain _ s a.at) refl λ u h k.
      rewrites s (record { ready = r; direction = e; aim = a; unlocked = u; unheld = h; clear = k })

  open_ends : Ready g d t c Open → A (Files Open) (open_call g d t c.channel c.direction text)
  unfolding open_call command_answers member
  open_ends r =
      let i = c.direction in
      by_check (A (Files Open)) _ _ _ (λ e. open_read_ends (rows r.on (open_4 i e)) r (eqb-true i 4 e)) λ e.
      by_check (A (Files Open)) _ _ _ (λ f. open_write_ends (rows r.on (open_8 i e f)) r (eqb-true i 8 f)) λ f.
      refuse_plain (rows r.on (open_else i e f)) _ refl

  -- an open for input, on a closed channel, goes on with its name
  pub open_input : Ready g d t c Open → c.direction ≡ 4 → on_closed g d t c text Open ≡ open_read g d t c.channel text
  unfolding on_closed file_command open_call
  open_input r e =
      check_no {A = Effect} _ _ _ r.shut
      ∙ check_no {A = Effect} _ _ _ r.permitted
      ∙ check_yes {A = Effect} (eqb c.direction 4) _ _ (rw e)

  -- 13 status
  status-ends : Ready g d t c Status → A (Files Status) (status_call g d t text)
  unfolding command_answers
  status-ends r = status-row (rows r.on refl) text (tells r)

  -- 32 rename
  rename_ends : Ready g d t c Rename → A (Files Rename) (rename_call g d t text)
  unfolding rename_call rename_at old_name new_name command_answers member
  rename_ends r =
      let w = rows r.on refl in
      let new = at_plain w refl ending text (whole_end text (body text) + 1) in
      aimed-row w _ _ (both-refused _ _ _ (read_plain w refl comma text) new) refl refl λ s a.
      name-row w _ new λ n.
      change_row w s _ refl refl λ u h.
      row w _ _ refl λ k.
      let old : Told (old_name text) = record { word = a.told.word; extension = a.told.extension; read = both_first (old_name text) (new_name text) _ _ a.told.read } in
      renames s (record { ready = r; aim = record { told = old; table = a.table; at = a.at }; told = n; unlocked = u; unheld = h; alone = k })

  -- 33 delete
  delete-ends : Ready g d t c Delete → A (Files Delete) (delete_call g d t text)
  unfolding delete_call delete_at read_name command_answers member
  delete-ends r =
      let w = rows r.on refl in
      aimed-row w _ _ (read_plain w refl ending text) refl refl λ s a.
      free-row w s _ refl refl (no-chain _ s a.at) refl λ u h k.
      deletes s (record { ready = r; aim = a; unlocked = u; unheld = h; clear = k })

  -- 35 lock and 36 unlock, by what they make of the flags
  flag-ends : (k : FileCommand) (change : ℕ → ℕ → ℕ) → Ready g d t c k → command_answers c.direction (Files k) ≡ lock_answers
      → ((s : ℕ) → Flags g d t c k text s → A (Files k) (done g d t (write_flag d s (change (flag d s) 5)) t)) → A (Files k) (aimed g d t (target d (read_name text)) (flag_at g d t change))
  unfolding flag_at read_name member
  flag-ends k change r e act =
      let w = rows r.on e in
      aimed-row w _ _ (read_plain w refl ending text) refl refl λ s a.
      row w _ _ refl λ h.
      act s (record { ready = r; aim = a; unheld = h })

  lock_ends : Ready g d t c Lock → A (Files Lock) (lock_call g d t text)
  unfolding lock_call command_answers
  lock_ends r = flag-ends Lock bit_on r refl locks

  unlock_ends : Ready g d t c Unlock → A (Files Unlock) (unlock_call g d t text)
  unfolding unlock_call command_answers
  unlock_ends r = flag-ends Unlock bit_off r refl unlocks

  -- 254 format
  format-ends : Ready g d t c Format → A (Files Format) (format_call g d t text)
  unfolding format_call command_answers member
  format-ends r =
      let w = rows r.on refl in
      let why : read_device text ≢ success → plainly (read_device text) ≡ true = by_device (λ n. n ≢ success → plainly n ≡ true) (λ _. refl) (λ _. refl) (λ _. refl) (λ h. absurd (h refl)) text in
      by_passing (A (Files Format)) _ _ _ (λ h. w.refusing _ (plain _ (why h)) (by_device (λ n. member n format_answers ≡ true) refl refl refl refl text)) λ _.
      row w _ _ refl λ n.
      formats (record { ready = r; none = n })

  -- the commands that need a closed channel
  file-ends : (k : FileCommand) → Ready g d t c k → A (Files k) (file_command g d t c text k)
  unfolding file_command
  file-ends Open = open_ends
  file-ends Status = status-ends
  file-ends Rename = rename_ends
  file-ends Delete = delete-ends
  file-ends Lock = lock_ends
  file-ends Unlock = unlock_ends
  file-ends Format = format-ends

  closed-ends : (k : FileCommand) → On c (Files k) → A (Files k) (on_closed g d t c text k)
  unfolding on_closed
  closed-ends k o =
      let w = rows o refl in
      row w _ _ (closed_any c.direction k) λ h.
      notch_row w _ (barred_any c.direction k) λ q.
      file-ends k (record { on = o; shut = h; permitted = q })

  -- 12 close
  close_ends : On c Close → A Close (close_call g d t c.channel c.protected)
  unfolding close_call close_state command_answers member
  close_ends o = go (state_of t c.channel) refl
    where
      go : (st : State) → state_of t c.channel ≡ st → A Close (close_state g d t c.channel c.protected st)
      go Closed e = frees o (λ s p q. let y : ◌≡◌ {A = ℕ} 0 1 = cc in absurd (omega arith))
      go (Reading s k o' l) e = frees o (λ s' p q. let y : ◌≡◌ {A = ℕ} 0 1 = cc in absurd (omega arith))
      go (Writing s p) e =
          notch_row (rows o refl) {change = true} _ (λ _. refl) λ u.
          let h : Closes g d t c s p = record { on = o; state = e; permitted = u } in
          by_check (A Close) _ _ _ (λ q. drops s p h (not-true (is43 d s) q)) λ q.
          closes s p h (not-false (is43 d s) q)

  -- 7 get and 11 put, 5 get record and 9 put record, by what the channel's record ends in
  read_rows : (f : Form) → On c (Moves (Get f)) → T (Moves (Get f)) get_answers
  unfolding command_answers
  read_rows Characters o = rows o refl
  read_rows Record o = record { refusing = λ n y m. (rows o refl).refusing n y (member_tail n truncated get_answers m) }

  got : {f : Form} → On c (Moves (Get f)) → {st : State} → state_of t c.channel ≡ st → {r : GetOutcome} → GetEnds g d f b st r → Ends g d t (asks (Moves (Get f))) (cio_of c text b) (get_leaves d t c.channel r)
  unfolding gets member
  got {f = f} o e get_closed = rw (with_id t c.channel Closed e) (refuse_plain (read_rows f o) channel_closed refl)
  got {f = f} o e (get_writing s p) = rw (with_id t c.channel (Writing s p) e) (refuse_plain (read_rows f o) write_only refl)
  got {f = f} o e (get_broken s k i l q) = rw (with_id t c.channel (Reading s k i l) e) ((read_rows f o).refusing bad_chain (no_read c.channel s k i l o.small e q) refl)
  got o e (get_none s k i l n) = rw (with_id t c.channel (Reading s k i l) e) (reads_none o n)
  got o e (get_some s k i l n p) = reads s k i l (record { on = o; state = e; wanted = n; passes = p })

  put_why : {f : Form} → On c (Moves (Put f)) → {st : State} → state_of t c.channel ≡ st → {n : ℕ} → PutWhy g d c.protected st n → Why g d t c.protected (asks (Moves (Put f))) n
  put_why o e (put_plain n p) = plain n p
  put_why o e (put_barred q) = barred q
  put_why o e (put_no-table v) = no_table v
  put_why o e (put_broken s p w) = no_write c.channel s p o.small e w

  put : {f : Form} → On c (Moves (Put f)) → {st : State} → state_of t c.channel ≡ st → {r : PutOutcome} → PutEnds g d c.protected (sent f b) st r → A (Moves (Put f)) (put_leaves t c.channel f b r)
  unfolding puts command_answers member
  put {f = f} o e (put_refuses st n w m) = rw (with_id t c.channel st e, none-reported f b) ((rows o refl).refusing n (put_why o e w) m)
  put {f = f} o e (put_none s p n) = rw (with_id t c.channel (Writing s p) e, none-reported f b) (writes-none o n)
  put o e (put_some s p u n v w) = writes s p (record { on = o; state = e; permitted = u; waiting = n; table = v; passes = w })

  -- every command on a channel below 8
  pub command-ends : (k : Command) → On c k → Ends g d t (asks k) (cio_of c text b) (command g d t k c text b)
  unfolding command transfer get_at put_at command_answers
  command-ends (Moves (Get f)) o = got o refl (get_ends g d f (state_of t c.channel) b)
  command-ends (Moves (Put f)) o = put o refl (put_ends g d c.protected (state_of t c.channel) (sent f b))
  command-ends Close o = close_ends o
  command-ends (Files k) o = closed-ends k o
  command-ends (Unlisted n) o = (rows o refl).refusing n (plain n (subst (λ k. plainly_unlisted k ≡ true) o.command (unlisted_plain c.command))) (member_head n [])

  cio-ends : Ends g d t (asks (command_of c.command)) (cio_of c text b) (cio g d t c text b)
  unfolding cio
  cio-ends = by_check (Ends g d t (asks (command_of c.command)) (cio_of c text b)) _ _ _
      (λ q. refuses bad_channel (plain bad_channel refl) (answers_134 c q))
      λ q. command-ends (command_of c.command) (record { small = leb-false 8 c.channel q; command = refl })

-- a recovery
recover-ends : (g : Geometry) (d : Disk) (t : Table) (protected : Bool) (s : ℕ) → Ends g d t recovers (recovery_of protected s) (outcome (recovering (recover g d protected s) t) [])
unfolding recover member
recover-ends g d t protected s =
    let w : Rows g d t protected recovers R (λ n. recovered n 0 d) recovery_answers = record { refusing = refuses } in
    notch_row w {change = true} _ (λ _. refl) λ u.
    row_why w _ (λ _. plain _ refl) refl λ h.
    row_why w _ no_table refl λ v.
    row_why w _ (λ _. plain _ refl) refl λ l.
    row w _ _ refl λ k.
    row_why w _ (λ _. plain _ refl) refl λ c.
    restores s (record { permitted = u; passes = h; table = v; legals = l; alone = k; clear = c })
  where
    R : Recovered → Type 0
    R r = Ends g d t recovers (recovery_of protected s) (outcome (recovering r t) [])

-- every call ends in a refusal or in one of the acts
pub ends : (g : Geometry) (c : Call) (x : System) → Ends g x.disk x.table (kind_of c) c (outcome_of g c x)
unfolding outcome_of
ends g (cio_of c text b) x = cio-ends g x.disk x.table c text b
ends g (recovery_of protected s) x = recover-ends g x.disk x.table protected s

-- a CIO call whose command is known ends in an act of that command
pub ends_as : (g : Geometry) (d : Disk) (t : Table) (c : Block) (text b : List ℕ) (k : Command) → Asks c k → Ends g d t (asks k) (cio_of c text b) (cio g d t c text b)
ends_as g d t c text b k e = subst (λ x. Ends g d t (asks x) (cio_of c text b) (cio g d t c text b)) e (cio-ends g d t c text b)
