-- Tables of forty words: the channels that they say, and the words after a call.
use mathlib.Core.Bool.{true}
use mathlib.Core.List.{List, ◌++◌, append_assoc}
use mathlib.Core.Logic.{◌≢◌}
use mathlib.Core.Path.{◌≡◌, refl, sym, ap, ◌∙◌}
use Prim.Native.Nat.{ℕ, suc, zero, ◌+◌, ◌*◌, ◌-◌, ◌≤◌, ◌<◌}
use native.Mathlib.Nat.{add-zero, zero-add}
use native.Mathlib.Omega.{arith}
use lib.Dec.{eqb}
use lib.ListN.{length, get_or, take, drop, length-append, length-drop}
use lib.Seq.{length-take-le, take_all, drop-append-add, get_or-take, get_or-drop, drop-drop, take-add, ext_get_or, take_at}
use borrow.Author.Tests.{eqb-true, eq-eqb}
use borrow.Rule.Slice.PartMut.{put_mid}
use Rattle.layout.specs.declared.State.{State}
use Rattle.layout.specs.declared.State.TheVariants.{Closed}
use Rattle.layout.specs.declared.Table.{Table}
use Rattle.layout.specs.Basics.{all_below}
use Rattle.layout.specs.Channels.{channel, state_of, with_state}
use Rattle.layout.proofs.Channels.{state-same, state-other}
use Rattle.layout.proofs.Logic.{and_left, and_right, and_both}
use Rattle.layout.proofs.Search.{all_at, all_of}
use Rattle.words.specs.Words.{in_force, is_channel, state_in, channel_after, channel_at, kind_in_force, is_table, channels_from, table_of, channels_after, words_after, with_channel}
use Rattle.words.proofs.Channels.{record_keeps, record_says, record_five, kind-after}

-- a table has forty words
pub table_length : (ws : List ℕ) → is_table ws ≡ true → length ws ≡ 40
unfolding is_table
table_length ws e = eqb-true (length ws) 40 (and_left (eqb (length ws) 40) (all_below 8 (kind_in_force ws)) e)

-- the words at a channel's place are its record, and those written there replace it
module _ (ws : List ℕ) (c s t : ℕ) (e : (s ≡ 5 * c) × (t ≡ 5 * c + 5)) where
  pub five-long : t - s ≡ 5
  five-long = omega arith

  pub record-at_place : take (t - s) (drop s ws) ≡ channel_at ws c
  unfolding channel_at
  record-at_place = rw (five-long, e.0)

  pub with-at_place : (r : List ℕ) → put_mid s (t - s) ws r ≡ with_channel ws c r
  unfolding with_channel
  with-at_place r = rw (five-long, e.0)

-- channel i of the table is what its record says
channels_at : (ws : List ℕ) (n c i : ℕ) → i < n → get_or (channels_from ws n c) i (channel Closed) ≡ channel (state_in (channel_at ws (c + i)))
unfolding channels_from
channels_at ws zero c i h = absurd (omega arith)
channels_at ws (suc n) c zero h = ap (λ k. channel (state_in (channel_at ws k))) (let e : c ≡ c + 0 = omega arith in e)
channels_at ws (suc n) c (suc i) h = channels_at ws n (c + 1) i (omega arith) ∙ ap (λ k. channel (state_in (channel_at ws k))) (let e : c + 1 + i ≡ c + suc i = omega arith in e)

pub table-state : (ws : List ℕ) (i : ℕ) → i < 8 → state_of (table_of ws) i ≡ state_in (channel_at ws i)
unfolding state_of table_of
table-state ws i h = let e = rw zero-add at (channels_at ws 8 0 i h) in ap (λ c. c.state) e

channels_length : (ws : List ℕ) (n c : ℕ) → length (channels_from ws n c) ≡ n
unfolding channels_from
channels_length ws zero c = refl
channels_length ws (suc n) c = ap suc (channels_length ws n (c + 1))

pub table-eight : (ws : List ℕ) → length (table_of ws).channels ≡ 8
unfolding table_of
table-eight ws = channels_length ws 8 0

-- the kind of channel i is its record's first word
kind_at : (ws : List ℕ) (i : ℕ) → kind_in_force ws i ≡ in_force (get_or (channel_at ws i) 0 0)
unfolding kind_in_force channel_at
kind_at ws i = rw (get_or-take 5 (drop (5 * i) ws) 0 0 (omega arith), get_or-drop (5 * i) ws 0 0, add-zero (5 * i))

-- the record of each channel of a table is one: five words, its kind in force
five_at : (ws : List ℕ) (c : ℕ) → length ws ≡ 40 → c < 8 → length (channel_at ws c) ≡ 5
unfolding channel_at
five_at ws c h l = length-take-le 5 (drop (5 * c) ws) (rw (length-drop, h) (omega arith))

force_at : (ws : List ℕ) (c : ℕ) → is_table ws ≡ true → c < 8 → in_force (get_or (channel_at ws c) 0 0) ≡ true
unfolding is_table
force_at ws c e l = sym (kind_at ws c) ∙ all_at (kind_in_force ws) 8 (and_right (eqb (length ws) 40) (all_below 8 (kind_in_force ws)) e) c l

pub record_in : (ws : List ℕ) (c : ℕ) → is_table ws ≡ true → c < 8 → is_channel (channel_at ws c) ≡ true
unfolding is_channel
record_in ws c e l = and_both _ _ (eq-eqb (length (channel_at ws c)) 5 (five_at ws c (table_length ws e) l)) (force_at ws c e l)

-- a part of the table is the records in it, one after the other
part-next : (ws : List ℕ) (n c : ℕ) → take (5 * suc n) (drop (5 * c) ws) ≡ channel_at ws c ++ take (5 * n) (drop (5 * (c + 1)) ws)
unfolding channel_at
part-next ws n c =
    let e : 5 * suc n ≡ 5 + 5 * n = omega arith in
    let f : 5 * c + 5 ≡ 5 * (c + 1) = omega arith in
    rw (e, take-add 5 (5 * n) (drop (5 * c) ws), drop-drop 5 (5 * c) ws, f)

module _ (ws : List ℕ) (t : Table) where
  -- records whose states stay are that part of the words
  pub records_keep : (n c : ℕ) → ((i : ℕ) → c ≤ i → i < c + n → state_of t i ≡ state_in (channel_at ws i)) → channels_after ws t n c ≡ take (5 * n) (drop (5 * c) ws)
  unfolding channels_after
  records_keep zero c h = refl
  records_keep (suc n) c h =
      rw (record_keeps (channel_at ws c) (state_of t c) (sym (h c (omega arith) (omega arith))), records_keep n (c + 1) (λ i p q. h i (omega arith) (omega arith)), part-next ws n c)

  -- the records of n and of m channels, one part after the other
  records_add : (n m c : ℕ) → channels_after ws t (n + m) c ≡ channels_after ws t n c ++ channels_after ws t m (c + n)
  unfolding channels_after
  records_add zero m c = let e : c + 0 ≡ c = omega arith in let f : 0 + m ≡ m = omega arith in rw (e, f)
  records_add (suc n) m c =
      let e : suc n + m ≡ suc (n + m) = omega arith in
      let f : c + 1 + n ≡ c + suc n = omega arith in
      rw (e, records_add n m (c + 1), f, append_assoc)

  -- a call that changes at most the state of channel c replaces at most its record
  pub words-one : (c : ℕ) → length ws ≡ 40 → c < 8 → ((i : ℕ) → i < 8 → i ≢ c → state_of t i ≡ state_of (table_of ws) i)
      → words_after ws t ≡ with_channel ws c (channel_after (channel_at ws c) (state_of t c))
  unfolding words_after with_channel channels_after
  words-one c h l others =
      let e : 8 ≡ c + suc (7 - c) = omega arith in
      ap (λ n. channels_after ws t n 0) e ∙ records_add c (suc (7 - c)) 0 ∙ rw (zero-add c, front, back)
    where
      front : channels_after ws t c 0 ≡ take (5 * c) ws
      front = records_keep c 0 (λ i _ q. others i (omega arith) (λ e. omega arith) ∙ table-state ws i (omega arith))

      back : channels_after ws t (7 - c) (c + 1) ≡ drop 5 (drop (5 * c) ws)
      back =
          let e : 5 * (c + 1) ≡ 5 * c + 5 = omega arith in
          records_keep (7 - c) (c + 1) (λ i p q. others i (omega arith) (λ e. omega arith) ∙ table-state ws i (omega arith))
          ∙ take_all (5 * (7 - c)) (drop (5 * (c + 1)) ws) (rw (length-drop, h) (omega arith)) ∙ rw (e, drop-drop 5 (5 * c) ws)

  -- a call that changes no state changes no word
  pub words_keep : length ws ≡ 40 → ((i : ℕ) → i < 8 → state_of t i ≡ state_of (table_of ws) i) → words_after ws t ≡ ws
  unfolding words_after
  words_keep h same = records_keep 8 0 (λ i _ q. same i q ∙ table-state ws i q) ∙ take_all 40 ws (omega arith)

  -- the record of each channel after a call
  after_five : (c : ℕ) → length ws ≡ 40 → c < 8 → length (channel_after (channel_at ws c) (state_of t c)) ≡ 5
  after_five c h l = record_five (channel_at ws c) (state_of t c) (five_at ws c h l)

  records_at : (n c i : ℕ) → length ws ≡ 40 → c + n ≤ 8 → i < n → channel_at (channels_after ws t n c) i ≡ channel_after (channel_at ws (c + i)) (state_of t (c + i))
  unfolding channel_at channels_after
  records_at zero c i h m l = absurd (omega arith)
  records_at (suc n) c zero h m l =
      let e : c + 0 ≡ c = omega arith in
      rw e (take_at (channel_after (channel_at ws c) (state_of t c)) (channels_after ws t n (c + 1)) 5 (after_five c h (omega arith)))
  records_at (suc n) c (suc i) h m l =
      let r = channel_after (channel_at ws c) (state_of t c) in
      let e : 5 * suc i ≡ length r + 5 * i = let k = after_five c h (omega arith) in omega arith in
      let f : c + 1 + i ≡ c + suc i = omega arith in
      rw (e, drop-append-add r (channels_after ws t n (c + 1)) (5 * i)) (records_at n (c + 1) i h (omega arith) (omega arith) ∙ rw f)

  records_length : (n c : ℕ) → length ws ≡ 40 → c + n ≤ 8 → length (channels_after ws t n c) ≡ 5 * n
  unfolding channels_after
  records_length zero c h m = refl
  records_length (suc n) c h m =
      rw (length-append (channel_after (channel_at ws c) (state_of t c)) (channels_after ws t n (c + 1)), after_five c h (omega arith), records_length n (c + 1) h (omega arith)) (omega arith)

  -- the words after a call say the table that the call leaves
  pub words_say : length ws ≡ 40 → length t.channels ≡ 8 → table_of (words_after ws t) ≡ t
  unfolding table_of words_after state_of
  words_say h eight = ap (λ cs. record { channels = cs }) (ext_get_or (channel Closed) (channels_from (words_after ws t) 8 0) t.channels (channels_length (words_after ws t) 8 0 ∙ sym eight) each)
    where
      each : (i : ℕ) → i < length (channels_from (words_after ws t) 8 0) → get_or (channels_from (words_after ws t) 8 0) i (channel Closed) ≡ get_or t.channels i (channel Closed)
      each i l =
          let m : i < 8 = rw (channels_length (words_after ws t) 8 0) at l in
          channels_at (words_after ws t) 8 0 i m ∙ ap channel (rw (zero-add i, records_at 8 0 i h (omega arith) m, zero-add i) (record_says (channel_at ws i) (state_of t i)))

  -- they are a table again
  pub words-table : is_table ws ≡ true → is_table (words_after ws t) ≡ true
  unfolding is_table words_after
  words-table e = and_both _ _ (eq-eqb (length (words_after ws t)) 40 (records_length 8 0 h (omega arith))) (all_of (kind_in_force (words_after ws t)) 8 kinds)
    where
      h : length ws ≡ 40
      h = table_length ws e

      kinds : (i : ℕ) → i < 8 → kind_in_force (words_after ws t) i ≡ true
      kinds i l =
          kind_at (words_after ws t) i ∙ rw (records_at 8 0 i h (omega arith) l, zero-add i)
          (kind-after (channel_at ws i) (state_of t i) (force_at ws i e l))

-- another state of one channel of the table that the words say replaces its record
pub words_with : (ws : List ℕ) (c : ℕ) (st : State) → length ws ≡ 40 → c < 8 → words_after ws (with_state (table_of ws) c st) ≡ with_channel ws c (channel_after (channel_at ws c) st)
words_with ws c st h l =
    let t = table_of ws in
    words-one ws (with_state t c st) c h l (λ i _ n. state-other t c st i n)
    ∙ ap (λ x. with_channel ws c (channel_after (channel_at ws c) x)) (state-same t c st (let e = table-eight ws in omega arith))
