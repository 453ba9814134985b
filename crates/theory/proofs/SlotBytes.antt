-- A slot's sixteen bytes as one function, and what a write to a slot leaves of the others and of the rest of the disk.
use mathlib.Core.Bool.{true}
use mathlib.Core.Logic.{◌≢◌}
use mathlib.Core.Path.{◌≡◌, refl, sym, ap, ◌∙◌, fun_ext}
use Prim.Native.Nat.{ℕ, suc, zero, ◌+◌, ◌*◌, ◌/◌, ◌%◌, ◌≤◌, ◌<◌}
use native.Mathlib.Decide.{ℕ_discrete}
use native.Mathlib.Nat.{mod-eq_of_lt}
use native.Mathlib.Omega.{arith}
use Rattle.layout.specs.Image.{Sector, Disk, write_byte, word}
use Rattle.layout.specs.Volume.{data_sector}
use Rattle.layout.specs.Directory.{entry, write_entry, flag, write_flag, count, write_count, first, write_first, name, write_name_from, write_name}
use Rattle.layout.proofs.Update.{update_same, update_other, write_same, write_other, pair_read}
use Rattle.layout.proofs.Data.{data_facts}

-- the sixteen bytes of slot s
pub row : Disk → ℕ → Sector
row d s = λ j. entry d s (j % 16)

-- a slot whose bytes are the same has the same flag, count, first sector and name
module _ (d d' : Disk) (s : ℕ) (e : row d' s ≡ row d s) where
  pub same-entry : (j : ℕ) → j < 16 → entry d' s j ≡ entry d s j
  unfolding row
  same-entry j l = rw (mod-eq_of_lt l) at (ap (λ (r : Sector). r j) e)

  pub same_flag : flag d' s ≡ flag d s
  same_flag = same-entry 0 (omega arith)

  pub same_count : count d' s ≡ count d s
  unfolding row
  same_count = ap (λ (r : Sector). r 1 + 256 * r 2) e

  pub same_first : first d' s ≡ first d s
  unfolding row
  same_first = ap (λ (r : Sector). r 3 + 256 * r 4) e

  pub same-name : (j : ℕ) → j < 11 → name d' s j ≡ name d s j
  same-name j l = same-entry (5 + j) (omega arith)

-- a disk with the same sector of the directory
pub row_frame : (d d' : Disk) (s : ℕ) → d' (361 + s / 8) ≡ d (361 + s / 8) → row d' s ≡ row d s
unfolding row
row_frame d d' s e = ap {B = Sector} (λ (r : Sector) (j : ℕ). r (s % 8 * 16 + j % 16)) e

-- where only the table changed
pub row-table : (d d' : Disk) (s : ℕ) → ((x : ℕ) → x ≢ 360 → d' x ≡ d x) → row d' s ≡ row d s
row-table d d' s h = row_frame d d' s (h (361 + s / 8) (omega arith))

-- a sector that is not in the directory
pub Outside : ℕ → Type 0
Outside k = (n : ℕ) → n < 8 → k ≢ 361 + n

pub data_outside : (k : ℕ) → data_sector k ≡ true → Outside k
unfolding Outside
data_outside k h = (data_facts k h).directory

pub table_outside : Outside 360
unfolding Outside
table_outside n l = omega arith

-- where only such a sector changed
pub row_outside : (d d' : Disk) (s k : ℕ) → s < 64 → Outside k → ((x : ℕ) → x ≢ k → d' x ≡ d x) → row d' s ≡ row d s
unfolding Outside
row_outside d d' s k l o h = row_frame d d' s (h (361 + s / 8) (λ e. o (s / 8) (omega arith) (sym e)))

-- a byte written is no byte of another place
pub write_place : (d : Disk) (k j v k' j' : ℕ) → (k' ≡ k → j' ≢ j) → write_byte d k j v k' j' ≡ d k' j'
write_place d k j v k' j' n = go (ℕ_discrete k' k)
  where
    go : Dec (k' ≡ k) → write_byte d k j v k' j' ≡ d k' j'
    go (yes e) = rw (e, write_same d k j v, update_other (d k) j v j' (n e))
    go (no m) = rw (write_other d k j v k' m)

-- byte j of slot s written
module _ (d : Disk) (s j v : ℕ) where
  pub entry-same : entry (write_entry d s j v) s j ≡ v
  unfolding write_entry
  entry-same = rw (write_same d (361 + s / 8) (s % 8 * 16 + j) v) (update_same (d (361 + s / 8)) (s % 8 * 16 + j) v)

  pub entry_byte : (i : ℕ) → i ≢ j → entry (write_entry d s j v) s i ≡ entry d s i
  unfolding write_entry
  entry_byte i n = write_place d (361 + s / 8) (s % 8 * 16 + j) v (361 + s / 8) (s % 8 * 16 + i) (λ e. omega arith)

-- only slot s differs
pub record Only (s : ℕ) (d d' : Disk) : Type 0 where
  pub sectors : (x : ℕ) → Outside x → d' x ≡ d x
  pub rows : (x : ℕ) → x ≢ s → row d' x ≡ row d x

pub only_join : (s : ℕ) (d d' d'' : Disk) → Only s d d' → Only s d' d'' → Only s d d''
only_join s d d' d'' p q = record { sectors = λ x o. q.sectors x o ∙ p.sectors x o; rows = λ x n. q.rows x n ∙ p.rows x n }

module _ (s : ℕ) (z : s < 64) where
  pub only_entry : (d : Disk) (j v : ℕ) → j < 16 → Only s d (write_entry d s j v)
  unfolding write_entry row Outside
  only_entry d j v l = record {
    sectors = λ x o. write_other d (361 + s / 8) (s % 8 * 16 + j) v x (o (s / 8) (omega arith));
    rows = λ x n. fun_ext (λ i. write_place d (361 + s / 8) (s % 8 * 16 + j) v (361 + x / 8) (x % 8 * 16 + i % 16) (λ e. omega arith));
  }

  pub only_flag : (d : Disk) (v : ℕ) → Only s d (write_flag d s v)
  unfolding write_flag
  only_flag d v = only_entry d 0 v (omega arith)

  only_names : (w : ℕ → ℕ) (n j : ℕ) (d : Disk) → j + n ≤ 11 → Only s d (write_name_from d s w n j)
  unfolding write_name_from
  only_names w zero j d l = record { sectors = λ x o. refl; rows = λ x n. refl }
  only_names w (suc n) j d l = only_join s d (write_entry d s (5 + j) (w j)) _ (only_entry d (5 + j) (w j) (omega arith)) (only_names w n (j + 1) (write_entry d s (5 + j) (w j)) (omega arith))

  pub only_name : (d : Disk) (w : ℕ → ℕ) → Only s d (write_name d s w)
  unfolding write_name
  only_name d w = only_names w 11 0 d (omega arith)

-- the flag written
module _ (d : Disk) (s v : ℕ) where
  pub flag_is : flag (write_flag d s v) s ≡ v
  unfolding write_flag
  flag_is = entry-same d s 0 v

  pub flag_byte : (y : ℕ) → y ≢ 0 → entry (write_flag d s v) s y ≡ entry d s y
  unfolding write_flag
  flag_byte y n = entry_byte d s 0 v y n

  pub flag-table : s < 64 → write_flag d s v 360 ≡ d 360
  flag-table z = (only_flag s z d v).sectors 360 table_outside

-- bytes i and i + 1 of a slot are a word, low byte first: what writing it leaves
pub record WordAt (i : ℕ) (read : Disk → ℕ → ℕ) (write : Disk → ℕ → ℕ → Disk) : Type 0 where
  pub is : (d : Disk) (s n : ℕ) → n < 65536 → read (write d s n) s ≡ n
  pub byte : (d : Disk) (s n y : ℕ) → y ≢ i → y ≢ i + 1 → entry (write d s n) s y ≡ entry d s y
  pub only : (s : ℕ) → s < 64 → (d : Disk) (n : ℕ) → Only s d (write d s n)

word_at : (i : ℕ) → i < 15 → WordAt i (λ d s. word (entry d s) i) (λ d s n. write_entry (write_entry d s i (n % 256)) s (i + 1) (n / 256 % 256))
unfolding write_entry
word_at i l = record {
  is = λ d s n h. pair_read d (361 + s / 8) (s % 8 * 16 + i) (s % 8 * 16 + (i + 1)) n (omega arith) ∙ omega arith;
  byte = λ d s n y a b. entry_byte (write_entry d s i (n % 256)) s (i + 1) (n / 256 % 256) y b ∙ entry_byte d s i (n % 256) y a;
  only = λ s z d n. only_join s d (write_entry d s i (n % 256)) _ (only_entry s z d i (n % 256) (omega arith)) (only_entry s z (write_entry d s i (n % 256)) (i + 1) (n / 256 % 256) (omega arith));
}

-- the sector count, and the first sector
pub count_word : WordAt 1 count write_count
unfolding write_count
count_word = word_at 1 (omega arith)

pub first_word : WordAt 3 first write_first
unfolding write_first
first_word = word_at 3 (omega arith)

-- a name written: the bytes before it, and its own
module _ (s : ℕ) (w : ℕ → ℕ) where
  names_byte : (n j : ℕ) (d : Disk) (y : ℕ) → y < 5 + j → entry (write_name_from d s w n j) s y ≡ entry d s y
  unfolding write_name_from
  names_byte zero j d y l = refl
  names_byte (suc n) j d y l = names_byte n (j + 1) (write_entry d s (5 + j) (w j)) y (omega arith) ∙ entry_byte d s (5 + j) (w j) y (omega arith)

  names_is : (n j : ℕ) (d : Disk) (i : ℕ) → j ≤ i → i < j + n → name (write_name_from d s w n j) s i ≡ w i
  unfolding write_name_from
  names_is zero j d i a b = absurd (omega arith)
  names_is (suc n) j d i a b = go (ℕ_discrete i j) (names_is n (j + 1) (write_entry d s (5 + j) (w j)) i)
    where
      e : Disk
      e = write_entry d s (5 + j) (w j)

      go : Dec (i ≡ j) → (j + 1 ≤ i → i < j + 1 + n → name (write_name_from e s w n (j + 1)) s i ≡ w i) → name (write_name_from e s w n (j + 1)) s i ≡ w i
      go (yes q) f = rw q (names_byte n (j + 1) e (5 + j) (omega arith) ∙ entry-same d s (5 + j) (w j))
      go (no q) f = f (omega arith) (omega arith)

  pub name_byte_lem : (d : Disk) (y : ℕ) → y < 5 → entry (write_name d s w) s y ≡ entry d s y
  unfolding write_name
  name_byte_lem d y l = names_byte 11 0 d y (omega arith)

  pub name_is : (d : Disk) (j : ℕ) → j < 11 → name (write_name d s w) s j ≡ w j
  unfolding write_name
  name_is d j l = names_is 11 0 d j (omega arith) (omega arith)
