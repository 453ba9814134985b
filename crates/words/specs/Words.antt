-- The channels as words, for callers in C: five words to a channel, kind, slot, sector, offset, left. These rules are the project's own.
use Rattle.std.specs.Prelude.{Bool, ◌&&◌, List, [], ◌∷◌, ◌++◌, ◌≢◌, ◌≡◌, ℕ, suc, zero, ◌+◌, ◌*◌, ◌<◌, leb, eqb, length, get_or, take, drop}
use Rattle.layout.specs.declared.State.{State}
use Rattle.layout.specs.declared.State.TheVariants.{Closed, Reading, Writing}
use Rattle.layout.specs.declared.Channel.{Channel}
use Rattle.layout.specs.declared.Table.{Table}
use Rattle.layout.specs.Basics.{if, all_below}
use Rattle.layout.specs.Channels.{channel, state_of}

-- the kinds: 1 reading, 2 writing; 0 is closed
abbrev pub reading : ℕ
reading = 1

abbrev pub writing : ℕ
writing = 2

-- a kind in force
unfoldable pub in_force : ℕ → Bool
in_force kind = leb kind writing

-- a record is five words, its kind in force
unfoldable pub is_channel : List ℕ → Bool
is_channel ws = eqb (length ws) 5 && in_force (get_or ws 0 0)

-- the state that a record's words say; words that its kind does not use are not looked at. The sector of a writing channel is its last
unfoldable pub state_in : List ℕ → State
state_in ws =
    if (eqb (get_or ws 0 0) reading) (Reading (get_or ws 1 0) (get_or ws 2 0) (get_or ws 3 0) (get_or ws 4 0))
    (if (eqb (get_or ws 0 0) writing) (Writing (get_or ws 1 0) (get_or ws 2 0))
    Closed)

-- the words of a state; those that its kind does not use are 0, and a closed channel is five zeros
unfoldable pub words_of : State → List ℕ
words_of Closed = 0 ∷ 0 ∷ 0 ∷ 0 ∷ 0 ∷ []
words_of (Reading s k o l) = reading ∷ s ∷ k ∷ o ∷ l ∷ []
words_of (Writing s p) = writing ∷ s ∷ p ∷ 0 ∷ 0 ∷ []

-- two records agree at word j
unfoldable pub same_word : List ℕ → List ℕ → ℕ → Bool
same_word v w j = eqb (get_or v j 0) (get_or w j 0)

-- two states are the same: their five words are
unfoldable pub same_state : State → State → Bool
same_state a b = all_below 5 (same_word (words_of a) (words_of b))

-- a record after a call that leaves this state: where the state is the same all five words stay as they were, otherwise they are those of the new state
unfoldable pub channel_after : List ℕ → State → List ℕ
channel_after ws st = if (same_state (state_in ws) st) ws (words_of st)

-- the record of channel c in a table's words
unfoldable pub channel_at : List ℕ → ℕ → List ℕ
channel_at ws c = take 5 (drop (5 * c) ws)

-- the kind of channel c is in force
unfoldable pub kind_in_force : List ℕ → ℕ → Bool
kind_in_force ws c = in_force (get_or ws (5 * c) 0)

-- a table is forty words, the kind of each of its eight channels in force
unfoldable pub is_table : List ℕ → Bool
is_table ws = eqb (length ws) 40 && all_below 8 (kind_in_force ws)

-- the records of n channels from c on
unfoldable pub channels_from : List ℕ → ℕ → ℕ → List Channel
channels_from ws zero c = []
channels_from ws (suc n) c = channel (state_in (channel_at ws c)) ∷ channels_from ws n (c + 1)

-- the table of channels that forty words say
unfoldable pub table_of : List ℕ → Table
table_of ws = record { channels = channels_from ws 8 0 }

-- n records from channel c on, after a call that leaves this table
unfoldable pub channels_after : List ℕ → Table → ℕ → ℕ → List ℕ
channels_after ws t zero c = []
channels_after ws t (suc n) c = channel_after (channel_at ws c) (state_of t c) ++ channels_after ws t n (c + 1)

-- the words after a call that leaves this table
unfoldable pub words_after : List ℕ → Table → List ℕ
words_after ws t = channels_after ws t 8 0

-- the words with the record of channel c replaced
unfoldable pub with_channel : List ℕ → ℕ → List ℕ → List ℕ
with_channel ws c r = take (5 * c) ws ++ (r ++ drop 5 (drop (5 * c) ws))

-- a table that differs from the words at most in channel c
pub record ChangesOnly (ws : List ℕ) (c : ℕ) (t : Table) : Type 0 where
  pub forty : length ws ≡ 40
  pub others : (i : ℕ) → i < 8 → i ≢ c → state_of t i ≡ state_of (table_of ws) i
