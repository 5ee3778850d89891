-- Which lists of numbers can be watched, and which blocks can be gathered.
use Rattle.std.specs.Prelude.{ℕ, zero, suc, ◌+◌, ◌<◌, ◌≤◌, Bool, cond, not, ◌&&◌, ◌||◌, List, length, take, Some, None, Option, ◌==◌, ◌≢◌, nat_le, nat_lt, slice_index}
use Rattle.std.specs.Option.{option_or}
use Rattle.sending.specs.Sendings.{Block}
use Rattle.gather.specs.Arriving.{watched}

-- an index is wrong that holds 0 or a number that stands earlier
abbrev pub wrong_at : List ℕ → ℕ → Bool
wrong_at watch i = slice_index watch i == 0 || watched (take i watch) (slice_index watch i)

-- the first wrong index among the n from i on
abbrev pub wrong_from : List ℕ → ℕ → ℕ → Option ℕ
wrong_from watch i zero = None
wrong_from watch i (suc n) = cond (wrong_at watch i) (Some i) (wrong_from watch (i + 1) n)

-- the place at which a watch list is refused: 0 where it is empty, else its first wrong index, else 8 where it has more than 8
unfoldable pub watch_fault : List ℕ → Option ℕ
watch_fault watch =
    cond (length watch == 0) (Some 0) (option_or (wrong_from watch 0 (length watch)) (cond (nat_lt 8 (length watch)) (Some 8) None))

-- a list that can be watched: one to eight numbers, none of them 0, and none twice
pub record Watchable (watch : List ℕ) : Type 0 where
  pub one_to_eight : (1 ≤ length watch) × (length watch ≤ 8)
  pub none_zero : (i : ℕ) → i < length watch → slice_index watch i ≢ 0
  pub none_twice : (i j : ℕ) → j < i → i < length watch → slice_index watch j ≢ slice_index watch i

-- the most bytes that the part of a block may have: the last of several has the message CRC behind it
abbrev pub most_bytes : ℕ → ℕ → ℕ
most_bytes part last = cond (part == last && not (last == 0)) 47 51

-- the block can be gathered: it is of one to four parts, and its part is no longer than such a part can be
unfoldable pub fits_slot : Block → Bool
fits_slot b = nat_le b.part b.last && (nat_le b.last 3 && nat_le (length b.body) (most_bytes b.part b.last))
