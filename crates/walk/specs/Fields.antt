-- The fields of the block with which some bytes begin, and why it isn't read.
use Rattle.std.specs.Prelude.{ℕ, ◌+◌, ◌-◌, ◌*◌, ◌/◌, ◌%◌, ◌≡◌, ◌≤◌, Bool, cond, not, ◌&&◌, ◌||◌, List, length, take, drop, Some, None, ◌==◌, nat_lt, slice_index}
use Rattle.crc.specs.Crc.{crc}
use Rattle.sending.specs.Sendings.{Block}
use Rattle.walk.specs.declared.entry.Cause.{Cause}
use Rattle.walk.specs.declared.entry.Cause.TheVariants.{Torn, Crc, Part, Short}

-- the first four bytes as one number, the most significant first
abbrev pub word : List ℕ → ℕ
word bs = slice_index bs 0 * 16777216 + slice_index bs 1 * 65536 + slice_index bs 2 * 256 + slice_index bs 3

-- the count of the bytes that follow the count byte
abbrev pub count_of : List ℕ → ℕ
count_of bs = slice_index bs 1

-- the part's number
abbrev pub part_of : List ℕ → ℕ
part_of bs = slice_index bs 2 / 4 % 4

-- the last part's number
abbrev pub last_of : List ℕ → ℕ
last_of bs = slice_index bs 2 % 4

-- a last part that isn't the only one has the message CRC behind its body
abbrev pub has_check : List ℕ → Bool
has_check bs = part_of bs == last_of bs && not (last_of bs == 0)

-- the least count with which a block has room for its fields
abbrev pub least_count : List ℕ → ℕ
least_count bs = cond (has_check bs) 9 5

-- the CRC of the block's bytes before CRC_32 is what stands there
abbrev pub crc_right : List ℕ → Bool
crc_right bs = crc (take (count_of bs - 2) bs) == word (drop (count_of bs - 2) bs)

-- cause 1: no count byte, a count under 5, or a block past the end
abbrev pub is_torn : List ℕ → Bool
is_torn bs = nat_lt (length bs) 2 || (nat_lt (count_of bs) 5 || nat_lt (length bs) (count_of bs + 2))

-- the first cause for which the block isn't read, 0 where it is read: torn, CRC wrong, part above last, no room for the message CRC
unfoldable pub cause_at : List ℕ → ℕ
cause_at bs =
    cond (is_torn bs) 1
    (cond (not (crc_right bs)) 2
    (cond (nat_lt (last_of bs) (part_of bs)) 3
    (cond (has_check bs && nat_lt (count_of bs) 9) 4 0)))

-- the block is whole, and its CRC right
pub record Sound (bs : List ℕ) : Type 0 where
  pub least : 5 ≤ count_of bs
  pub within : count_of bs + 2 ≤ length bs
  pub right : crc (take (count_of bs - 2) bs) ≡ word (drop (count_of bs - 2) bs)

-- the number of a cause
abbrev pub cause_number : Cause → ℕ
cause_number Torn = 1
cause_number Crc = 2
cause_number Part = 3
cause_number Short = 4

-- the block with which the bytes begin, where there is no cause against it
unfoldable pub block_at : List ℕ → Block
block_at bs =
    record {
      number = slice_index bs 0;
      version = slice_index bs 2 / 16;
      part = part_of bs;
      last = last_of bs;
      body = take (cond (has_check bs) (count_of bs - 9) (count_of bs - 5)) (drop 3 bs);
      check = cond (has_check bs) (Some (word (drop (count_of bs - 6) bs))) None;
    }
