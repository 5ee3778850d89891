-- The words of the subject: sendings, their messages and their blocks, as values.
use Rattle.std.specs.Prelude.{◌≡◌, ℕ, ◌-◌, ◌<◌, ◌≤◌, cond, ◌&&◌, List, [], length, Some, None, Option, ◌==◌, nat_lt, slice_index, slice_index_or}
use Rattle.std.specs.List.{flat_map}
use Rattle.crc.specs.Crc.{crc}

-- one part of a message as it is sent; check is the CRC of the whole message, where the block carries it
pub record Block : Type 0 where
  pub number : ℕ
  pub version : ℕ
  pub part : ℕ
  pub last : ℕ
  pub body : List ℕ
  pub check : Option ℕ

-- a message: what it is about (its number), which edition of it, and its bytes
pub record Message : Type 0 where
  pub number : ℕ
  pub version : ℕ
  pub bytes : List ℕ

-- a message in its parts, as they are sent
pub record Sending : Type 0 where
  pub number : ℕ
  pub version : ℕ
  pub parts : List (List ℕ)

-- the number of its last part; parts are counted from 0
abbrev pub last_part : Sending → ℕ
last_part s = length s.parts - 1

-- what a sending must be: one to four parts of at most 51 bytes, the last of several at most 47
pub record IsSending (s : Sending) : Type 0 where
  pub number_stands : (1 ≤ s.number) × (s.number ≤ 255)
  pub version_stands : s.version ≤ 15
  pub one_to_four : (1 ≤ length s.parts) × (length s.parts ≤ 4)
  pub parts_fit : (k : ℕ) → k < length s.parts → length (slice_index_or s.parts k []) ≤ 51
  pub last_fits : 2 ≤ length s.parts → length (slice_index_or s.parts (last_part s) []) ≤ 47
  pub bytes_stand : (k i : ℕ) → k < length s.parts → i < length (slice_index_or s.parts k []) → slice_index (slice_index_or s.parts k []) i < 256

-- the message of a sending: its parts joined
abbrev pub message : Sending → Message
message s = record { number = s.number; version = s.version; bytes = flat_map (λ (p : List ℕ). p) s.parts }

-- block i of a sending; the last of several carries the CRC of the message
abbrev pub block : Sending → ℕ → Block
block s i =
    record {
      number = s.number;
      version = s.version;
      part = i;
      last = last_part s;
      body = slice_index_or s.parts i [];
      check = cond (nat_lt 0 i && i == last_part s) (Some (crc (message s).bytes)) None;
    }

-- b is a block of the sending s
abbrev pub IsBlockOf : Sending → Block → Type 0
IsBlockOf s b = IsSending s × ((i : ℕ) × (i < length s.parts) × (b ≡ block s i))
