-- What can be wrong with a body, in the words of the rule: the byte at a place is wrong, or lacks.
use Rattle.std.specs.Prelude.{◌≡◌, ℕ, ◌+◌, ◌<◌, Bool, true, false, List, length, slice_index}
use Rattle.body.specs.Identifiers.{length_fits}
use Rattle.body.specs.Reading.{has_content, has_until, type_of, size_of, id_at, end_of, millis_at}

-- of a content ID body
pub data ContentIdFaulty (ok : ℕ → Bool) (b : List ℕ) : ℕ → Type 0 where
  -- the body ends before its last field does
  lacks : length b < end_of b → ContentIdFaulty ok b (length b)
  -- neither content nor channel
  nothing : 0 < length b → slice_index b 0 < 64 → ContentIdFaulty ok b 0
  -- a length that an identifier of the type cannot have
  misfit : 2 < length b → has_content b ≡ true → length_fits (type_of b) (size_of b) ≡ false → ContentIdFaulty ok b 2
  -- valid until more than 999 milliseconds
  late : 8 < length b → has_content b ≡ true → has_until b ≡ true → 999 < millis_at 7 b → ContentIdFaulty ok b 7
  -- an Ad-ID character that it may not have
  character : (i : ℕ) → i < size_of b → id_at b + i < length b → has_content b ≡ true → type_of b ≡ 2 → ok (slice_index b (id_at b + i)) ≡ false → ContentIdFaulty ok b (id_at b + i)
  -- a byte after the last field
  after : end_of b < length b → ContentIdFaulty ok b (end_of b)

-- of a presentation time body
pub data PresentationFaulty (b : List ℕ) : ℕ → Type 0 where
  -- the body ends before its six bytes do
  time_lacks : length b < 6 → PresentationFaulty b (length b)
  -- more than 999 milliseconds
  time_late : 5 < length b → 999 < millis_at 4 b → PresentationFaulty b 4
  -- a seventh byte
  time_after : 6 < length b → PresentationFaulty b 6

-- of plain bytes: nothing
abbrev pub PlainFaulty : List ℕ → ℕ → Type 0
PlainFaulty b p = ⊥
