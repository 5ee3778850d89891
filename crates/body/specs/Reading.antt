-- What a body says, and the place at which it is wrong: by its bytes.
use Rattle.std.specs.Prelude.{ℕ, ◌+◌, ◌*◌, ◌/◌, ◌%◌, Bool, cond, not, List, [], ◌∷◌, length, take, drop, None, Option, Result, nat_le, nat_lt, slice_index}
use Rattle.buffers.specs.Places.{wrong, part, first, shifted, present, unless}
use Rattle.refusal.specs.declared.Refusal.{Refusal}
use Rattle.refusal.specs.declared.Refusal.TheVariants.{Body}
use Rattle.body.specs.declared.message.Time.{Time}
use Rattle.body.specs.declared.message.Channel.{Channel}
use Rattle.body.specs.Identifiers.{length_fits, misspelt}
use Rattle.body.specs.Messages.{Identified, Said, content_id, presentation}

-- a body is refused at its wrong place, else it says something
abbrev pub reading : {A : Type 0} → (List ℕ → Option ℕ) → (List ℕ → A) → List ℕ → Result A Refusal
reading fault says b = unless Body (fault b) (says b)

-- ---- the fields; reserved bits are not looked at
-- two bytes that begin at p
abbrev pub word_at : ℕ → List ℕ → ℕ
word_at p b = slice_index b p * 256 + slice_index b (p + 1)

-- the milliseconds whose first bit lies in the byte at p
abbrev pub millis_at : ℕ → List ℕ → ℕ
millis_at p b = slice_index b p % 4 * 256 + slice_index b (p + 1)

-- the time that begins at p
abbrev pub time_at : ℕ → List ℕ → Time
time_at p b = record { seconds = word_at p b * 65536 + word_at (p + 2) b; milliseconds = millis_at (p + 4) b }

-- whether the body has a content
abbrev pub has_content : List ℕ → Bool
has_content b = nat_le 128 (slice_index b 0)

-- whether it has a channel
abbrev pub has_channel : List ℕ → Bool
has_channel b = nat_le 64 (slice_index b 0 % 128)

-- whether its content has a valid-until time
abbrev pub has_until : List ℕ → Bool
has_until b = nat_le 64 (slice_index b 1 % 128)

-- the type of its identifier
abbrev pub type_of : List ℕ → ℕ
type_of b = slice_index b 1 % 64

-- the identifier's length, as the body says it
abbrev pub size_of : List ℕ → ℕ
size_of b = slice_index b 2

-- where the identifier begins
abbrev pub id_at : List ℕ → ℕ
id_at b = cond (has_until b) 9 3

-- the identifier, as far as it is there
abbrev pub id_of : List ℕ → List ℕ
id_of b = take (size_of b) (drop (id_at b) b)

-- where the channel begins, or would
abbrev pub channel_at : List ℕ → ℕ
channel_at b = cond (has_content b) (id_at b + size_of b) 1

-- where the last field ends
abbrev pub end_of : List ℕ → ℕ
end_of b = cond (has_channel b) (channel_at b + 5) (channel_at b)

-- the valid-until time, where there is one
abbrev pub until_of : List ℕ → Option Time
until_of b = present (has_until b) (time_at 3 b)

-- the content that the body identifies
abbrev pub content_of : List ℕ → Identified
content_of b = record { id_type = type_of b; valid_until = until_of b; id = id_of b }

-- the channel that begins at p
abbrev pub channel_of : ℕ → List ℕ → Channel
channel_of p b =
    record { bsid = word_at p b; major = slice_index b (p + 2) % 16 * 64 + slice_index b (p + 3) / 4; minor = slice_index b (p + 3) % 4 * 256 + slice_index b (p + 4) }

-- ---- what is wrong, in the order of the places
-- the time that begins at p: a byte lacks, or more than 999 milliseconds
abbrev pub time_fault : ℕ → List ℕ → Option ℕ
time_fault p b = first (wrong (nat_lt (length b) (p + 6)) (length b) ∷ wrong (nat_lt 999 (millis_at (p + 4) b)) (p + 4) ∷ [])

-- the valid-until time
abbrev pub until_fault : List ℕ → Option ℕ
until_fault b = part (has_until b) (time_fault 3 b)

-- the identifier: a wrong character, or a byte lacks
abbrev pub id_fault : (ℕ → Bool) → List ℕ → Option ℕ
id_fault ok b =
    first (shifted (id_at b) (misspelt ok (type_of b) (id_of b))
    ∷ wrong (nat_lt (length b) (id_at b + size_of b)) (length b)
    ∷ [])

-- the content: type or length lack, the length doesn't fit, valid-until, identifier
abbrev pub content_fault : (ℕ → Bool) → List ℕ → Option ℕ
content_fault ok b =
    first (wrong (nat_lt (length b) 3) (length b)
    ∷ wrong (not (length_fits (type_of b) (size_of b))) 2
    ∷ until_fault b
    ∷ id_fault ok b
    ∷ [])

-- the channel that begins at p: a byte lacks
abbrev pub channel_fault : ℕ → List ℕ → Option ℕ
channel_fault p b = wrong (nat_lt (length b) (p + 5)) (length b)

-- what is wrong with the content, where there is one
abbrev pub content_part_fault : (ℕ → Bool) → List ℕ → Option ℕ
content_part_fault ok b = part (has_content b) (content_fault ok b)

-- what the body says of a content
abbrev pub content_part_of : List ℕ → Option Identified
content_part_of b = present (has_content b) (content_of b)

-- what is wrong with the channel that begins at p, where there is one
abbrev pub channel_part_fault : ℕ → List ℕ → Option ℕ
channel_part_fault p b = part (has_channel b) (channel_fault p b)

-- what the body says of a channel that begins at p
abbrev pub channel_part_of : ℕ → List ℕ → Option Channel
channel_part_of p b = present (has_channel b) (channel_of p b)

-- a content ID body: no byte, neither part, content, channel, a byte after the last field
unfoldable pub content_id_fault : (ℕ → Bool) → List ℕ → Option ℕ
content_id_fault ok b =
    first (wrong (nat_lt (length b) 1) (length b)
    ∷ wrong (nat_lt (slice_index b 0) 64) 0
    ∷ content_part_fault ok b
    ∷ channel_part_fault (channel_at b) b
    ∷ wrong (nat_lt (end_of b) (length b)) (end_of b)
    ∷ [])

-- what a content ID body says
unfoldable pub content_id_of : List ℕ → Said
content_id_of b = content_id (content_part_of b) (channel_part_of (channel_at b) b)

-- a presentation time body: the time, or a byte after it
abbrev pub presentation_fault : List ℕ → Option ℕ
presentation_fault b = first (time_fault 0 b ∷ wrong (nat_lt 6 (length b)) 6 ∷ [])

-- what a presentation time body says
abbrev pub presentation_of : List ℕ → Said
presentation_of b = presentation (time_at 0 b)

-- nothing is wrong with plain bytes
abbrev pub plain_fault : List ℕ → Option ℕ
plain_fault b = None
