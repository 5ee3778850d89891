-- The format of bodies: the bytes of a message, field by field, most significant bit first; and the values that no body can have.
use Rattle.std.specs.Prelude.{ℕ, ◌+◌, ◌*◌, ◌/◌, ◌%◌, ◌^◌, ◌<◌, Bool, not, List, [], ◌∷◌, ◌++◌, length, Some, None, Option, nat_le, nat_lt}
use Rattle.buffers.specs.Places.{wrong, first, shifted}
use Rattle.body.specs.declared.message.Time.{Time}
use Rattle.body.specs.declared.message.Channel.{Channel}
use Rattle.body.specs.Identifiers.{length_fits, misspelt}
use Rattle.body.specs.Messages.{Identified, Said, content_id, presentation, plain}

-- ---- the reserved bits, which carry no meaning
-- what stands in them: after the two flags, before the valid-until flag, before milliseconds, before the major channel
pub record Reserved : Type 0 where
  pub flags : ℕ
  pub content : ℕ
  pub time : ℕ
  pub channel : ℕ

-- six bits, one bit, six bits, four bits
pub record Fitting (r : Reserved) : Type 0 where
  pub flags : r.flags < 64
  pub content : r.content < 2
  pub time : r.time < 64
  pub channel : r.channel < 16

-- all ones, as they are written
abbrev pub ones : Reserved
ones = record { flags = 63; content = 1; time = 63; channel = 15 }

-- ---- the bytes
-- a flag of weight n: set where the value is there
abbrev pub flag : {A : Type 0} → ℕ → Option A → ℕ
flag n (Some x) = n
flag n None = 0

-- seconds (32 bits), six reserved bits, milliseconds (10 bits)
abbrev pub time_bytes : ℕ → Time → List ℕ
time_bytes r t =
    (t.seconds / 16777216) ∷ (t.seconds / 65536 % 256) ∷ (t.seconds / 256 % 256) ∷ (t.seconds % 256)
    ∷ (r * 4 + t.milliseconds / 256) ∷ (t.milliseconds % 256) ∷ []

-- the valid-until time, where there is one
abbrev pub until_bytes : ℕ → Option Time → List ℕ
until_bytes r (Some t) = time_bytes r t
until_bytes r None = []

-- a reserved bit, valid-until present (1 bit), type (6 bits); length (8 bits)
abbrev pub head_bytes : ℕ → Identified → List ℕ
head_bytes r c = (r * 128 + flag 64 c.valid_until + c.id_type) ∷ length c.id ∷ []

-- the content, where there is one: type and length, valid-until, identifier
abbrev pub content_bytes : Reserved → Option Identified → List ℕ
content_bytes r (Some c) = head_bytes r.content c ++ (until_bytes r.time c.valid_until ++ c.id)
content_bytes r None = []

-- the channel, where there is one: BSID (16 bits), four reserved bits, major (10 bits), minor (10 bits)
abbrev pub channel_bytes : ℕ → Option Channel → List ℕ
channel_bytes r (Some c) =
    (c.bsid / 256) ∷ (c.bsid % 256) ∷ (r * 16 + c.major / 64) ∷ (c.major % 64 * 4 + c.minor / 256) ∷ (c.minor % 256) ∷ []
channel_bytes r None = []

-- content present (1 bit), channel present (1 bit), six reserved bits
abbrev pub flags_byte : ℕ → Option Identified → Option Channel → ℕ
flags_byte r c h = flag 128 c + flag 64 h + r

-- a content ID body: flags, content, channel
unfoldable pub content_id_bytes : Reserved → Said → List ℕ
content_id_bytes r (content_id c h) = flags_byte r.flags c h ∷ (content_bytes r c ++ channel_bytes r.channel h)
content_id_bytes r (presentation t) = []
content_id_bytes r (plain b) = []

-- a presentation time body: the time alone
abbrev pub presentation_bytes : Reserved → Said → List ℕ
presentation_bytes r (presentation t) = time_bytes r.time t
presentation_bytes r (content_id c h) = []
presentation_bytes r (plain b) = []

-- a plain body: its bytes
abbrev pub plain_bytes : Reserved → Said → List ℕ
plain_bytes r (plain b) = b
plain_bytes r (content_id c h) = []
plain_bytes r (presentation t) = []

-- ---- values that no body can have, in the order of the places; a too large one where its field would begin
-- a time that begins at p
abbrev pub time_wrong : ℕ → Time → Option ℕ
time_wrong p t = first (wrong (nat_le (2 ^ 32) t.seconds) p ∷ wrong (nat_lt 999 t.milliseconds) (p + 4) ∷ [])

-- a valid-until time begins at 3
abbrev pub until_wrong : Option Time → Option ℕ
until_wrong (Some t) = time_wrong 3 t
until_wrong None = None

-- where an identifier begins: after the valid-until time, if there is one
abbrev pub id_place : Option Time → ℕ
id_place until = 3 + flag 6 until

-- a content: its type over six bits, a length that doesn't fit, the valid-until time, a character
abbrev pub content_wrong : (ℕ → Bool) → Option Identified → Option ℕ
content_wrong ok (Some c) =
    first (wrong (nat_lt 63 c.id_type) 1
    ∷ wrong (not (length_fits c.id_type (length c.id))) 2
    ∷ until_wrong c.valid_until
    ∷ shifted (id_place c.valid_until) (misspelt ok c.id_type c.id)
    ∷ [])
content_wrong ok None = None

-- a channel that begins at p: its BSID over 16 bits, its major or minor number over ten
abbrev pub channel_wrong : ℕ → Option Channel → Option ℕ
channel_wrong p (Some c) =
    first (wrong (nat_le (2 ^ 16) c.bsid) p
    ∷ wrong (nat_lt 1023 c.major) (p + 2)
    ∷ wrong (nat_lt 1023 c.minor) (p + 3)
    ∷ [])
channel_wrong p None = None

-- neither content nor channel: nothing is said
abbrev pub neither : {A B : Type 0} → Option A → Option B → Option ℕ
neither (Some x) h = None
neither None (Some y) = None
neither None None = Some 0

-- a content ID message
unfoldable pub content_id_wrong : (ℕ → Bool) → Said → Option ℕ
content_id_wrong ok (content_id c h) = first (neither c h ∷ content_wrong ok c ∷ channel_wrong (1 + length (content_bytes ones c)) h ∷ [])
content_id_wrong ok (presentation t) = Some 0
content_id_wrong ok (plain b) = Some 0

-- a presentation time
abbrev pub presentation_wrong : Said → Option ℕ
presentation_wrong (presentation t) = time_wrong 0 t
presentation_wrong (content_id c h) = Some 0
presentation_wrong (plain b) = Some 0

-- plain bytes: nothing is wrong with any
abbrev pub plain_wrong : Said → Option ℕ
plain_wrong (plain b) = None
plain_wrong (content_id c h) = Some 0
plain_wrong (presentation t) = Some 0
