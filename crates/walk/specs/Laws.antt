-- What is true of every walk, in the words of the subject.
use Rattle.std.specs.Prelude.{◌≡◌, ℕ, ◌+◌, ◌-◌, ◌≤◌, List, [], ◌∷◌, ◌++◌, length, take, drop, replicate, slice_index}
use Rattle.std.specs.List.{flat_map, AllByRecursion}
use Rattle.crc.specs.Crc.{crc}
use Rattle.sending.specs.Sendings.{Sending, Block, IsBlockOf}
use Rattle.wire.specs.Wire.{block_bytes}
use Rattle.walk.specs.Fields.{word}
use Rattle.walk.specs.Entries.{Item, read, fault, blocks_read}

-- b is a block of some sending
abbrev pub OfASending : Block → Type 0
OfASending b = (s : Sending) × IsBlockOf s b

-- a payload of blocks: two bytes of any value, the wire forms in a row, zeros
abbrev pub payload_of : ℕ → ℕ → List Block → ℕ → List ℕ
payload_of x y bs z = x ∷ y ∷ (flat_map block_bytes bs ++ replicate z 0)

-- the blocks as entries, one behind the other from place p on
abbrev pub placed_from : ℕ → List Block → List Item
placed_from p [] = []
placed_from p (b ∷ bs) = read p b ∷ placed_from (p + length (block_bytes b)) bs

-- a payload of blocks of sendings is walked to exactly these blocks, in order, with no fault
abbrev pub ReadsSentBlocks : List ℕ → List Item → Type 0
ReadsSentBlocks payload es = (x y : ℕ) (bs : List Block) (z : ℕ) → AllByRecursion OfASending bs → payload ≡ payload_of x y bs z → (es ≡ placed_from 2 bs) × (blocks_read es ≡ bs)

-- where an entry begins
abbrev pub place_of : Item → ℕ
place_of (read place b) = place
place_of (fault place cause number) = place

-- where the block of an entry ends, by the count that stands in the payload
abbrev pub end_of : List ℕ → Item → ℕ
end_of payload i = place_of i + 2 + slice_index payload (place_of i + 1)

-- the entries lie one behind the other from place p on: each begins where the one before it ends
abbrev pub InLine : List ℕ → ℕ → List Item → Type 0
InLine payload p [] = Unit {0}
InLine payload p (i ∷ is) = (place_of i ≡ p) × InLine payload (end_of payload i) is

-- no two entries share a byte: each begins where or behind where each before it ends
abbrev pub Apart : List ℕ → List Item → Type 0
Apart payload [] = Unit {0}
Apart payload (i ∷ is) = AllByRecursion (λ j. end_of payload i ≤ place_of j) is × Apart payload is

-- a payload of at most 60 bytes has at most eight blocks and nine entries
abbrev pub Few : List ℕ → List Item → Type 0
Few payload es = length payload ≤ 60 → (length (blocks_read es) ≤ 8) × (length es ≤ 9)

-- a block that is read lies whole in the payload, has a right CRC_32 over its bytes, and no part above the last
abbrev pub Right : List ℕ → Item → Type 0
Right payload (fault place cause number) = Unit {0}
Right payload (read place b) =
    (b.part ≤ b.last)
    × (place + length (block_bytes b) ≤ length payload)
    × (crc (take (length (block_bytes b) - 4) (drop place payload)) ≡ word (drop (place + length (block_bytes b) - 4) payload))
