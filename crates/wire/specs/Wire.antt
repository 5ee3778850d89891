-- The wire form of a block.
use Rattle.std.specs.Prelude.{ℕ, ◌+◌, ◌<◌, ◌≤◌, ◌*◌, ◌/◌, ◌%◌, List, [], ◌∷◌, ◌++◌, length, Some, None, Option}
use Rattle.crc.specs.Crc.{crc}
use Rattle.sending.specs.Sendings.{Block}

-- 32 bits as four bytes, the most significant first
abbrev pub word_bytes : ℕ → List ℕ
word_bytes n = (n / 16777216 % 256) ∷ (n / 65536 % 256) ∷ (n / 256 % 256) ∷ (n % 256) ∷ []

-- the message CRC, in the blocks that carry it
abbrev pub check_bytes : Option ℕ → List ℕ
check_bytes None = []
check_bytes (Some w) = word_bytes w

-- the count of the bytes that follow the count byte
unfoldable pub count : Block → ℕ
count b = 5 + length b.body + length (check_bytes b.check)

-- number, count, then version (4 bits), part (2) and last part's number (2) in one byte
unfoldable pub head : Block → List ℕ
head b = b.number ∷ count b ∷ (b.version * 16 + b.part * 4 + b.last) ∷ []

-- what the block's own CRC covers: all of the block before it
unfoldable pub covered : Block → List ℕ
covered b = (head b ++ b.body) ++ check_bytes b.check

-- the bytes of a block, as a payload carries them
unfoldable pub block_bytes : Block → List ℕ
block_bytes b = covered b ++ word_bytes (crc (covered b))

-- the numbers of a block have room in these bytes
pub record Fits (b : Block) : Type 0 where
  pub body : length b.body ≤ 51
  pub version : b.version < 16
  pub part : b.part < 4
  pub last : b.last < 4
