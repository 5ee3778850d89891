-- The CRC of blocks and messages, bit by bit: 32 bits, most significant bit first, register all ones at the start, no final inversion.
use Rattle.std.specs.Prelude.{ℕ, zero, suc, ◌*◌, ◌%◌, ◌^◌, cond, List, [], ◌∷◌, bit_xor, nat_le}

-- the register after its top bit is shifted out: where that bit is 1, the polynomial 04C11DB7 is added
unfoldable pub shifted : ℕ → ℕ
shifted r = cond (nat_le 0x8000_0000 r) (bit_xor ((r * 2 ^ 1) % 2 ^ 32) 0x04C1_1DB7) ((r * 2 ^ 1) % 2 ^ 32)

-- a step, taken n times
abbrev pub times : ℕ → (ℕ → ℕ) → ℕ → ℕ
times zero f x = x
times (suc n) f x = times n f (f x)

-- the register after one byte more: the byte is added to the top byte, and eight bits are shifted out
unfoldable pub fed : ℕ → ℕ → ℕ
fed r b = times 8 shifted (bit_xor r ((b * 2 ^ 24) % 2 ^ 32))

-- the register after some bytes more
abbrev pub feds : ℕ → List ℕ → ℕ
feds r [] = r
feds r (b ∷ bs) = feds (fed r b) bs

-- the CRC of some bytes
unfoldable pub crc : List ℕ → ℕ
crc bs = feds 0xFFFF_FFFF bs
