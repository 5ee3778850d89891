-- Which pairs of levels 1X may have.
use Rattle.std.specs.Prelude.{ℕ, ◌+◌, ◌*◌, Bool, ◌&&◌, nat_le}

-- in units q: the level for 0 from 4 to 16, the level for 1 from 20 to 100, and at least 16 between them
abbrev pub allowed : ℕ → ℕ → ℕ → Bool
allowed q z o = (nat_le (4 * q) z && nat_le z (16 * q)) && ((nat_le (20 * q) o && nat_le o (100 * q)) && nat_le (z + 16 * q) o)
