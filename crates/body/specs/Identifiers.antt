-- Identifiers, by type, length and characters. Which characters an Ad-ID may have is a parameter, `ok`.
use Rattle.std.specs.Prelude.{ℕ, ◌+◌, Bool, cond, ◌&&◌, ◌||◌, List, [], ◌∷◌, Some, None, Option, ◌==◌, nat_le}
use Rattle.buffers.specs.Places.{part}

-- from low to high, both included
abbrev pub within : ℕ → ℕ → ℕ → Bool
within low high c = nat_le low c && nat_le c high

-- a digit or a letter of either case
abbrev pub is_alphanumeric : ℕ → Bool
is_alphanumeric c = within 0x30 0x39 c || (within 0x41 0x5A c || within 0x61 0x7A c)

-- the lengths that an identifier may have: EIDR (type 1) 12 bytes, Ad-ID (type 2) 11 or 12, any other what a byte can say
abbrev pub length_fits : ℕ → ℕ → Bool
length_fits type n = cond (type == 1) (n == 12) (cond (type == 2) (within 11 12 n) (nat_le n 255))

-- the index of the first character that is not ok, of characters that begin at index i
abbrev pub wrong_from : (ℕ → Bool) → ℕ → List ℕ → Option ℕ
wrong_from ok i [] = None
wrong_from ok i (c ∷ cs) = cond (ok c) (wrong_from ok (i + 1) cs) (Some i)

-- the index of an identifier's first wrong character: only Ad-IDs have characters that can be wrong
abbrev pub misspelt : (ℕ → Bool) → ℕ → List ℕ → Option ℕ
misspelt ok type id = part (type == 2) (wrong_from ok 0 id)
