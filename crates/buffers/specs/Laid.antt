-- What a buffer holds after a write.
use Rattle.std.specs.Prelude.{ℕ, ◌+◌, cond, List, ◌++◌, length, take, drop, Some, None, Option, nat_le}

-- what a buffer holds once ys is written into it at a place
unfoldable pub laid : List ℕ → ℕ → List ℕ → List ℕ
laid xs at ys = take at xs ++ (ys ++ drop (at + length ys) xs)

-- where bytes end that are written at a place of n bytes, or none where they don't fit
abbrev pub laying : ℕ → List ℕ → ℕ → Option ℕ
laying at ys n = cond (nat_le (at + length ys) n) (Some (at + length ys)) None

-- what such a buffer holds afterwards: what it held where they don't fit
abbrev pub laid_or_not : ℕ → List ℕ → List ℕ → List ℕ
laid_or_not at ys xs = cond (nat_le (at + length ys) (length xs)) (laid xs at ys) xs
