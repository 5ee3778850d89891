-- Two answers as one.
use Rattle.std.specs.Prelude.{ℕ, List, Some, None, Option}

-- what the first finds, or else what the second finds
abbrev pub found_else : Option (List ℕ) → Option (List ℕ) → Option (List ℕ)
found_else None other = other
found_else (Some p) other = Some p
