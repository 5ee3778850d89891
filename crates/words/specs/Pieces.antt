-- Bytes cut at a separator.
use Rattle.std.specs.Prelude.{◌≡◌, ◌≢◌, ℕ, List, ◌∷◌, ◌++◌, Some, None, Option, IsSomeAnd, MatchOption}
use Rattle.std.specs.List.{All}

-- a piece, and what is left behind its separator; where none follows, the piece is all
abbrev pub Cut : ℕ → List ℕ → List ℕ → Option (List ℕ) → Type 0
Cut separator bytes piece None = bytes ≡ piece
Cut separator bytes piece (Some rest) = bytes ≡ piece ++ separator ∷ rest

-- what is taken of the bytes that are left: a piece without a separator in it, while there is one
abbrev pub Taken : ℕ → Option (List ℕ) → Option (List ℕ) → Option (List ℕ) → Type 0
Taken separator None piece rest = (piece ≡ None) × (rest ≡ None)
Taken separator (Some bytes) piece rest = IsSomeAnd piece (λ p. All (λ c. c ≢ separator) p × Cut separator bytes p rest)

-- a call that takes the next piece, if there is one: what holds where there is none, and what of the piece
abbrev pub Takes : ℕ → Option (List ℕ) → Option (List ℕ) → Type 0 → (List ℕ → Type 0) → Type 0
Takes separator old new Nothing Says = (piece : Option (List ℕ)) × Taken separator old piece new × MatchOption piece Nothing Says
