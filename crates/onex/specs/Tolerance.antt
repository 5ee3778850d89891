-- How much a pair of 1X levels bears.
use Rattle.std.specs.Prelude.{◌≡◌, ℕ, List, [], ◌∷◌, Some}
use Rattle.line.specs.declared.depth.Depth.{Depth}
use Rattle.line.specs.declared.depth.Depth.TheVariants.{Eight}
use Rattle.line.specs.Symbols.{Near}
use Rattle.onex.specs.OneX.{one_found}

-- a pair of levels bears e: every line whose samples lie at most e from a drawing with it is read as the payload drawn
abbrev pub Bears : Depth → ℕ → ℕ → ℕ → Type 0
Bears d z o e = (line p : List ℕ) → Near d 1 (z ∷ o ∷ []) e line p → one_found d line ≡ Some p

-- levels 4 and 20 at eight bits, the closest that are allowed, bear 3 and don't bear 4
abbrev pub ClosestBearThree : Type 0
ClosestBearThree = Bears Eight 4 20 3 × (Bears Eight 4 20 4 → ⊥)
