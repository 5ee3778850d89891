-- 1X, over the level S of each symbol and the weight w of a symbol.
use Rattle.std.specs.Prelude.{◌≡◌, ℕ, ◌+◌, ◌-◌, ◌*◌, ◌<◌, min, max, Bool, true, cond, List, [], ◌∷◌, length, Some, None, fold, Option, nat_lt}
use Rattle.line.specs.declared.depth.Depth.{Depth}
use Rattle.line.specs.declared.reading.Cuts.{Cuts}
use Rattle.line.specs.declared.reading.Cuts.TheVariants.{One}
use Rattle.line.specs.Depths.{unit_of}
use Rattle.line.specs.Symbols.{Near, weight, level_at}
use Rattle.line.specs.Scales.{found_by}
use Rattle.onex.specs.Pairs.{allowed}

-- the places of the zeros and of the ones of EB 52
abbrev pub zero_places : List ℕ
zero_places = 3 ∷ 5 ∷ 8 ∷ 10 ∷ 12 ∷ 13 ∷ 15 ∷ []

abbrev pub one_places : List ℕ
one_places = 0 ∷ 1 ∷ 2 ∷ 4 ∷ 6 ∷ 7 ∷ 9 ∷ 11 ∷ 14 ∷ []

-- the largest of a and the levels at the places, and the smallest
abbrev pub largest : (ℕ → ℕ) → ℕ → List ℕ → ℕ
largest S a ks = fold (λ m k. max m (S k)) a ks

abbrev pub smallest : (ℕ → ℕ) → ℕ → List ℕ → ℕ
smallest S a ks = fold (λ m k. min m (S k)) a ks

-- Z and O: the largest level at the zeros of the run-in, and the smallest at its ones, of which place 0 is the first
abbrev pub measured : (ℕ → ℕ) → ℕ × ℕ
measured S = (largest S 0 zero_places, smallest S (S 0) one_places)

-- the run-in is found exactly if 2 (O - Z) exceeds 16 q times the weight
abbrev pub one_run : ℕ → ℕ → (ℕ → ℕ) → Bool
one_run q w S = nat_lt (w * (16 * q)) (2 * ((measured S).1 - (measured S).0))

-- where the run-in is found, a symbol is 1 exactly if twice its level reaches Z + O
abbrev pub one_cuts : ℕ → ℕ → (ℕ → ℕ) → Option Cuts
one_cuts q w S = cond (one_run q w S) (Some (One ((measured S).0 + (measured S).1))) None

-- what 1X finds in a line
abbrev pub one_found : Depth → List ℕ → Option (List ℕ)
one_found d line = found_by (one_cuts (unit_of d) (weight (length line)) (level_at line)) (level_at line)

-- the tolerance: for some e, each sample lies at most e from a drawing with some allowed levels, and 4 e is below their difference
abbrev pub OneCarries : Depth → List ℕ → List ℕ → Type 0
OneCarries d line p = (z : ℕ) × (o : ℕ) × (e : ℕ) × (allowed (unit_of d) z o ≡ true) × (4 * e < o - z) × Near d 1 (z ∷ o ∷ []) e line p
