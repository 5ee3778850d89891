-- 2X, over the level S of each symbol and the weight w of a symbol.
use Rattle.std.specs.Prelude.{ℕ, ◌+◌, ◌*◌, ◌<◌, Bool, true, cond, ◌&&◌, List, [], ◌∷◌, length, Some, None, Option, ◌==◌}
use Rattle.line.specs.declared.depth.Depth.{Depth}
use Rattle.line.specs.declared.reading.Cuts.{Cuts}
use Rattle.line.specs.declared.reading.Cuts.TheVariants.{Three}
use Rattle.line.specs.Depths.{unit_of}
use Rattle.line.specs.Symbols.{Near, weight, level_at, value_of}
use Rattle.line.specs.Scales.{found_by}
use Rattle.twox.specs.Levels.{two_levels}

-- between each two neighbouring levels a cut: the weight times their sum
abbrev pub cuts_after : ℕ → ℕ → List ℕ → List ℕ
cuts_after w a [] = []
cuts_after w a (b ∷ ls) = w * (a + b) ∷ cuts_after w b ls

abbrev pub cuts_of : ℕ → List ℕ → List ℕ
cuts_of w [] = []
cuts_of w (a ∷ ls) = cuts_after w a ls

-- the values from place k on are these
abbrev pub runs_as : (ℕ → ℕ) → ℕ → List ℕ → Bool
runs_as f k [] = true
runs_as f k (v ∷ vs) = f k == v && runs_as f (k + 1) vs

-- the values of EB 52
abbrev pub two_run : List ℕ
two_run = 3 ∷ 2 ∷ 2 ∷ 3 ∷ 1 ∷ 1 ∷ 0 ∷ 2 ∷ []

-- the run-in is found exactly if the first eight values are those of EB 52
abbrev pub two_cuts : List ℕ → ℕ → (ℕ → ℕ) → Option Cuts
two_cuts levels w S = cond (runs_as (λ k. value_of (cuts_of w levels) (2 * S k)) 0 two_run) (Some (Three (cuts_of w levels))) None

-- what 2X finds in a line
abbrev pub two_found : Depth → List ℕ → Option (List ℕ)
two_found d line = found_by (two_cuts (two_levels d) (weight (length line)) (level_at line)) (level_at line)

-- the tolerance: for some e, each sample lies at most e from the drawing, and 2 e is below the gap of 73 q between levels
abbrev pub TwoCarries : Depth → List ℕ → List ℕ → Type 0
TwoCarries d line p = (e : ℕ) × (2 * e < 73 * unit_of d) × Near d 2 (two_levels d) e line p
