-- The four levels of 2X.
use Rattle.std.specs.Prelude.{ℕ, List, [], ◌∷◌, slice_index_or}
use Rattle.line.specs.declared.depth.Depth.{Depth}
use Rattle.line.specs.declared.depth.Depth.TheVariants.{Eight, Ten, Twelve}

-- the levels of the values 0 to 3, a row for each depth
abbrev pub level_rows : List (List ℕ)
level_rows = (16 ∷ 89 ∷ 162 ∷ 235 ∷ []) ∷ (64 ∷ 356 ∷ 648 ∷ 940 ∷ []) ∷ (256 ∷ 1424 ∷ 2592 ∷ 3760 ∷ []) ∷ []

-- the row of a depth
abbrev pub row_of : Depth → ℕ
row_of Eight = 0
row_of Ten = 1
row_of Twelve = 2

-- the levels of the values 0 to 3 at a depth
abbrev pub two_levels : Depth → List ℕ
two_levels d = slice_index_or level_rows (row_of d) []
