-- Parts that lie one behind the other: joined, cut out again, and where each ends.
use Rattle.std.specs.Prelude.{ℕ, ◌+◌, ◌<◌, List, [], ◌∷◌, length, slice_index, slice_index_or, slice_range}
use Rattle.std.specs.List.{flat_map}

-- parts joined
abbrev pub joint : List (List ℕ) → List ℕ
joint ps = flat_map (λ (p : List ℕ). p) ps

-- every byte of the parts is one
abbrev pub Plain : List (List ℕ) → Type 0
Plain ps = (k i : ℕ) → k < length ps → i < length (slice_index_or ps k []) → slice_index (slice_index_or ps k []) i < 256

-- the parts that end at the given places, the first of them from place p on
abbrev pub cuts : ℕ → List ℕ → List ℕ → List (List ℕ)
cuts p [] bytes = []
cuts p (e ∷ es) bytes = slice_range bytes p e ∷ cuts e es bytes

-- where parts end that lie one behind the other from place p on
abbrev pub ends : ℕ → List (List ℕ) → List ℕ
ends p [] = []
ends p (x ∷ xs) = (p + length x) ∷ ends (p + length x) xs
