-- Cuts, by which symbols are read, and palettes, by which they are drawn.
use Rattle.std.specs.Prelude.{ℕ, ◌*◌, Bool, cond, List, [], ◌∷◌, Some, None, Option, ◌==◌, nat_lt}
use Rattle.line.specs.declared.reading.Cuts.{Cuts}
use Rattle.line.specs.declared.reading.Cuts.TheVariants.{One, Three}
use Rattle.line.specs.declared.drawing.Palette.{Palette}
use Rattle.line.specs.declared.drawing.Palette.TheVariants.{Two, Four}
use Rattle.line.specs.Symbols.{value_of, payload_of}

-- the cuts in rising order
abbrev pub cut_list : Cuts → List ℕ
cut_list (One c) = c ∷ []
cut_list (Three cs) = cs

-- how many bits a symbol has that is read by the cuts
abbrev pub cut_bits : Cuts → ℕ
cut_bits (One c) = 1
cut_bits (Three cs) = 2

-- the payload that a line of these levels is read as by the cuts
abbrev pub payload_by : Cuts → (ℕ → ℕ) → List ℕ
payload_by cuts levels = payload_of (cut_bits cuts) (λ k. value_of (cut_list cuts) (2 * levels k))

-- the payload that a system finds, by the cuts it has where its run-in is found
abbrev pub found_by : Option Cuts → (ℕ → ℕ) → Option (List ℕ)
found_by None levels = None
found_by (Some cuts) levels = Some (payload_by cuts levels)

-- what was written of a payload: all of it, or nothing where the buffer has under 60 bytes
abbrev pub gathered_into : ℕ → List ℕ → Option (List ℕ)
gathered_into room p = cond (nat_lt room 60) None (Some p)

-- the level of each value, from 0 on
abbrev pub palette_levels : Palette → List ℕ
palette_levels (Two ls) = ls
palette_levels (Four ls) = ls

-- how many bits a symbol has that is drawn by the palette
abbrev pub palette_bits : Palette → ℕ
palette_bits (Two ls) = 1
palette_bits (Four ls) = 2

-- which payload lengths are drawn at so many bits to a symbol
abbrev pub draws_bits : ℕ → ℕ → Bool
draws_bits bits n = n == 30 * bits
