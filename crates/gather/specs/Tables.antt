-- Slots and parts that lie in lists, as tables.
use Rattle.std.specs.Prelude.{ℕ, zero, suc, cond, List, [], ◌∷◌, None, Option, ◌==◌}
use Rattle.gather.specs.Gathering.{Part, Slot, nothing}
use Rattle.gather.specs.Arriving.{Table}

-- the table of some numbers with a slot for each; the first of equal numbers counts
abbrev pub table_of : List ℕ → List Slot → Table
table_of [] slots n = nothing
table_of (w ∷ ws) [] n = nothing
table_of (w ∷ ws) (s ∷ slots) n = cond (w == n) s (table_of ws slots n)

-- the parts of a slot from a list of them
abbrev pub held_of : List (Option Part) → ℕ → Option Part
held_of [] k = None
held_of (o ∷ os) zero = o
held_of (o ∷ os) (suc k) = held_of os k
