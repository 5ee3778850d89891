-- Entries of one kind in a row, in bytes that stand at place p of the tray.
use Rattle.std.specs.Prelude.{ℕ, zero, suc, ◌+◌, cond, ◌&&◌, List, [], ◌∷◌, length, drop, Some, None, Option, nat_lt, nat_le, slice_index}
use Rattle.buffers.specs.Places.{or_else, shifted}

-- the place of a byte that lacks or lies outside a range, or none
abbrev pub byte_fault : ℕ → ℕ → ℕ → List ℕ → Option ℕ
byte_fault least most p t =
    cond (nat_lt p (length t) && (nat_le least (slice_index t p) && nat_le (slice_index t p) most)) None (Some p)

-- the first wrong place of n entries, by what is wrong with one and how many bytes it takes
unfoldable pub row_fault : (List ℕ → Option ℕ) → (List ℕ → ℕ) → ℕ → ℕ → List ℕ → Option ℕ
row_fault wrong size zero p bs = None
row_fault wrong size (suc n) p bs =
    or_else (shifted p (wrong bs)) (row_fault wrong size n (p + size bs) (drop (size bs) bs))

-- the place where n entries end
unfoldable pub row_end : (List ℕ → ℕ) → ℕ → ℕ → List ℕ → ℕ
row_end size zero p bs = p
row_end size (suc n) p bs = row_end size n (p + size bs) (drop (size bs) bs)

-- the n entries
unfoldable pub row_of : {A : Type 0} → (List ℕ → A) → (List ℕ → ℕ) → ℕ → List ℕ → List A
row_of one size zero bs = []
row_of one size (suc n) bs = one bs ∷ row_of one size n (drop (size bs) bs)

-- the same, each with its place
unfoldable pub row_ahead : {A : Type 0} → (ℕ → List ℕ → A) → (List ℕ → ℕ) → ℕ → ℕ → List ℕ → List A
row_ahead entry size zero p bs = []
row_ahead entry size (suc n) p bs = entry p bs ∷ row_ahead entry size n (p + size bs) (drop (size bs) bs)

-- entries with the places where their bytes stand, one behind the other from place p on
abbrev pub row_items : {A B : Type 0} → (ℕ → A → B) → (A → List ℕ) → ℕ → List A → List B
row_items at bytes p [] = []
row_items at bytes p (x ∷ xs) = at p x ∷ row_items at bytes (p + length (bytes x)) xs
