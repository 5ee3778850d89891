-- The entries of a payload: what stands at each place, in order.
use Rattle.std.specs.Prelude.{ℕ, zero, suc, ◌+◌, Bool, cond, ◌||◌, List, [], ◌∷◌, length, drop, ◌==◌, slice_index}
use Rattle.sending.specs.Sendings as value
use Rattle.sending.specs.Model.{means}
use Rattle.walk.specs.declared.entry.Entry.{Entry}
use Rattle.walk.specs.declared.entry.Entry.TheVariants.{Block, Fault}
use Rattle.walk.specs.Fields.{count_of, cause_at, cause_number, block_at}

-- what stands at a place: a block that is read, or a fault with its cause and the number byte that stands there
pub data Item : Type 0 where
  read : (place : ℕ) (b : value.Block) → Item
  fault : (place cause number : ℕ) → Item

-- what stands at place p, where the bytes from there on are given
unfoldable pub item_at : ℕ → List ℕ → Item
item_at p bs = cond (cause_at bs == 0) (read p (block_at bs)) (fault p (cause_at bs) (slice_index bs 0))

-- the causes that finish a line: nothing tells where a next block would begin
abbrev pub finishes : ℕ → Bool
finishes c = c == 1 || c == 2

-- how many bytes the entry takes: all that are left where it finishes the line
abbrev pub taken : List ℕ → ℕ
taken bs = cond (finishes (cause_at bs)) (length bs) (count_of bs + 2)

-- the entries of bytes that stand at p, of which the first k belong to a block before them
unfoldable pub scan : ℕ → ℕ → List ℕ → List Item
scan zero p [] = []
scan (suc k) p [] = []
scan zero p (b ∷ bs) =
    cond (b == 0) []
    (item_at p (b ∷ bs) ∷ cond (finishes (cause_at (b ∷ bs))) [] (scan (suc (count_of (b ∷ bs))) (suc p) bs))
scan (suc k) p (b ∷ bs) = scan k (suc p) bs

-- the entries of a payload, from place 2 on
abbrev pub entries : List ℕ → List Item
entries payload = scan 0 2 (drop 2 payload)

-- an entry of the code, in the words above
abbrev pub item : Entry → Item
item (Block place block) = read place (means block)
item (Fault place cause number) = fault place (cause_number cause) number

-- the blocks that are read, in order
abbrev pub blocks_read : List Item → List value.Block
blocks_read [] = []
blocks_read (read place b ∷ is) = b ∷ blocks_read is
blocks_read (fault place cause number ∷ is) = blocks_read is
