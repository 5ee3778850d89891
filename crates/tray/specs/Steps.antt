-- The entries of a row that are still to be given, and giving one.
use Rattle.std.specs.Prelude.{◌≡◌, ℕ, ◌+◌, false, List, [], ◌∷◌, drop, is_some, Some, None, Option}
use Rattle.tray.specs.declared.row.Row.{Row}
use Rattle.tray.specs.declared.entry.Entry.{Entry}
use Rattle.tray.specs.Rows.{row_fault, row_ahead}
use Rattle.tray.specs.Reading.{Item, message, fault, message_size, message_of, fault_size, fault_of}
use Rattle.tray.specs.Entries.{item}

-- r is the first of the entries, and others are those behind it
abbrev pub First : List Item → Option Entry → List Item → Type 0
First all None others = (all ≡ []) × (others ≡ [])
First all (Some e) others = all ≡ item e ∷ others

-- one fewer is left where one is given
abbrev pub Fewer : ℕ → Option Entry → ℕ → Type 0
Fewer before None after = after ≡ before
Fewer before (Some e) after = after + 1 ≡ before

-- the entries of a row of some kind
abbrev pub in_row : (ℕ → List ℕ → Item) → (List ℕ → ℕ) → Row → List ℕ → List Item
in_row entry size r t = row_ahead entry size r.left r.place (drop r.place t)

-- one step over a row: it gives the first entry, and what is left is right
pub record Gives (wrong : List ℕ → Option ℕ) (size : List ℕ → ℕ) (entry : ℕ → List ℕ → Item) (t : List ℕ) (before : Row) (r : Option Entry) (after : Row) : Type 0 where
  pub first : First (in_row entry size before t) r (in_row entry size after t)
  pub right : is_some (row_fault wrong size after.left after.place (drop after.place t)) ≡ false
  pub fewer : Fewer before.left r after.left

-- the messages of a row, and the faults
abbrev pub messages_ahead : Row → List ℕ → List Item
messages_ahead = in_row (λ p bs. message p (message_of bs)) message_size

abbrev pub faults_ahead : Row → List ℕ → List Item
faults_ahead = in_row (λ p bs. fault p (fault_of bs)) fault_size
