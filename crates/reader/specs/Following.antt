-- What the entries of a line come to: each block reaches the table, and messages, faults and skipped blocks are told in their order.
use Rattle.std.specs.Prelude.{ℕ, suc, ◌+◌, cond, List, [], ◌∷◌, ◌++◌, Some, None, Option}
use Rattle.sending.specs.Sendings.{Message}
use Rattle.walk.specs.Entries.{Item, read, fault, entries}
use Rattle.gather.specs.Gathering.{Answer, silent, handed, faulty}
use Rattle.gather.specs.Arriving.{Table, watched, arrive, answer_to}
use Rattle.tray.specs.Trays.{Fault}

-- how far the entries of a line have been followed
pub record Progress : Type 0 where
  pub table : Table
  pub messages : List Message
  pub faults : List Fault
  pub skipped : ℕ

-- the message that an answer hands over
abbrev pub message_in : Answer → List Message
message_in silent = []
message_in (handed m) = m ∷ []
message_in faulty = []

-- a block fault
abbrev pub block_fault : ℕ → ℕ → ℕ → Fault
block_fault place cause number = record { layer = 1; cause = cause; number = number; place = place }

-- a message fault: joined parts that fail their check, at the block that completed them
abbrev pub message_fault : ℕ → ℕ → Fault
message_fault place number = record { layer = 2; cause = 1; number = number; place = place }

-- the fault that an answer reports
abbrev pub fault_in : ℕ → ℕ → Answer → List Fault
fault_in place number silent = []
fault_in place number (handed m) = []
fault_in place number faulty = message_fault place number ∷ []

module _ (watch : List ℕ) (t : ℕ) where
  -- one entry more
  abbrev pub follow : Item → Progress → Progress
  follow (fault place cause number) p =
      record { table = p.table; messages = p.messages; faults = p.faults ++ block_fault place cause number ∷ []; skipped = p.skipped }
  follow (read place b) p =
      record {
        table = arrive watch t b p.table;
        messages = p.messages ++ message_in (answer_to watch t b p.table);
        faults = p.faults ++ fault_in place b.number (answer_to watch t b p.table);
        skipped = p.skipped + cond (watched watch b.number) 0 1;
      }

  abbrev pub follow_all : List Item → Progress → Progress
  follow_all [] p = p
  follow_all (i ∷ is) p = follow_all is (follow i p)

-- nothing followed yet
abbrev pub at_start : Table → Progress
at_start table = record { table = table; messages = []; faults = []; skipped = 0 }

-- the entries of the payload found, none where no run-in was found
abbrev pub items_in : Option (List ℕ) → List Item
items_in None = []
items_in (Some payload) = entries payload

-- what a line comes to at frame t, by the payload that the system found in it
abbrev pub followed : List ℕ → ℕ → Option (List ℕ) → Table → Progress
followed watch t found table = follow_all watch t (items_in found) (at_start table)

-- how many of the entries are faults
abbrev pub spoilt_of : List Item → ℕ
spoilt_of [] = 0
spoilt_of (read place b ∷ is) = spoilt_of is
spoilt_of (fault place cause number ∷ is) = suc (spoilt_of is)
