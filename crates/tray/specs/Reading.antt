-- Reading a tray: its first wrong byte, or its entries.
use Rattle.std.specs.Prelude.{ℕ, ◌+◌, ◌*◌, cond, ◌||◌, List, [], ◌++◌, length, take, drop, Some, None, Option, ◌==◌, nat_lt, slice_index}
use Rattle.std.specs.List.{flat_map}
use Rattle.buffers.specs.Places.{or_else}
use Rattle.sending.specs.Sendings.{Message}
use Rattle.tray.specs.Trays.{Fault, message_bytes, fault_bytes}
use Rattle.tray.specs.Causes.{most_cause}
use Rattle.tray.specs.Rows.{row_fault, row_end, row_of, row_items}

-- ---- one entry, at the front of some bytes
-- how many bytes the message takes, by its length byte
abbrev pub message_size : List ℕ → ℕ
message_size bs = 3 + slice_index bs 2

-- the first wrong byte of the message: number 0, version over 15, length over 200, or the end where a byte lacks
unfoldable pub message_fault : List ℕ → Option ℕ
message_fault bs =
    cond (nat_lt (length bs) 1 || slice_index bs 0 == 0) (Some 0)
    (cond (nat_lt (length bs) 2 || nat_lt 15 (slice_index bs 1)) (Some 1)
    (cond (nat_lt (length bs) 3 || nat_lt 200 (slice_index bs 2)) (Some 2)
    (cond (nat_lt (length bs) (message_size bs)) (Some (length bs)) None)))

-- the first wrong byte of the fault: layer, cause, number byte, place, or the end where a byte lacks
unfoldable pub fault_fault : List ℕ → Option ℕ
fault_fault bs =
    cond (nat_lt (length bs) 1 || (slice_index bs 0 == 0 || nat_lt 2 (slice_index bs 0))) (Some 0)
    (cond (nat_lt (length bs) 2 || (slice_index bs 1 == 0 || nat_lt (most_cause (slice_index bs 0)) (slice_index bs 1))) (Some 1)
    (cond (nat_lt (length bs) 3 || slice_index bs 2 == 0) (Some 2)
    (cond (nat_lt (length bs) 4 || (nat_lt (slice_index bs 3) 2 || nat_lt 59 (slice_index bs 3))) (Some 3) None)))

-- the message that stands there
abbrev pub message_of : List ℕ → Message
message_of bs = record { number = slice_index bs 0; version = slice_index bs 1; bytes = take (slice_index bs 2) (drop 3 bs) }

-- the fault that stands there
abbrev pub fault_of : List ℕ → Fault
fault_of bs = record { layer = slice_index bs 0; cause = slice_index bs 1; number = slice_index bs 2; place = slice_index bs 3 }

-- ---- entries in a row, in bytes that stand at place p of the tray
-- the first wrong place of n messages
abbrev pub messages_fault : ℕ → ℕ → List ℕ → Option ℕ
messages_fault = row_fault message_fault message_size

-- the place where n messages end
abbrev pub messages_end : ℕ → ℕ → List ℕ → ℕ
messages_end = row_end message_size

-- the n messages
abbrev pub messages_of : ℕ → List ℕ → List Message
messages_of = row_of message_of message_size

-- how many bytes a fault takes
abbrev pub fault_size : List ℕ → ℕ
fault_size bs = 4

-- the first wrong place of n faults
abbrev pub faults_fault : ℕ → ℕ → List ℕ → Option ℕ
faults_fault = row_fault fault_fault fault_size

-- the n faults
abbrev pub faults_of : ℕ → List ℕ → List Fault
faults_of = row_of fault_of fault_size

-- ---- a whole tray
-- the count of its messages
abbrev pub message_count : List ℕ → ℕ
message_count t = slice_index t 0

-- where its section of faults begins: behind the messages
abbrev pub section_place : List ℕ → ℕ
section_place t = messages_end (message_count t) 1 (drop 1 t)

-- the count of its faults
abbrev pub fault_count : List ℕ → ℕ
fault_count t = slice_index t (section_place t)

-- where its last entry ends
abbrev pub end_place : List ℕ → ℕ
end_place t = section_place t + 1 + 4 * fault_count t

-- a message count over 8, or none
abbrev pub count_fault : List ℕ → Option ℕ
count_fault t = cond (nat_lt (length t) 1 || nat_lt 8 (message_count t)) (Some 0) None

-- a fault count that makes more than nine entries, or none; it stands at place p, behind n messages
abbrev pub section_fault : ℕ → ℕ → List ℕ → Option ℕ
section_fault n p t = cond (nat_lt (length t) (p + 1) || nat_lt 9 (n + slice_index t p)) (Some p) None

-- a byte after the last entry, which ends at place p
abbrev pub rest_fault : ℕ → List ℕ → Option ℕ
rest_fault p t = cond (nat_lt p (length t)) (Some p) None

-- the first wrong place of a tray, left to right, or its length where a byte lacks
unfoldable pub tray_fault : List ℕ → Option ℕ
tray_fault t =
    or_else (count_fault t)
    (or_else (messages_fault (message_count t) 1 (drop 1 t))
    (or_else (section_fault (message_count t) (section_place t) t)
    (or_else (faults_fault (fault_count t) (section_place t + 1) (drop (section_place t + 1) t)) (rest_fault (end_place t) t))))

-- an entry with its place, the index of its first byte in the tray
pub data Item : Type 0 where
  message : (place : ℕ) (m : Message) → Item
  fault : (place : ℕ) (f : Fault) → Item

-- messages in a row from place p on
abbrev pub message_items : ℕ → List Message → List Item
message_items = row_items message message_bytes

-- faults in a row from place p on
abbrev pub fault_items : ℕ → List Fault → List Item
fault_items = row_items fault fault_bytes

-- the entries of a tray of these messages and faults: the faults stand behind the second count
abbrev pub tray_items : List Message → List Fault → List Item
tray_items ms fs = message_items 1 ms ++ fault_items (2 + length (flat_map message_bytes ms)) fs

-- a list, or nothing where a place is wrong
abbrev pub right_only : {A : Type 0} → Option ℕ → List A → List A
right_only None xs = xs
right_only (Some p) xs = []

-- the messages of a tray, none where it isn't one
abbrev pub messages_in : List ℕ → List Message
messages_in t = right_only (tray_fault t) (messages_of (message_count t) (drop 1 t))

-- the faults of a tray, none where it isn't one
abbrev pub faults_in : List ℕ → List Fault
faults_in t = right_only (tray_fault t) (faults_of (fault_count t) (drop (section_place t + 1) t))

-- the entries of a tray, messages before faults, none where it isn't one
abbrev pub entries_in : List ℕ → List Item
entries_in t = tray_items (messages_in t) (faults_in t)
