-- What the memory of a table means, in the words of gathering.
use Rattle.std.specs.Prelude.{ℕ, min, cond, List, [], map, take, Some, None, Option, ◌==◌, slice_index_or}
use Rattle.gather.specs.Gathering as value
use Rattle.gather.specs.Arriving as arriving
use Rattle.gather.specs.Tables.{table_of}
use Rattle.gather.specs.declared.slot.Part.{Part}
use Rattle.gather.specs.declared.slot.State.{State}
use Rattle.gather.specs.declared.slot.State.TheVariants.{Empty, Gathering}
use Rattle.gather.specs.declared.slot.Slot.{Slot}
use Rattle.gather.specs.declared.table.Table.{Table}

-- the most bytes that are kept of part k: the fourth of four is a last one
abbrev pub room : ℕ → ℕ
room k = cond (k == 3) 47 51

-- part k, where it is held: the first of the bytes that lie there
abbrev pub part_in : ℕ → Option Part → List ℕ → Option value.Part
part_in k None bs = None
part_in k (Some p) bs = Some (record { body = take (min p.size (room k)) bs; check = p.check; frame = p.frame })

-- the parts that a slot holds
abbrev pub held_in : List (Option Part) → List (List ℕ) → ℕ → Option value.Part
held_in ps bss k = part_in k (slice_index_or ps k None) (slice_index_or bss k [])

-- a state, with the bytes beside it
abbrev pub slot_in : State → List (List ℕ) → value.Slot
slot_in Empty bss = value.nothing
slot_in (Gathering v l ps) bss = record { version = v; last = l; held = held_in ps bss }

-- what is kept in a slot
abbrev pub model : Slot → value.Slot
model s = slot_in s.state s.bytes

-- the numbers that a table watches, as they were given
abbrev pub watching : Table → List ℕ
watching t = map (λ (s : Slot). s.number) (take t.used t.slots)

-- what a table has gathered for each number
abbrev pub gathered : Table → arriving.Table
gathered t = table_of (watching t) (map model (take t.used t.slots))
