-- What a table answers to each call, and what it is afterwards.
use Rattle.std.specs.Prelude.{ℕ, zero, suc, ◌+◌, ◌≤◌, cond, List, length, take, is_some, Some, None, Ok, Err, Option, Result}
use Rattle.refusal.specs.declared.Refusal.{Refusal}
use Rattle.refusal.specs.declared.Refusal.TheVariants.{WatchList}
use Rattle.sending.specs.Sendings.{Block}
use Rattle.gather.specs.Gathering.{Part, Slot, nothing, Answer, silent, handed, faulty}
use Rattle.gather.specs.Arriving as value
use Rattle.gather.specs.Arriving.{watched, arrive, answer_to}
use Rattle.gather.specs.Watching.{Watchable, fits_slot}
use Rattle.gather.specs.Model.{watching, gathered}
use Rattle.gather.specs.Keeping.{fronted}
use Rattle.gather.specs.declared.slot.Arrival.{Arrival}
use Rattle.gather.specs.declared.slot.Arrival.TheVariants.{NotWatched, Unfit, Silent, Message, Faulty}
use Rattle.gather.specs.declared.table.Table.{Table}

-- a table in which nothing is gathered
abbrev pub empty : value.Table
empty n = nothing

-- a new table, as its watch list and what it has gathered
abbrev pub shown : Result Table Refusal → Result (List ℕ × value.Table) Refusal
shown (Ok t) = Ok (watching t, gathered t)
shown (Err e) = Err e

-- what is answered where a table is wanted: a refusal at the list's fault, else a table that watches exactly this list
abbrev pub opened : List ℕ → Option ℕ → Result (List ℕ × value.Table) Refusal
opened watch (Some place) = Err (WatchList place)
opened watch None = Ok (watch, empty)

-- a list for which there is a table can be watched
abbrev pub Taken : List ℕ → Result Table Refusal → Type 0
Taken watch (Ok t) = Watchable watch
Taken watch (Err e) = Unit {0}

-- an answer as the code gives it, with a message's length
abbrev pub said : Answer → Arrival
said silent = Silent
said (handed m) = Message (length m.bytes)
said faulty = Faulty

-- the buffer after an answer: a message's bytes stand at its front, and the rest is as it was
abbrev pub written : Answer → List ℕ → List ℕ
written silent out = out
written (handed m) out = fronted m.bytes out
written faulty out = out

-- what the code's answer to a block means, with the buffer as it then is
abbrev pub meant : Block → Arrival → List ℕ → Answer
meant b NotWatched out = silent
meant b Unfit out = silent
meant b Silent out = silent
meant b (Message n) out = handed (record { number = b.number; version = b.version; bytes = take n out })
meant b Faulty out = faulty

-- a message that is handed over has at most 200 bytes
abbrev pub Short : Arrival → Type 0
Short NotWatched = Unit {0}
Short Unfit = Unit {0}
Short Silent = Unit {0}
Short (Message n) = n ≤ 200
Short Faulty = Unit {0}

module _ (watch : List ℕ) (t : ℕ) (b : Block) (table : value.Table) where
  -- the answer to any block: one that can't be gathered is answered nothing
  abbrev pub reply : Answer
  reply = cond (fits_slot b) (answer_to watch t b table) silent

  -- the same as the code gives it
  abbrev pub arrival : Arrival
  arrival = cond (watched watch b.number) (cond (fits_slot b) (said (answer_to watch t b table)) Unfit) NotWatched

  -- the table after any block: one that can't be gathered changes nothing
  abbrev pub next_table : value.Table
  next_table = cond (fits_slot b) (arrive watch t b table) table

-- how many of the first n parts are held
abbrev pub counted : ℕ → (ℕ → Option Part) → ℕ
counted zero held = 0
counted (suc n) held = counted n held + cond (is_some (held n)) 1 0

-- how many parts a slot holds; they are counted from 0 to 3
abbrev pub parts_held : Slot → ℕ
parts_held s = counted 4 s.held

-- how many parts are held for a number, or none where it isn't watched
abbrev pub held_for : List ℕ → value.Table → ℕ → Option ℕ
held_for watch table n = cond (watched watch n) (Some (parts_held (table n))) None
