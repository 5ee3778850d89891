-- What each step of a block does to the numbers of a slot.
use Rattle.std.specs.Prelude.{ℕ, ◌+◌, cond, List, ◌++◌, map, length, drop, replicate, Some, None, Option, ◌==◌, nat_lt, slice_set}
use Rattle.sending.specs.Sendings.{Block}
use Rattle.gather.specs.Gathering as value
use Rattle.gather.specs.Watching.{fits_slot}
use Rattle.gather.specs.Gathering.{Slot, nothing, kept, full, right, whole}
use Rattle.gather.specs.declared.slot.Part.{Part}
use Rattle.gather.specs.declared.slot.State.{State}
use Rattle.gather.specs.declared.slot.State.TheVariants.{Empty, Gathering}
use Rattle.gather.specs.declared.slot.Arrival.{Arrival}
use Rattle.gather.specs.declared.slot.Arrival.TheVariants.{Unfit, Silent, Message, Faulty}

-- the part, unless it is more than 255 frames old
abbrev pub fresh_part : ℕ → Option Part → Option Part
fresh_part t None = None
fresh_part t (Some p) = cond (nat_lt (p.frame + 255) t) None (Some p)

-- the state when a block of this version and last number comes at frame t: what doesn't agree is dropped, and what is old
abbrev pub renewed : ℕ → ℕ → ℕ → State → State
renewed t v l Empty = Gathering v l (replicate 4 None)
renewed t v l (Gathering w m ps) =
    cond (w == v) (cond (m == l) (Gathering v l (map (fresh_part t) ps)) (Gathering v l (replicate 4 None))) (Gathering v l (replicate 4 None))

-- the state with one part noted
abbrev pub noted : ℕ → Part → State → State
noted k p Empty = Empty
noted k p (Gathering v l ps) = Gathering v l (slice_set ps k (Some p))

-- a slot once a block's part is kept
abbrev pub with_part : ℕ → Block → Slot → Slot
with_part t b s = record { version = b.version; last = b.last; held = kept t b s }

-- bytes written at the front of a buffer
abbrev pub fronted : List ℕ → List ℕ → List ℕ
fronted bytes out = bytes ++ drop (length bytes) out

-- what parts that are all held are answered
abbrev pub verdict : ℕ → (ℕ → Option value.Part) → Arrival
verdict n held = cond (right n held) (Message (length (whole n held))) Faulty

-- the buffer then
abbrev pub verdict_out : ℕ → (ℕ → Option value.Part) → List ℕ → List ℕ
verdict_out n held out = cond (right n held) (fronted (whole n held) out) out

-- what a slot answers once a part is kept
abbrev pub ended : Slot → Arrival
ended s = cond (full s.last s.held) (verdict s.last s.held) Silent

-- the buffer then
abbrev pub ended_out : Slot → List ℕ → List ℕ
ended_out s out = cond (full s.last s.held) (verdict_out s.last s.held out) out

-- the slot then
abbrev pub emptied : Slot → Slot
emptied s = cond (full s.last s.held) nothing s

-- what a slot answers to any block
abbrev pub served : ℕ → Block → Slot → Arrival
served t b s = cond (fits_slot b) (ended (with_part t b s)) Unfit

-- the buffer then
abbrev pub served_out : ℕ → Block → Slot → List ℕ → List ℕ
served_out t b s out = cond (fits_slot b) (ended_out (with_part t b s) out) out

-- the slot then: a block that can't be gathered changes nothing
abbrev pub served_slot : ℕ → Block → Slot → Slot
served_slot t b s = cond (fits_slot b) (emptied (with_part t b s)) s
