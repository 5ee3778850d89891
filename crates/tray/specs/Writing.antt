-- What writing into a tray answers, and what it leaves there.
use Rattle.std.specs.Prelude.{◌≡◌, ℕ, ◌+◌, ◌≤◌, Bool, cond, ◌||◌, List, [], ◌∷◌, ◌++◌, length, drop, Some, None, Option, ◌==◌, nat_lt}
use Rattle.std.specs.List.{flat_map}
use Rattle.buffers.specs.Laid.{laid, laying, laid_or_not}
use Rattle.sending.specs.Sendings.{Message}
use Rattle.tray.specs.Trays.{Fault, message_bytes, fault_bytes, fault_section, tray_bytes}

-- no room for xs at a place of n bytes
abbrev pub no_room : ℕ → List ℕ → ℕ → Bool
no_room at xs n = nat_lt n (at + length xs)

-- where xs, written at a place, ends; none where it isn't written
abbrev pub end_of : Bool → ℕ → List ℕ → Option ℕ
end_of unfit at xs = cond unfit None (Some (at + length xs))

-- a message that isn't written: over 200 bytes, or no room
abbrev pub message_unfit : Message → ℕ → ℕ → Bool
message_unfit m at n = nat_lt 200 (length m.bytes) || no_room at (message_bytes m) n

-- what writing a message at a place of n bytes answers: where it ends
unfoldable pub message_end : Message → ℕ → ℕ → Option ℕ
message_end m at n = end_of (message_unfit m at n) at (message_bytes m)

-- what it leaves in the tray
unfoldable pub message_put : Message → ℕ → List ℕ → List ℕ
message_put m at t = cond (message_unfit m at (length t)) t (laid t at (message_bytes m))

-- what writing one fault answers: where it ends
abbrev pub fault_end : Fault → ℕ → ℕ → Option ℕ
fault_end f at n = laying at (fault_bytes f) n

-- what it leaves in the tray
abbrev pub fault_put : Fault → ℕ → List ℕ → List ℕ
fault_put f at t = laid_or_not at (fault_bytes f) t

-- what writing the section of faults answers: where it ends
abbrev pub section_end : List Fault → ℕ → ℕ → Option ℕ
section_end fs at n = laying at (fault_section fs) n

-- what it leaves in the tray
abbrev pub section_put : List Fault → ℕ → List ℕ → List ℕ
section_put fs at t = laid_or_not at (fault_section fs) t

-- a tray that isn't finished: the section would stand on the first count, or there is no room
abbrev pub finish_unfit : List Fault → ℕ → ℕ → Bool
finish_unfit fs at n = at == 0 || no_room at (fault_section fs) n

-- what finishing a tray answers: the bytes used
unfoldable pub finish_end : List Fault → ℕ → ℕ → Option ℕ
finish_end fs at n = end_of (finish_unfit fs at n) at (fault_section fs)

-- what it leaves: the count of messages at the front, the section of faults at its place
unfoldable pub finish_put : ℕ → List Fault → ℕ → List ℕ → List ℕ
finish_put count fs at t =
    cond (finish_unfit fs at (length t)) t (laid (laid t 0 (count ∷ [])) at (fault_section fs))

-- a list of faults with one more behind it, where there are fewer than nine
abbrev pub fault_more : List Fault → Fault → List Fault
fault_more fs f = cond (nat_lt (length fs) 9) (fs ++ f ∷ []) fs

-- what stands in a tray while messages are handed over: these, from place 1 on, over what was there
abbrev pub holding : List ℕ → List Message → List ℕ
holding old ms = laid old 1 (flat_map message_bytes ms)

-- the place behind them
abbrev pub behind : List Message → ℕ
behind ms = 1 + length (flat_map message_bytes ms)

-- a message written behind others stands behind them
abbrev pub Adds : List ℕ → ℕ → Message → List ℕ → Type 0
Adds before at m after =
    (old : List ℕ) (ms : List Message) → before ≡ holding old ms → at ≡ behind ms → length m.bytes ≤ 200 → behind (ms ++ m ∷ []) ≤ length old → after ≡ holding old (ms ++ m ∷ [])

-- a finished tray: its bytes, and behind them what was there
pub record Whole (old : List ℕ) (ms : List Message) (fs : List Fault) (end : Option ℕ) (after : List ℕ) : Type 0 where
  pub used : end ≡ Some (length (tray_bytes ms fs))
  pub tray : after ≡ tray_bytes ms fs ++ drop (length (tray_bytes ms fs)) old

-- messages that stand in a tray and are counted are finished with these faults to a tray
abbrev pub Finishes : List ℕ → ℕ → ℕ → List Fault → Option ℕ → List ℕ → Type 0
Finishes before count at fs end after =
    (old : List ℕ) (ms : List Message) → before ≡ holding old ms → count ≡ length ms → at ≡ behind ms → length (tray_bytes ms fs) ≤ length old → Whole old ms fs end after
