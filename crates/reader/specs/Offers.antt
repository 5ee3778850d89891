-- What an offer comes to: its answer, its tray and the state of the reader.
use Rattle.std.specs.Prelude.{ℕ, List, ◌++◌, length, drop, Some, None, Ok, Err, Option, Result}
use Rattle.refusal.specs.declared.Refusal.{Refusal}
use Rattle.tray.specs.Trays.{tray_bytes}
use Rattle.runs.specs.Pasts.{Figures}
use Rattle.runs.specs.Reaching.{State}
use Rattle.reader.specs.Following.{Progress, followed}

-- the length of what was found, 0 where no run-in was found
abbrev pub found_length : Option (List ℕ) → ℕ
found_length None = 0
found_length (Some payload) = length payload

-- the used part of the tray
abbrev pub used_part : Progress → List ℕ
used_part p = tray_bytes p.messages p.faults

-- the answer to a taken offer
abbrev pub figures : Option (List ℕ) → Progress → Figures
figures found p = record { length_found = found_length found; used = length (used_part p); skipped = p.skipped }

-- the tray after a taken offer: bytes past the used part stay
abbrev pub tray_after : Progress → List ℕ → List ℕ
tray_after p old = used_part p ++ drop (length (used_part p)) old

-- the answer to an offer, by the refusal that is due
abbrev pub offer_answer : Option Refusal → Figures → Result Figures Refusal
offer_answer (Some e) a = Err e
offer_answer None a = Ok a

-- the tray after an offer
abbrev pub offer_tray : Option Refusal → List ℕ → List ℕ → List ℕ
offer_tray (Some e) new old = old
offer_tray None new old = new

-- the state after an offer
abbrev pub offer_state : Option Refusal → State → State → State
offer_state (Some e) new old = old
offer_state None new old = new

-- what a reader watching these numbers comes to by a line in which this was found, at frame t
abbrev pub line_progress : List ℕ → ℕ → Option (List ℕ) → State → Progress
line_progress watch t found before = followed watch t found before.gathered

abbrev pub state_after : List ℕ → ℕ → Option (List ℕ) → State → State
state_after watch t found before = record { gathered = (line_progress watch t found before).table; floor = t }
