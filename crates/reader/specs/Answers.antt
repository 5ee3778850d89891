-- What the calls on a reader answer, in the words of a run.
use Rattle.std.specs.Prelude.{◌≡◌, ℕ, cond, List, take, Some, None, Ok, Err, Option, Result, nat_lt}
use Rattle.refusal.specs.declared.Refusal.{Refusal}
use Rattle.refusal.specs.declared.Refusal.TheVariants.{FrameNumber, OutputLength}
use Rattle.gather.specs.Arriving as value
use Rattle.gather.specs.declared.table.Table.{Table}
use Rattle.gather.specs.Model.{gathered}
use Rattle.tray.specs.Trays.{IsTray}
use Rattle.runs.specs.Pasts.{Figures, Outcome, refuses, answers}
use Rattle.runs.specs.Reaching.{State}
use Rattle.reader.specs.Following.{Progress}
use Rattle.reader.specs.Offers.{figures, tray_after}
use Rattle.reader.specs.declared.reader.Answer.{Answer}

-- the refusal due to the offer of a good line, if any: by its frame number, then by the room in its tray
abbrev pub call_due : ℕ → ℕ → ℕ → Option Refusal
call_due floor t room = cond (nat_lt t floor) (Some FrameNumber) (cond (nat_lt room 1630) (Some (OutputLength room)) None)

-- a refusal that is due, or none
abbrev pub due_told : Option Refusal → Result Unit Refusal
due_told (Some e) = Err e
due_told None = Ok tt

-- the figures of an answer
abbrev pub figures_of : Answer → Figures
figures_of a = record { length_found = a.length; used = a.used; skipped = a.skipped }

-- an answer with its figures
abbrev pub told : Result Answer Refusal → Result Figures Refusal
told (Ok a) = Ok (figures_of a)
told (Err e) = Err e

-- what an offer came to, with its tray afterwards
abbrev pub outcome_of : Result Answer Refusal → List ℕ → Outcome
outcome_of (Ok a) tray = answers (figures_of a) tray
outcome_of (Err e) tray = refuses e

-- what was found, by its length and the payload buffer
abbrev pub seen : Option ℕ → List ℕ → Option (List ℕ)
seen None payload = None
seen (Some n) payload = Some (take n payload)

-- the state of a reader
abbrev pub state_of : Table → ℕ → State
state_of table floor = record { gathered = gathered table; floor = floor }

-- a line was taken: the answer, the tray and the table are those of p
pub record Taken (found : Option (List ℕ)) (old tray : List ℕ) (a : Answer) (table : value.Table) (p : Progress) : Type 0 where
  pub answer : figures_of a ≡ figures found p
  pub tray_is : tray ≡ tray_after p old
  pub table_is : table ≡ p.table
  pub is_tray : IsTray p.messages p.faults
