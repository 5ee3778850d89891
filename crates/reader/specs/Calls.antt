-- What the calls on a reader come to, for a reader in a state.
use Rattle.std.specs.Prelude.{ℕ, List, take, Some, None, Ok, Err, Option, Result}
use Rattle.refusal.specs.declared.Refusal.{Refusal}
use Rattle.refusal.specs.declared.Refusal.TheVariants.{WatchList, Tray}
use Rattle.buffers.specs.Places.{unless}
use Rattle.sending.specs.Sendings.{Message}
use Rattle.gather.specs.Model.{watching, gathered}
use Rattle.gather.specs.Watching.{Watchable}
use Rattle.tray.specs.Trays.{Fault, IsTray}
use Rattle.tray.specs.Reading.{tray_fault}
use Rattle.tray.specs.Laws.{ReadAs}
use Rattle.system.specs.declared.system.LineSystem.{Ghosts}
use Rattle.runs.specs.Pasts.{Setting, Figures, Call, Outcome}
use Rattle.runs.specs.Reaching.{State, new}
use Rattle.reader.specs.Following.{Progress}
use Rattle.reader.specs.Marks.{Keeps}
use Rattle.reader.specs.Settings.{setting_of}
use Rattle.reader.specs.Offers.{figures, tray_after, offer_answer, offer_tray, offer_state, line_progress, state_after}
use Rattle.reader.specs.declared.reader.Answer.{Answer}
use Rattle.reader.specs.declared.reader.Reader.{Reader}

-- what is fixed for a reader, by what its system means: its depth and what it finds in each line
abbrev pub setting : {L : Type 0} → Ghosts L → Reader L → Setting
setting s r = setting_of (s.depth r.system) (s.found r.system) (watching r.memory.table)

-- what a reader has gathered, and the frame number below which it takes no offer
abbrev pub state : {L : Type 0} → Reader L → State
state r = record { gathered = gathered r.memory.table; floor = r.memory.floor }

-- what a call on a reader promises, over a system that means this
abbrev pub KeepsThePromise : {L : Type 0} → Ghosts L → Reader L → Call → Outcome → State → Type 0
KeepsThePromise s r = Keeps (setting s r) (s.draws r.system) (s.drawn r.system) (s.tolerates r.system) (s.carries r.system) (state r)

module _ (s : Setting) (before : State) (t : ℕ) (line old : List ℕ) where
  -- the refusal due to an offer of a line at frame t with this tray, if any
  abbrev pub refusal_due : Option Refusal
  refusal_due = s.due before.floor t line old

  -- what its line comes to, where it is taken
  abbrev pub offered_line : Progress
  offered_line = line_progress s.watch t (s.found line) before

  -- what is answered to it
  abbrev pub offered_answer : Result Figures Refusal
  offered_answer = offer_answer refusal_due (figures (s.found line) offered_line)

  -- every byte of the tray after it
  abbrev pub offered_tray : List ℕ
  offered_tray = offer_tray refusal_due (tray_after offered_line old) old

  -- the state after it
  abbrev pub offered_state : State
  offered_state = offer_state refusal_due (state_after s.watch t (s.found line) before) before

-- a taken offer has written a tray: what it may hold, and that its used part is accepted and read as exactly this
pub record Written (used : List ℕ) (ms : List Message) (fs : List Fault) : Type 0 where
  pub holds : IsTray ms fs
  pub read_back : ReadAs used ms fs (unless Tray (tray_fault used) used)

abbrev pub WritesTray : Result Answer Refusal → List ℕ → Progress → Type 0
WritesTray (Ok a) tray p = Written (take a.used tray) p.messages p.faults
WritesTray (Err e) tray p = Unit {0}

-- a new reader, by its system, its watch list and its state
abbrev pub made_of : {L : Type 0} → Result (Reader L) Refusal → Result (L × List ℕ × State) Refusal
made_of (Ok r) = Ok (r.system, watching r.memory.table, state r)
made_of (Err e) = Err e

-- what is answered where a reader is wanted: a refusal at the watch list's fault, else a reader that has gathered nothing
abbrev pub making : {L : Type 0} → L → List ℕ → Option ℕ → Result (L × List ℕ × State) Refusal
making system watch (Some place) = Err (WatchList place)
making system watch None = Ok (system, watch, new)

-- a list for which there is a reader can be watched
abbrev pub Watches : {L : Type 0} → List ℕ → Result (Reader L) Refusal → Type 0
Watches watch (Ok r) = Watchable watch
Watches watch (Err e) = Unit {0}
