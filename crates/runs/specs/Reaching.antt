-- Which pasts bring a new reader to a state: each call comes to what the rules say.
use Rattle.std.specs.Prelude.{◌≡◌, ℕ, ◌≤◌, List, [], ◌∷◌, take, Some, None}
use Rattle.sending.specs.Sendings.{Block}
use Rattle.gather.specs.Gathering.{Slot, nothing, Answer}
use Rattle.gather.specs.Arriving.{after_line, line_answers, messages_of, faults_of, skipped_of}
use Rattle.runs.specs.Pasts.{Call, offer, restart, Figures, Outcome, refuses, answers, restarts, Past, Setting, blocks_in, spoilt_in, length_in}

-- what a reader has gathered for each number, and the frame number below which it takes no offer
pub record State : Type 0 where
  pub gathered : ℕ → Slot
  pub floor : ℕ

abbrev pub new : State
new = record { gathered = λ n. nothing; floor = 0 }

module _ (s : Setting) where
  abbrev pub line_of : List ℕ → List Block
  line_of line = blocks_in s (s.found line)

  -- what the blocks of a line are answered in a state
  abbrev pub told : State → ℕ → List ℕ → List Answer
  told before t line = line_answers s.watch t (line_of line) before.gathered

  -- a taken offer: figures and tray say what was found and answered, and the state goes on
  pub record Takes (before : State) (t : ℕ) (line tray : List ℕ) (a : Figures) (bytes : List ℕ) (later : State) : Type 0 where
    pub not_due : s.due before.floor t line tray ≡ None
    pub not_below : before.floor ≤ t
    pub goes_on : later ≡ record { gathered = after_line s.watch t (line_of line) before.gathered; floor = t }
    pub length_is : a.length_found ≡ length_in s (s.found line)
    pub skipped_is : a.skipped ≡ skipped_of s.watch (line_of line)
    pub messages_are : s.messages (take a.used bytes) ≡ messages_of (told before t line)
    pub block_faults_are : s.block_faults (take a.used bytes) ≡ spoilt_in s (s.found line)
    pub message_faults_are : s.message_faults (take a.used bytes) ≡ faults_of (told before t line)

  -- what a call may come to, and the state it leaves
  abbrev pub Comes : State → Call → Outcome → State → Type 0
  Comes before restart (refuses r) later = ⊥
  Comes before restart (answers a bytes) later = ⊥
  Comes before restart restarts later = later ≡ new
  Comes before (offer t line tray) (refuses r) later = (s.due before.floor t line tray ≡ Some r) × (later ≡ before)
  Comes before (offer t line tray) (answers a bytes) later = Takes before t line tray a bytes later
  Comes before (offer t line tray) restarts later = ⊥

  -- these calls, one after the other, lead from one state to another
  abbrev pub Leads : State → Past → State → Type 0
  Leads start [] end = end ≡ start
  Leads start (x ∷ past) end = (between : State) × Comes start x.call x.outcome between × Leads between past end

  -- this past brings a new reader to this state
  abbrev pub Reached : Past → State → Type 0
  Reached past state = Leads new past state
