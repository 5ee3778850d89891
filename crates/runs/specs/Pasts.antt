-- A reader's past: the calls made on it since it was new, what each came to, and what is seen of that from outside.
use Rattle.std.specs.Prelude.{ℕ, List, [], ◌∷◌, map, length, take, Some, None, Option}
use Rattle.refusal.specs.declared.Refusal.{Refusal}
use Rattle.sending.specs.Sendings.{Block, Message}
use Rattle.runs.specs.Sightings.{Event, restarted, refused, taken}

-- an offer brings a frame number, a line's samples and a tray's bytes
pub data Call : Type 0 where
  offer : ℕ → List ℕ → List ℕ → Call
  restart : Call

-- the answer to a taken offer: the payload's length, the tray's bytes used, the blocks skipped
pub record Figures : Type 0 where
  pub length_found : ℕ
  pub used : ℕ
  pub skipped : ℕ

-- an offer was refused; it was taken, with its answer and the tray's bytes afterwards; or the reader was
-- restarted
pub data Outcome : Type 0 where
  refuses : Refusal → Outcome
  answers : Figures → List ℕ → Outcome
  restarts : Outcome

pub record Entry : Type 0 where
  pub call : Call
  pub outcome : Outcome

abbrev pub Past : Type 0
Past = List Entry

-- what is fixed for a reader: its line system's answer for each line, the numbers it watches, and how payloads and trays are read
pub record Setting : Type 0 where
  pub found : List ℕ → Option (List ℕ)
  pub watch : List ℕ
  -- the refusal due, if any: for the frame number below which no offer is taken, and an offer's frame number, line and tray
  pub due : ℕ → ℕ → List ℕ → List ℕ → Option Refusal
  -- of a payload: its blocks that are read, and how many others are faults
  pub blocks : List ℕ → List Block
  pub spoilt : List ℕ → ℕ
  -- of a tray's used bytes: its messages, and how many faults of blocks and of messages
  pub messages : List ℕ → List Message
  pub block_faults : List ℕ → ℕ
  pub message_faults : List ℕ → ℕ

module _ (s : Setting) where
  abbrev pub blocks_in : Option (List ℕ) → List Block
  blocks_in None = []
  blocks_in (Some payload) = s.blocks payload

  abbrev pub spoilt_in : Option (List ℕ) → ℕ
  spoilt_in None = 0
  spoilt_in (Some payload) = s.spoilt payload

  abbrev pub length_in : Option (List ℕ) → ℕ
  length_in None = 0
  length_in (Some payload) = length payload

  abbrev pub event_of : Call → Outcome → Event
  event_of restart o = restarted
  event_of (offer t line tray) (refuses r) = refused
  event_of (offer t line tray) (answers a bytes) = taken t (blocks_in (s.found line))
  event_of (offer t line tray) restarts = refused

  abbrev pub messages_in : Outcome → List Message
  messages_in (refuses r) = []
  messages_in (answers a bytes) = s.messages (take a.used bytes)
  messages_in restarts = []

  abbrev pub faults_in : Outcome → ℕ
  faults_in (refuses r) = 0
  faults_in (answers a bytes) = s.message_faults (take a.used bytes)
  faults_in restarts = 0

  -- call by call: what was sighted, the messages handed over, the number of message faults
  abbrev pub events : Past → List Event
  events = map (λ (x : Entry). event_of x.call x.outcome)

  abbrev pub trays : Past → List (List Message)
  trays = map (λ (x : Entry). messages_in x.outcome)

  abbrev pub fault_counts : Past → List ℕ
  fault_counts = map (λ (x : Entry). faults_in x.outcome)

-- the frame number below which no offer is taken: that of the last taken since a restart
abbrev pub floor_next : ℕ → Call → Outcome → ℕ
floor_next floor restart o = 0
floor_next floor (offer t line tray) (refuses r) = floor
floor_next floor (offer t line tray) (answers a bytes) = t
floor_next floor (offer t line tray) restarts = floor

abbrev pub floor_after : ℕ → Past → ℕ
floor_after floor [] = floor
floor_after floor (x ∷ past) = floor_after (floor_next floor x.call x.outcome) past
