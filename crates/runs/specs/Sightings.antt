-- The calls made on a reader: what was sighted in them, and what is promised of the messages handed over.
use Rattle.std.specs.Prelude.{◌≡◌, ℕ, ◌+◌, ◌≤◌, List, [], Some, slice_index, slice_index_or}
use Rattle.std.specs.List.{slice_get}
use Rattle.sending.specs.Sendings.{Block, Message, Sending, IsSending, last_part, message, block, IsBlockOf}

-- what one call came to: the reader was restarted, an offer was refused, or a line with these blocks was taken at a frame
pub data Event : Type 0 where
  restarted : Event
  refused : Event
  taken : ℕ → List Block → Event

-- a place in the calls: the event, and the block in its line
pub record Place : Type 0 where
  pub event : ℕ
  pub index : ℕ

-- block b is sighted at place p, at frame t
abbrev pub Sighted : List Event → Place → ℕ → Block → Type 0
Sighted events p t b =
    (blocks : List Block) × (slice_get events p.event ≡ Some (taken t blocks)) × (slice_get blocks p.index ≡ Some b)

abbrev pub Restarted : List Event → ℕ → Type 0
Restarted events x = slice_get events x ≡ Some restarted

abbrev pub Taken : List Event → ℕ → ℕ → Type 0
Taken events x t = (blocks : List Block) × (slice_get events x ≡ Some (taken t blocks))

-- x is one of i to j
abbrev pub Within : ℕ → ℕ → ℕ → Type 0
Within i j x = (i ≤ x) × (x ≤ j)

-- events i to j have no restart, and any two taken lie at most 255 frames apart
abbrev pub Stretch : List Event → ℕ → ℕ → Type 0
Stretch events i j =
    ((z : ℕ) → Within i j z → Restarted events z → ⊥)
    × ((x y t u : ℕ) → Within i j x → Within i j y → Taken events x t → Taken events y u → u ≤ t + 255)

-- given names for each sighting a sending whose block it is, one for each number and version within a stretch
abbrev pub Gives : List Event → (Place → Sending) → Type 0
Gives events given =
    ((p : Place) (t : ℕ) (b : Block) → Sighted events p t b → IsBlockOf (given p) b)
    × ((i j : ℕ) → Stretch events i j → (p q : Place) (t u : ℕ) (b c : Block) → Sighted events p t b → Sighted events q u c
    → Within i j p.event → Within i j q.event → b.number ≡ c.number → b.version ≡ c.version → given p ≡ given q)

-- m is message i of those handed over in event e
abbrev pub Handed : List (List Message) → ℕ → ℕ → Message → Type 0
Handed trays e i m = slice_get (slice_index_or trays e []) i ≡ Some m

-- Message m, handed over in event e, is that of the sending s. The sighting source k of each of its blocks k serves it, and s is
-- given to all of these. They lie in one stretch that ends with e, and one of them lies in e.
pub record ServedBy (events : List Event) (given : Place → Sending) (e : ℕ) (m : Message) (s : Sending)
    (source : ℕ → Place) : Type 0 where
  pub is_sending : IsSending s
  pub message_is : m ≡ message s
  pub sighted : (k : ℕ) → k ≤ last_part s → (t : ℕ) × Sighted events (source k) t (block s k)
  pub given_is : (k : ℕ) → k ≤ last_part s → given (source k) ≡ s
  pub stretch : (first : ℕ) × Stretch events first e × ((k : ℕ) → k ≤ last_part s → Within first e (source k).event)
  pub ends_here : (k : ℕ) × (k ≤ last_part s) × ((source k).event ≡ e)

-- no sighting serves two messages, or one message twice
abbrev pub Once : List (List Message) → (ℕ → ℕ → Sending) → (ℕ → ℕ → ℕ → Place) → Type 0
Once trays sent source =
    (e i f j : ℕ) (m n : Message) → Handed trays e i m → Handed trays f j n
    → (k l : ℕ) → k ≤ last_part (sent e i) → l ≤ last_part (sent f j)
    → source e i k ≡ source f j l → (e ≡ f) × (i ≡ j) × (k ≡ l)

-- sent e i is the sending of message i of event e, and source e i k the sighting of its block k
abbrev pub EachMessageIsOneSendingSightedWhole : List Event → List (List Message) → (Place → Sending) → Type 0
EachMessageIsOneSendingSightedWhole events trays given =
    (sent : ℕ → ℕ → Sending) × (source : ℕ → ℕ → ℕ → Place)
    × ((e i : ℕ) (m : Message) → Handed trays e i m → ServedBy events given e m (sent e i) (source e i))
    × Once trays sent source

-- a sending whose number is watched is handed over in every stretch that sights all its blocks, and no block of its number with
-- another version or last number
abbrev pub EachWholeSendingIsHandedOver : List ℕ → List Event → List (List Message) → Type 0
EachWholeSendingIsHandedOver watch events trays =
    (s : Sending) → IsSending s → ((w : ℕ) × (slice_get watch w ≡ Some s.number))
    → (i j : ℕ) → Stretch events i j
    → ((k : ℕ) → k ≤ last_part s → (p : Place) × (t : ℕ) × Within i j p.event × Sighted events p t (block s k))
    → ((p : Place) (t : ℕ) (b : Block) → Within i j p.event → Sighted events p t b → b.number ≡ s.number
    → (b.version ≡ s.version) × (b.last ≡ last_part s))
    → (e : ℕ) × (x : ℕ) × Within i j e × Handed trays e x (message s)

-- faults counts the message faults of each event
abbrev pub NoMessageFaultIsReported : List ℕ → Type 0
NoMessageFaultIsReported faults = (e : ℕ) → slice_index faults e ≡ 0
