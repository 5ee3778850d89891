-- The words of a tray and the bytes that hold them: messages, then faults, each section after its count.
use Rattle.std.specs.Prelude.{◌≡◌, ℕ, ◌+◌, ◌≤◌, ◌⊎◌, List, [], ◌∷◌, ◌++◌, length}
use Rattle.std.specs.List.{flat_map, AllByRecursion}
use Rattle.sending.specs.Sendings.{Message}

-- what was wrong with a block: at which layer (1 block, 2 message), why, its number byte and its place in the payload
pub record Fault : Type 0 where
  pub layer : ℕ
  pub cause : ℕ
  pub number : ℕ
  pub place : ℕ

-- a message in a tray: number, version, length, bytes
abbrev pub message_bytes : Message → List ℕ
message_bytes m = m.number ∷ m.version ∷ length m.bytes ∷ m.bytes

-- a fault in a tray: layer, cause, number byte, place
abbrev pub fault_bytes : Fault → List ℕ
fault_bytes f = f.layer ∷ f.cause ∷ f.number ∷ f.place ∷ []

-- the section of faults: their count, then each
abbrev pub fault_section : List Fault → List ℕ
fault_section fs = length fs ∷ flat_map fault_bytes fs

-- the used part of a tray: the count of messages, each message, the section of faults
abbrev pub tray_bytes : List Message → List Fault → List ℕ
tray_bytes ms fs = length ms ∷ (flat_map message_bytes ms ++ fault_section fs)

-- a message that a tray may hold
pub record IsMessage (m : Message) : Type 0 where
  pub number_stands : 1 ≤ m.number
  pub version_stands : m.version ≤ 15
  pub length_stands : length m.bytes ≤ 200

-- a fault that a tray may hold: a block has four causes, a message one
pub record IsFault (f : Fault) : Type 0 where
  pub cause_stands : 1 ≤ f.cause
  pub layer_stands : ((f.layer ≡ 1) × (f.cause ≤ 4)) ⊎ ((f.layer ≡ 2) × (f.cause ≤ 1))
  pub number_stands : 1 ≤ f.number
  pub place_stands : (2 ≤ f.place) × (f.place ≤ 59)

-- what a tray may hold: at most eight messages, at most nine entries, each in its range
pub record IsTray (ms : List Message) (fs : List Fault) : Type 0 where
  pub eight_messages : length ms ≤ 8
  pub nine_entries : length ms + length fs ≤ 9
  pub messages_stand : AllByRecursion IsMessage ms
  pub faults_stand : AllByRecursion IsFault fs
