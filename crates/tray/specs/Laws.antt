-- What is true of every tray that is read.
use Rattle.std.specs.Prelude.{◌≡◌, ℕ, ◌≤◌, List, length, Ok, Result, OnOk}
use Rattle.refusal.specs.declared.Refusal.{Refusal}
use Rattle.sending.specs.Sendings.{Message}
use Rattle.tray.specs.Trays.{Fault, IsTray, tray_bytes}
use Rattle.tray.specs.Reading.{tray_items, messages_in, faults_in, entries_in}

-- a tray t is read as these messages and faults, with their places, and takes at most 1630 bytes
pub record ReadAs (t : List ℕ) (ms : List Message) (fs : List Fault) (answer : Result (List ℕ) Refusal) : Type 0 where
  pub accepted : answer ≡ Ok t
  pub entries : entries_in t ≡ tray_items ms fs
  pub messages : messages_in t ≡ ms
  pub faults : faults_in t ≡ fs
  pub short : length t ≤ 1630

-- what is written as a tray is read back as exactly what was written
abbrev pub ReadsBack : List ℕ → Result (List ℕ) Refusal → Type 0
ReadsBack t answer = (ms : List Message) (fs : List Fault) → IsTray ms fs → t ≡ tray_bytes ms fs → ReadAs t ms fs answer

-- the bytes t are the tray of one list of messages and one list of faults
pub record OneReading (t : List ℕ) : Type 0 where
  pub stands : IsTray (messages_in t) (faults_in t)
  pub bytes : t ≡ tray_bytes (messages_in t) (faults_in t)
  pub one : (ms : List Message) (fs : List Fault) → IsTray ms fs → t ≡ tray_bytes ms fs → (ms ≡ messages_in t) × (fs ≡ faults_in t)

-- an accepted tray has one reading
abbrev pub HasOneReading : List ℕ → Result (List ℕ) Refusal → Type 0
HasOneReading t answer = OnOk answer (OneReading t)
