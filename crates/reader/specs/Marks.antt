-- Marked lines, and the whole promise of a reader.
use Rattle.std.specs.Prelude.{◌≡◌, ℕ, Bool, true, List, [], ◌∷◌, ◌++◌, length, take, Some}
use Rattle.std.specs.List.{slice_get}
use Rattle.line.specs.Lines.{good_count}
use Rattle.sending.specs.Sendings.{Block}
use Rattle.frame.specs.Frames.{Sealed}
use Rattle.runs.specs.Sightings.{taken}
use Rattle.runs.specs.Pasts.{Call, offer, Figures, Outcome, answers, Past, Setting, events}
use Rattle.runs.specs.Reaching.{State, Reached}
use Rattle.runs.specs.Promises.{Promised}

-- which lines carry which payloads
abbrev pub Carrying : Type 1
Carrying = List ℕ → List ℕ → Type 0

-- a taken offer whose line carries a sealed frame's payload answers that payload's length, sights exactly that frame's blocks,
-- in order, and reports no block fault
abbrev pub EachMarkedLineIsReadAsItsFrame : Setting → Carrying → Past → Type 0
EachMarkedLineIsReadAsItsFrame s carries past =
    (e t : ℕ) (line tray : List ℕ) (a : Figures) (bytes : List ℕ)
    → slice_get past e ≡ Some (record { call = offer t line tray; outcome = answers a bytes })
    → (payload : List ℕ) (bs : List Block) → Sealed payload bs → carries line payload
    → (a.length_found ≡ length payload)
    × (slice_get (events s past) e ≡ Some (taken t bs))
    × (s.block_faults (take a.used bytes) ≡ 0)

-- each line that the system draws from a sealed frame carries it, and so does each line within the system's tolerance
abbrev pub EachDrawnOrToleratedLineCarriesItsFrame : (ℕ → Bool) → (List ℕ → ℕ → List ℕ) → Carrying → Carrying → Type 0
EachDrawnOrToleratedLineCarriesItsFrame draws drawn tolerates carries =
    (payload : List ℕ) (bs : List Block) → Sealed payload bs
    → ((count : ℕ) → draws (length payload) ≡ true → good_count count ≡ true → carries (drawn payload count) payload)
    × ((line : List ℕ) → tolerates line payload → carries line payload)

module _ (s : Setting) (draws : ℕ → Bool) (drawn : List ℕ → ℕ → List ℕ) (tolerates carries : Carrying) where
  -- the whole promise of a past: each message is one sending sighted whole, each whole sending is handed over, each marked line
  -- is read as its frame
  abbrev pub WholePromise : Past → Type 0
  WholePromise past =
      Promised s past
      × EachMarkedLineIsReadAsItsFrame s carries past
      × EachDrawnOrToleratedLineCarriesItsFrame draws drawn tolerates carries

  -- what a call promises: it prolongs every past of the reader, and of the longer past all is promised
  abbrev pub Keeps : State → Call → Outcome → State → Type 0
  Keeps before call outcome later =
      (past : Past) → Reached s past before
      → Reached s (past ++ record { call = call; outcome = outcome } ∷ []) later
      × WholePromise (past ++ record { call = call; outcome = outcome } ∷ [])
