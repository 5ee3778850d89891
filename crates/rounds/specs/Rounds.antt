-- One line offered to a reader over and over.
use Rattle.std.specs.Prelude.{ℕ, zero, suc, List, [], ◌∷◌, Ok, Err, Result}
use Rattle.refusal.specs.declared.Refusal.{Refusal}
use Rattle.line.specs.declared.depth.Depth.{Depth}
use Rattle.system.specs.Either.{found_else}
use Rattle.onex.specs.OneX.{one_found}
use Rattle.twox.specs.TwoX.{two_found}
use Rattle.runs.specs.Pasts.{Setting, Figures}
use Rattle.runs.specs.Reaching.{State, new}
use Rattle.reader.specs.Calls.{offered_answer, offered_tray, offered_state}
use Rattle.reader.specs.Settings.{setting_of}

-- after some offers: the reader's state, every byte of the tray, and what the last offer was answered
pub record Round : Type 0 where
  pub state : State
  pub tray : List ℕ
  pub last : Result Figures Refusal

-- an offer of a line at a frame number, after those before
abbrev pub once_more : Setting → List ℕ → ℕ → Round → Round
once_more s line t r =
    record {
      state = offered_state s r.state t line r.tray;
      tray = offered_tray s r.state t line r.tray;
      last = offered_answer s r.state t line r.tray;
    }

-- after so many offers of a line, at the frames 0, 1, 2 and so on: with none, nothing has changed and all figures are 0
abbrev pub after : Setting → State → List ℕ → List ℕ → ℕ → Round
after s first line old zero = record { state = first; tray = old; last = Ok (record { length_found = 0; used = 0; skipped = 0 }) }
after s first line old (suc n) = once_more s line n (after s first line old n)

-- a reader of 1X, else 2X, that watches the numbers 1, 2 and 3
abbrev pub measured : Depth → Setting
measured d = setting_of d (λ line. found_else (one_found d line) (two_found d line)) (1 ∷ 2 ∷ 3 ∷ [])

-- after so many offers to a new one of the stated depth, if that exists
abbrev pub rounds_at : Result Depth Refusal → List ℕ → List ℕ → ℕ → Round
rounds_at (Ok d) line old n = after (measured d) new line old n
rounds_at (Err e) line old n = record { state = new; tray = old; last = Err e }
