-- What a list of calls on one reader comes to, and the past that it makes.
use Rattle.std.specs.Prelude.{◌≡◌, ℕ, List, [], ◌∷◌, ◌++◌, codes, Some, None, Ok, Err, vec_items, Option, Result}
use Rattle.refusal.specs.declared.Refusal.{Refusal}
use Rattle.refusal.specs.declared.Refusal.TheVariants.{WatchList}
use Rattle.refusal.specs.Refusals.{refusal_text}
use Rattle.runs.specs.Pasts as past
use Rattle.runs.specs.Pasts.{offer, restart, Figures, refuses, answers, restarts, Past, Setting}
use Rattle.runs.specs.Reaching.{State, new}
use Rattle.reader.specs.Answers.{told}
use Rattle.reader.specs.Calls.{offered_answer, offered_tray, offered_state}
use Rattle.replay.specs.declared.call.Call.{Call}
use Rattle.replay.specs.declared.call.Call.TheVariants.{Offer, Restart}
use Rattle.replay.specs.declared.call.Outcome.{Outcome}
use Rattle.replay.specs.declared.call.Outcome.TheVariants.{Offered, Restarted}
use Rattle.replay.specs.declared.call.ReplayError.{ReplayError}
use Rattle.replay.specs.declared.call.ReplayError.TheVariants.{Watch, Memory}

-- a call as a past has it
abbrev pub call_of : Call → past.Call
call_of (Offer frame line tray) = offer frame line.now tray.now
call_of Restart = restart

-- what a call came to, in plain values: an offer's answer and every byte of its tray, or that the reader was restarted
pub data Told : Type 0 where
  offered : Result Figures Refusal → List ℕ → Told
  restarted : Told

abbrev pub plain : Outcome → Told
plain (Offered result tray) = offered (told result) (vec_items tray)
plain Restarted = restarted

-- the same as a past has it
abbrev pub outcome_of : Told → past.Outcome
outcome_of (offered (Ok a) tray) = answers a tray
outcome_of (offered (Err e) tray) = refuses e
outcome_of restarted = restarts

-- calls with what each came to, as far as both lists go
abbrev pub past_of : List Call → List Told → Past
past_of [] os = []
past_of (c ∷ cs) [] = []
past_of (c ∷ cs) (o ∷ os) = record { call = call_of c; outcome = outcome_of o } ∷ past_of cs os

-- what a call comes to in a state
abbrev pub comes_to : Setting → State → past.Call → Told
comes_to s before (offer t line old) = offered (offered_answer s before t line old) (offered_tray s before t line old)
comes_to s before restart = restarted

-- the state after it
abbrev pub goes_to : Setting → State → past.Call → State
goes_to s before (offer t line old) = offered_state s before t line old
goes_to s before restart = new

-- what each of some calls comes to, one after the other
abbrev pub run : Setting → State → List Call → List Told
run s before [] = []
run s before (c ∷ cs) = comes_to s before (call_of c) ∷ run s (goes_to s before (call_of c)) cs

-- an offer is answered, a restart is one
abbrev pub Kind : Call → Outcome → Type 0
Kind (Offer frame line tray) (Offered result after) = Unit {0}
Kind (Offer frame line tray) Restarted = ⊥
Kind Restart (Offered result after) = ⊥
Kind Restart Restarted = Unit {0}

-- as many outcomes as calls, each of its call's kind
abbrev pub Alike : List Call → List Outcome → Type 0
Alike [] [] = Unit {0}
Alike [] (o ∷ os) = ⊥
Alike (c ∷ cs) [] = ⊥
Alike (c ∷ cs) (o ∷ os) = Kind c o × Alike cs os

-- a list of numbers that can't be watched is refused at its fault, and no other is: else only memory may lack
abbrev pub Refuses : {V : Type 0} → Option ℕ → Result V ReplayError → Type 0
Refuses (Some place) (Ok v) = ⊥
Refuses (Some place) (Err (Watch e)) = e ≡ WatchList place
Refuses (Some place) (Err Memory) = ⊥
Refuses None (Ok v) = Unit {0}
Refuses None (Err (Watch e)) = ⊥
Refuses None (Err Memory) = Unit {0}

-- why a list of calls was not replayed, as it is printed
abbrev pub replay_text : ReplayError → List ℕ
replay_text (Watch e) = codes "watch list refused: " ++ refusal_text e
replay_text Memory = codes "no memory for the outcomes"
