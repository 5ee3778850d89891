-- The promises are not empty: a run that meets their premise, and in which a message of several parts is handed over.
use Rattle.std.specs.Prelude.{ℕ, ◌≤◌}
use Rattle.sending.specs.Sendings.{Sending, IsSending, last_part, message, block}
use Rattle.runs.specs.Sightings.{Place, Sighted, Within, Stretch, Gives, Handed}
use Rattle.runs.specs.Pasts.{Past, Setting, events, trays}
use Rattle.runs.specs.Reaching.{State, Reached}

-- a past that leads to a reader, a way to give its sightings their sendings, and a sending of at least three parts that is sighted
-- whole in a stretch and handed over there
pub record MeetsThePremise (s : Setting) (past : Past) (state : State) (given : Place → Sending) (sent : Sending) (i j : ℕ) : Type 0 where
  pub reached : Reached s past state
  pub gives : Gives (events s past) given
  pub is_sending : IsSending sent
  pub of_three_parts : 2 ≤ last_part sent
  pub stretch : Stretch (events s past) i j
  pub sighted_whole : (k : ℕ) → k ≤ last_part sent → (p : Place) × (t : ℕ) × Within i j p.event × Sighted (events s past) p t (block sent k)
  pub handed_over : (e : ℕ) × (x : ℕ) × Within i j e × Handed (trays s past) e x (message sent)

-- the premise can be met
abbrev pub SomeRunMeetsThePremise : Type 0
SomeRunMeetsThePremise =
    (s : Setting) × (past : Past) × (state : State) × (given : Place → Sending) × (sent : Sending) × (i : ℕ) × (j : ℕ) × MeetsThePremise s past state given sent i j
