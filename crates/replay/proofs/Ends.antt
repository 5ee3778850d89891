-- A whole replay: the reader that it begins with, and the kinds of its outcomes.
use Rattle.std.proofs.Common.{◌≡◌, ℕ, List, [], ◌∷◌, map, Some, None, Ok, Option, refl, ap, arith}
use Rattle.gather.specs.Model.{watching}
use Rattle.runs.specs.Pasts.{Setting}
use Rattle.runs.specs.Reaching.{State, new}
use Rattle.reader.specs.Calls.{state, made_of, making}
use Rattle.reader.specs.declared.reader.Reader.{Reader}
use Rattle.replay.specs.declared.call.Call.{Call}
use Rattle.replay.specs.declared.call.Call.TheVariants.{Offer, Restart}
use Rattle.replay.specs.declared.call.Outcome.{Outcome}
use Rattle.replay.specs.declared.call.Outcome.TheVariants.{Offered, Restarted}
use Rattle.replay.specs.Replaying.{plain, call_of, goes_to, run, Alike}

-- a new reader is of its system, watches its list and has gathered nothing
pub record Made {L : Type 0} (system : L) (watch : List ℕ) (fault : Option ℕ) (reader : Reader L) : Type 0 where
  pub no_fault : fault ≡ None
  pub system_is : reader.system ≡ system
  pub watch_is : watching reader.memory.table ≡ watch
  pub state_is : state reader ≡ new

pub made : {L : Type 0} (system : L) (watch : List ℕ) (fault : Option ℕ) (reader : Reader L) → made_of (Ok reader) ≡ making system watch fault → Made system watch fault reader
made system watch (Some place) reader e = let z : ◌≡◌ {A = ℕ} 0 1 = cc in absurd (omega arith)
made {L} system watch None reader e =
    let parts : ◌≡◌ {A = L × List ℕ × State} (reader.system, watching reader.memory.table, state reader) (system, watch, new) = cc in
    record {
      no_fault = refl;
      system_is = ap (λ (t : L × List ℕ × State). t.0) parts;
      watch_is = ap (λ (t : L × List ℕ × State). t.1) parts;
      state_is = ap (λ (t : L × List ℕ × State). t.2) parts;
    }

-- what follows from the calls is of their kinds
pub alike : (s : Setting) (before : State) (cs : List Call) (os : List Outcome) → map plain os ≡ run s before cs → Alike cs os
alike s before [] [] e = tt
alike s before [] (o ∷ os) e = let z : ◌≡◌ {A = ℕ} 0 1 = cc in absurd (omega arith)
alike s before (c ∷ cs) [] e = let z : ◌≡◌ {A = ℕ} 0 1 = cc in absurd (omega arith)
alike s before (Offer t line tray ∷ cs) (Offered r after ∷ os) e = (tt, alike s (goes_to s before (call_of (Offer t line tray))) cs os (cc))
alike s before (Offer t line tray ∷ cs) (Restarted ∷ os) e = let z : ◌≡◌ {A = ℕ} 0 1 = cc in absurd (omega arith)
alike s before (Restart ∷ cs) (Offered r after ∷ os) e = let z : ◌≡◌ {A = ℕ} 0 1 = cc in absurd (omega arith)
alike s before (Restart ∷ cs) (Restarted ∷ os) e = (tt, alike s new cs os (cc))
