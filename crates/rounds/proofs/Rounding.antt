-- A round more.
use Rattle.std.proofs.Common.{◌≡◌, ℕ, suc, ◌+◌, List, Result, ap, ◌∙◌, arith}
use Rattle.refusal.specs.declared.Refusal.{Refusal}
use Rattle.runs.specs.Pasts.{Setting, Figures}
use Rattle.runs.specs.Reaching.{State}
use Rattle.reader.specs.Calls.{offered_answer, offered_tray, offered_state}
use Rattle.rounds.specs.Rounds.{Round, after}

-- state, tray and last answer are those after so many rounds
pub record Stands (s : Setting) (first : State) (line old : List ℕ) (n : ℕ) (here : State) (tray : List ℕ) (last : Result Figures Refusal) : Type 0 where
  pub state_is : here ≡ (after s first line old n).state
  pub tray_is : tray ≡ (after s first line old n).tray
  pub last_is : last ≡ (after s first line old n).last

-- an offer by a reader that has this setting makes a round more
pub stands_on : (s : Setting) (first : State) (line old : List ℕ) (n : ℕ) (here : State) (tray : List ℕ) (last : Result Figures Refusal) (at : Setting) → at ≡ s →
    (next : State) (filled : List ℕ) (answer : Result Figures Refusal) → next ≡ offered_state at here n line tray → filled ≡ offered_tray at here n line tray → answer ≡ offered_answer at here n line tray →
    Stands s first line old n here tray last → Stands s first line old (n + 1) next filled answer
stands_on s first line old n here tray last at e next filled answer goes fills tells h =
    let more : (n : ℕ) → suc n ≡ n + 1 = λ n. omega arith in
    let whole = ap (after s first line old) (more n) in
    record {
      state_is = goes ∙ (λ i. offered_state (e i) (h.state_is i) n line (h.tray_is i)) ∙ ap (λ (r : Round). r.state) whole;
      tray_is = fills ∙ (λ i. offered_tray (e i) (h.state_is i) n line (h.tray_is i)) ∙ ap (λ (r : Round). r.tray) whole;
      last_is = tells ∙ (λ i. offered_answer (e i) (h.state_is i) n line (h.tray_is i)) ∙ ap (λ (r : Round). r.last) whole;
    }
