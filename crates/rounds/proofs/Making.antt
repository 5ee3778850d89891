-- A new reader that watches the numbers 1, 2 and 3.
use Rattle.std.proofs.Common.{◌≡◌, ℕ, List, [], ◌∷◌, Ok, Err, Result, sym, ap, subst, arith}
use Rattle.refusal.specs.declared.Refusal.{Refusal}
use Rattle.gather.specs.Model.{watching}
use Rattle.gather.specs.Watching.{watch_fault}
use Rattle.runs.specs.Reaching.{State, new}
use Rattle.reader.specs.Calls.{state, made_of, making}
use Rattle.reader.specs.declared.reader.Reader.{Reader}

-- it is never refused, and what holds of its system holds of the system given
pub made : {L : Type 0} (A B : L → Type 0) (system : L) → A system → B system → (r : Result (Reader L) Refusal) → made_of r ≡ making system (1 ∷ 2 ∷ 3 ∷ []) (watch_fault (1 ∷ 2 ∷ 3 ∷ [])) →
    elim r as (λ _. Type 0) [ Ok reader ↦ A reader.system × B reader.system × (watching reader.memory.table ≡ 1 ∷ 2 ∷ 3 ∷ []) × (state reader ≡ new) | Err e ↦ ⊥ ]
unfolding watch_fault
made A B system a b (Err e) m = let z : ◌≡◌ {A = ℕ} 0 1 = cc in let none : ⊥ = omega arith in none
made {L} A B system a b (Ok reader) m =
    let whole : ◌≡◌ {A = Result (L × List ℕ × State) Refusal} (Ok (reader.system, watching reader.memory.table, state reader)) (Ok (system, 1 ∷ 2 ∷ 3 ∷ [], new)) = m in
    let parts : ◌≡◌ {A = L × List ℕ × State} (reader.system, watching reader.memory.table, state reader) (system, 1 ∷ 2 ∷ 3 ∷ [], new) = cc in
    let same : reader.system ≡ system = ap (λ (t : L × List ℕ × State). t.0) parts in (
      subst A (sym same) a,
      subst B (sym same) b,
      ap (λ (t : L × List ℕ × State). t.1) parts,
      ap (λ (t : L × List ℕ × State). t.2) parts,
    )
