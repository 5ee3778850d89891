-- What an offer comes to, by the refusal that is due or the line that is taken.
use Rattle.std.proofs.Common.{◌≡◌, ℕ, ◌≤◌, Bool, List, length, take, drop, IfSome, Some, None, Ok, Err, Option, Result, sym, refl, ap, ◌∙◌, subst, arith}
use Rattle.std.proofs.lemmas.List.{take_at}
use Rattle.refusal.specs.declared.Refusal.{Refusal}
use Rattle.refusal.specs.declared.Refusal.TheVariants.{Tray}
use Rattle.line.specs.declared.depth.Depth.{Depth}
use Rattle.line.specs.Lines.{size_of, read_answer, put}
use Rattle.buffers.specs.Places.{unless}
use Rattle.tray.specs.Reading.{tray_fault}
use Rattle.tray.proofs.Backs.{back, reads_back as reads_back_as}
use Rattle.runs.specs.Pasts.{offer, Outcome, answers, Figures}
use Rattle.runs.specs.Reaching.{State}
use Rattle.reader.specs.Settings.{offer_due, setting_of}
use Rattle.reader.specs.Offers.{used_part, figures, tray_after, offer_answer, offer_tray, offer_state, line_progress, state_after}
use Rattle.reader.specs.Answers.{due_told, figures_of, told, outcome_of, seen, Taken}
use Rattle.reader.specs.Calls.{offered_line, offered_answer, offered_tray, offered_state, WritesTray}
use Rattle.reader.specs.Marks.{Carrying, EachDrawnOrToleratedLineCarriesItsFrame, Keeps}
use Rattle.reader.specs.declared.reader.Answer.{Answer}
use Rattle.reader.proofs.Coming.{ReadsBack, takes}
use Rattle.reader.proofs.Keeping.{keeps}

-- what is written as a tray is read back
reads_back : ReadsBack
reads_back ms fs stands = let b = back ms fs stands in (b.messages, b.faults)

-- the refusal of a reading into 60 bytes is that of its line
pub read_refused : (fault : Option Refusal) (found : Option (List ℕ)) (e : Refusal) → Err e ≡ read_answer fault found 60 → fault ≡ Some e
read_refused (Some f) found e is = cc
read_refused None found e is = let z : ◌≡◌ {A = ℕ} 0 1 = cc in absurd (omega arith)

-- a reading into 60 bytes that is not refused is of a good line
pub read_passed : (fault : Option Refusal) (found : Option (List ℕ)) (n : Option ℕ) → Ok n ≡ read_answer fault found 60 → (fault ≡ None) × (n ≡ size_of found)
read_passed (Some f) found n is = let z : ◌≡◌ {A = ℕ} 0 1 = cc in absurd (omega arith)
read_passed None found n is = (refl, cc)

-- the tests behind the line's
pub call_refused : (due : Option Refusal) (e : Refusal) → Err e ≡ due_told due → due ≡ Some e
call_refused (Some f) e is = cc
call_refused None e is = let z : ◌≡◌ {A = ℕ} 0 1 = cc in absurd (omega arith)

pub call_passed : (due : Option Refusal) (x : Unit {0}) → Ok x ≡ due_told due → due ≡ None
call_passed (Some f) x is = let z : ◌≡◌ {A = ℕ} 0 1 = cc in absurd (omega arith)
call_passed None x is = refl

-- what is found is what stands at the front of the payload buffer
pub seen_found : (found : Option (List ℕ)) (old : List ℕ) → seen (size_of found) (put found old) ≡ found
seen_found None old = refl
seen_found (Some p) old = ap Some (take_at p (drop (length p) old) (length p) refl)

-- what is found is at most 60 bytes long
pub size_within : (found : Option (List ℕ)) → ((p : List ℕ) → found ≡ Some p → length p ≤ 60) → IfSome (size_of found) (λ n. n ≤ 60)
size_within None most = tt
size_within (Some p) most = most p refl

module _ (d : Depth) (found : List ℕ → Option (List ℕ)) (watch : List ℕ) (draws : ℕ → Bool) (drawn : List ℕ → ℕ → List ℕ) (tolerates carries : Carrying)
    (reading : (line p : List ℕ) → carries line p → found line ≡ Some p)
    (drawing : EachDrawnOrToleratedLineCarriesItsFrame draws drawn tolerates carries)
    (before : State) (t : ℕ) (line old : List ℕ) where
  -- what an offer promises of its result, its tray and the state afterwards
  pub record Came (r : Result Answer Refusal) (tray : List ℕ) (later : State) : Type 0 where
    pub answer : told r ≡ offered_answer (setting_of d found watch) before t line old
    pub tray_is : tray ≡ offered_tray (setting_of d found watch) before t line old
    pub writes : WritesTray r tray (offered_line (setting_of d found watch) before t line old)
    pub next : later ≡ offered_state (setting_of d found watch) before t line old
    pub keeps_it : Keeps (setting_of d found watch) draws drawn tolerates carries before (offer t line old) (outcome_of r tray) later

  -- a refusal is due, and is the result
  pub refuses_it : (r : Result Answer Refusal) (e : Refusal) → r ≡ Err e → offer_due d before.floor t line old ≡ Some e → Came r old before
  refuses_it r e is due =
      let s = setting_of d found watch in
      subst (λ (x : Result Answer Refusal). Came x old before) (sym is) (record {
        answer = sym (ap (λ (o : Option Refusal). offer_answer o (figures (found line) (line_progress watch t (found line) before))) due);
        tray_is = sym (ap (λ (o : Option Refusal). offer_tray o (tray_after (line_progress watch t (found line) before) old) old) due);
        writes = tt;
        next = sym (ap (λ (o : Option Refusal). offer_state o (state_after watch t (found line) before) before) due);
        keeps_it = keeps d found watch draws drawn tolerates carries reading drawing before (offer t line old) (outcome_of (Err e) old) before (due, refl);
      })

  -- none is due, and the line is taken
  pub takes_it : (a : Answer) (tray : List ℕ) (later : State) → offer_due d before.floor t line old ≡ None →
      Taken (found line) old tray a later.gathered (line_progress watch t (found line) before) → later.floor ≡ t → Came (Ok a) tray later
  takes_it a tray later due taken floor =
      let s = setting_of d found watch in
      let p = line_progress watch t (found line) before in
      let after : later ≡ state_after watch t (found line) before = λ i. record { gathered = taken.table_is i; floor = floor i } in
      let used_is : take a.used tray ≡ used_part p = (let n = ap (λ (f : Figures). f.used) taken.answer in ap (take a.used) taken.tray_is ∙ take_at (used_part p) (drop (length (used_part p)) old) a.used (sym n)) in
      let outcome : answers (figures (found line) p) (tray_after p old) ≡ answers (figures_of a) tray = (let x = taken.answer in let y = taken.tray_is in cc) in
      let kept = keeps d found watch draws drawn tolerates carries reading drawing before (offer t line old) (answers (figures (found line) p) (tray_after p old)) (state_after watch t (found line) before)
      (takes reads_back d found watch before t line old due taken.is_tray) in
      let at_outcome = subst (λ (o : Outcome). Keeps s draws drawn tolerates carries before (offer t line old) o (state_after watch t (found line) before)) outcome kept in
      record {
        answer = ap Ok taken.answer ∙ sym (ap (λ (o : Option Refusal). offer_answer o (figures (found line) p)) due);
        tray_is = taken.tray_is ∙ sym (ap (λ (o : Option Refusal). offer_tray o (tray_after p old) old) due);
        writes = record { holds = taken.is_tray; read_back = reads_back_as (take a.used tray) (unless Tray (tray_fault (take a.used tray)) (take a.used tray)) refl p.messages p.faults taken.is_tray used_is };
        next = after ∙ sym (ap (λ (o : Option Refusal). offer_state o (state_after watch t (found line) before) before) due);
        keeps_it = subst (λ (z : State). Keeps s draws drawn tolerates carries before (offer t line old) (answers (figures_of a) tray) z) (sym after) at_outcome;
      }
