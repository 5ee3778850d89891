-- One call after the other: what has been answered so far, and the past that it makes.
use Rattle.std.proofs.Common.{◌≡◌, ℕ, ◌+◌, ◌<◌, ◌≤◌, List, [], ◌∷◌, ◌++◌, map, length, get_or, take, drop, sym, refl, ap, ◌∙◌, subst, append_assoc, append-nil, arith}
use Rattle.std.proofs.lemmas.List.{drop_more, drop_all, take_more, take_all, map_push, length_push, length-map, length-take-le}
use Rattle.runs.specs.Pasts.{Past, Setting}
use Rattle.runs.specs.Reaching.{State, Reached}
use Rattle.replay.specs.declared.call.Call.{Call}
use Rattle.replay.specs.declared.call.Outcome.{Outcome}
use Rattle.replay.specs.Replaying.{Told, plain, call_of, outcome_of, past_of, comes_to, goes_to, run}

-- one call more makes the past one entry longer
past_push : (cs : List Call) (os : List Told) (c : Call) (o : Told) → length cs ≡ length os → past_of (cs ++ c ∷ []) (os ++ o ∷ []) ≡ past_of cs os ++ past_of (c ∷ []) (o ∷ [])
past_push [] [] c o e = refl
past_push [] (p ∷ os) c o e = absurd (omega arith)
past_push (d ∷ cs) [] c o e = absurd (omega arith)
past_push (d ∷ cs) (p ∷ os) c o e = let l : length cs ≡ length os = omega arith in ap (λ (x : Past). record { call = call_of d; outcome = outcome_of p } ∷ x) (past_push cs os c o l)

-- what was answered so far, and then a run of the calls that are left, is the whole run; and the past leads here
pub record Sofar (s : Setting) (first here : State) (calls : List Call) (done : List Outcome) (i : ℕ) : Type 0 where
  pub count : length done ≡ i
  pub rest : map plain done ++ run s here (drop i calls) ≡ run s first calls
  pub leads : (past : Past) → Reached s past first → Reached s (past ++ past_of (take i calls) (map plain done)) here

module _ (s : Setting) (first : State) (calls : List Call) where
  pub sofar_none : (done : List Outcome) → done ≡ [] → Sofar s first first calls done 0
  sofar_none done e =
      record {
        count = ap length e;
        rest = ap (λ (l : List Outcome). map plain l ++ run s first calls) e;
        leads = λ past r. subst (λ (p : Past). Reached s p first) (sym (append-nil past)) r;
      }

  pub sofar_more : (here next : State) (done more : List Outcome) (i : ℕ) (d : Call) (o : Outcome) → i < length calls → more ≡ done ++ o ∷ [] →
      plain o ≡ comes_to s here (call_of (get_or calls i d)) → next ≡ goes_to s here (call_of (get_or calls i d)) →
      ((past : Past) → Reached s past here → Reached s (past ++ past_of (get_or calls i d ∷ []) (plain o ∷ [])) next) →
      Sofar s first here calls done i → Sofar s first next calls more (i + 1)
  sofar_more here next done more i d o lt pushed is goes prolongs h =
      let c = get_or calls i d in
      let told : map plain more ≡ map plain done ++ plain o ∷ [] = ap (map plain) pushed ∙ map_push plain done o in
      let sizes : length (take i calls) ≡ length (map plain done) = (let a = length-take-le i calls (omega arith) in let b = length-map done plain in let k = h.count in omega arith) in
      let longer : past_of (take (i + 1) calls) (map plain more) ≡ past_of (take i calls) (map plain done) ++ past_of (c ∷ []) (plain o ∷ []) =
      (λ k. past_of (take_more calls i d lt k) (told k)) ∙ past_push (take i calls) (map plain done) c (plain o) sizes in
      record {
        count = (let a = ap length pushed in let b = length_push done o in let k = h.count in omega arith);
        rest =
            (λ k. (told ∙ ap (λ (e : Told). map plain done ++ e ∷ []) is) k ++ run s (goes k) (drop (i + 1) calls))
            ∙ append_assoc (map plain done) (comes_to s here (call_of c) ∷ []) (run s (goes_to s here (call_of c)) (drop (i + 1) calls))
            ∙ ap (λ (l : List Call). map plain done ++ run s here l) (sym (drop_more calls i d lt))
            ∙ h.rest;
        leads = λ past r.
            let on = prolongs (past ++ past_of (take i calls) (map plain done)) (h.leads past r) in
            subst (λ (p : Past). Reached s p next) (append_assoc past (past_of (take i calls) (map plain done)) (past_of (c ∷ []) (plain o ∷ [])) ∙ ap (λ (p : Past). past ++ p) (sym longer)) on;
      }

  pub record All (here : State) (done : List Outcome) : Type 0 where
    pub outcomes : map plain done ≡ run s first calls
    pub prolongs : (past : Past) → Reached s past first → Reached s (past ++ past_of calls (map plain done)) here

  pub sofar_all : (here : State) (done : List Outcome) (i : ℕ) → length calls ≤ i → Sofar s first here calls done i → All here done
  sofar_all here done i le h =
      record {
        outcomes = sym (append-nil (map plain done)) ∙ ap (λ (l : List Call). map plain done ++ run s here l) (sym (drop_all i calls le)) ∙ h.rest;
        prolongs = λ past r. subst (λ (cs : List Call). Reached s (past ++ past_of cs (map plain done)) here) (take_all i calls le) (h.leads past r);
      }

  -- the same, where the reader that made the call has this setting
  pub sofar_on : (at : Setting) → at ≡ s → (here next : State) (done more : List Outcome) (i : ℕ) (d : Call) (o : Outcome) → i < length calls → more ≡ done ++ o ∷ [] →
      plain o ≡ comes_to at here (call_of (get_or calls i d)) → next ≡ goes_to at here (call_of (get_or calls i d)) →
      ((past : Past) → Reached at past here → Reached at (past ++ past_of (get_or calls i d ∷ []) (plain o ∷ [])) next) →
      Sofar s first here calls done i → Sofar s first next calls more (i + 1)
  sofar_on at e here next done more i d o lt pushed is goes prolongs h =
      sofar_more here next done more i d o lt pushed (is ∙ ap (λ (z : Setting). comes_to z here (call_of (get_or calls i d))) e) (goes ∙ ap (λ (z : Setting). goes_to z here (call_of (get_or calls i d))) e)
      (subst (λ (z : Setting). (past : Past) → Reached z past here → Reached z (past ++ past_of (get_or calls i d ∷ []) (plain o ∷ [])) next) e prolongs) h
