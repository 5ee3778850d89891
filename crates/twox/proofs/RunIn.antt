-- Values that are compared with those of the run-in, each with its place.
use Rattle.std.proofs.Common.{◌≡◌, ◌≢◌, ℕ, suc, ◌+◌, ◌<◌, Bool, true, false, List, [], ◌∷◌, length, get_or, refl, sym, ap, ◌∙◌, subst, inl, inr, arith}
use Rattle.std.specs.Bool.{MatchBool}
use Rattle.std.specs.List.{AllWithin, HoldsAt, enumerate_from}
use Rattle.std.proofs.lemmas.Bool.{and_from, eq-eqb, cases_Bool}
use Rattle.std.proofs.lemmas.List.FromFn.{get_or-enumerate_from, length-enumerate_from}
use Rattle.twox.specs.TwoX.{runs_as}
use Rattle.twox.specs.Runs.{runs_at}

runs_from : (f : ℕ → ℕ) (vs : List ℕ) (k : ℕ) → ((i : ℕ) → i < length vs → f (k + i) ≡ get_or vs i 0) → runs_as f k vs ≡ true
runs_from f [] k each = refl
runs_from f (v ∷ vs) k each =
    and_from _ _ (eq-eqb (f k) v (let same : k ≡ k + 0 = omega arith in ap f same ∙ each 0 (omega arith)))
    (runs_from f vs (k + 1) (λ i h. let same : k + 1 + i ≡ k + suc i = omega arith in ap f same ∙ each (suc i) (omega arith)))

pub runs_decided : (f : ℕ → ℕ) (vs : List ℕ) (r : Bool) →
    MatchBool r (AllWithin (λ p. f p.0 ≡ p.1) (enumerate_from 0 vs) 0 (length (enumerate_from 0 vs)))
    ((k : ℕ) × (k < length (enumerate_from 0 vs)) × HoldsAt (λ p. f p.0 ≢ p.1) (enumerate_from 0 vs) k) → r ≡ runs_as f 0 vs
runs_decided f vs true all =
    sym (runs_from f vs 0 (λ i h. subst (λ (p : ℕ × ℕ). f p.0 ≡ p.1) (get_or-enumerate_from 0 vs i (0, 0) h) (all i (0, 0) (omega arith) (omega (arith, length-enumerate_from 0 vs)))))
runs_decided f vs false some =
    let k = some.0 in
    let within : k < length vs = omega (arith, some.1, length-enumerate_from 0 vs) in
    elim (cases_Bool (runs_as f 0 vs)) [
      | inl run ↦ absurd (some.2 (0, 0) (subst (λ (p : ℕ × ℕ). f p.0 ≡ p.1) (sym (get_or-enumerate_from 0 vs k (0, 0) within)) (runs_at f vs 0 run k (0 + k) within refl)))
      | inr miss ↦ sym miss
    ]
