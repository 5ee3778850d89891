-- Values compared with those of the run-in, one after the other.
use Rattle.std.specs.Prelude.{◌≡◌, ℕ, zero, suc, ◌+◌, ◌<◌, true, false, ◌&&◌, List, [], ◌∷◌, length, drop, ◌==◌, ◌≢◌, slice_index, refl}
use Rattle.std.proofs.Common.{ap, ◌∙◌, arith}
use Rattle.std.proofs.lemmas.List.{at_drop_more}
use Rattle.std.proofs.lemmas.Bool.{eq-eqb, ne_eqb, and_left, and_parts, eqb-true}
use Rattle.twox.specs.TwoX.{runs_as}

-- a step of the loop: the value is the one wanted, or not
pub run_passes : (f : ℕ → ℕ) (vs : List ℕ) (k : ℕ) → k < length vs → f k ≡ slice_index vs k → runs_as f k (drop k vs) ≡ runs_as f (k + 1) (drop (k + 1) vs)
run_passes f vs k h e = at_drop_more (runs_as f k) vs k 0 h ∙ ap (λ b. b && runs_as f (k + 1) (drop (k + 1) vs)) (eq-eqb _ _ e)

pub run_misses : (f : ℕ → ℕ) (vs : List ℕ) (k : ℕ) → k < length vs → (f k ≢ slice_index vs k) → runs_as f k (drop k vs) ≡ false
run_misses f vs k h ne = at_drop_more (runs_as f k) vs k 0 h ∙ and_left _ _ (ne_eqb _ _ ne)

-- equal values run alike
pub runs_same : (f g : ℕ → ℕ) (vs : List ℕ) (k : ℕ) → ((j : ℕ) → j < k + length vs → f j ≡ g j) → runs_as f k vs ≡ runs_as g k vs
runs_same f g [] k same = refl
runs_same f g (v ∷ vs) k same =
    let here = same k (omega arith) in
    let rest = runs_same f g vs (k + 1) (λ j h. same j (omega arith)) in
    cc

-- the value at each place of a run
pub runs_at : (f : ℕ → ℕ) (vs : List ℕ) (k : ℕ) → runs_as f k vs ≡ true → (i j : ℕ) → i < length vs → k + i ≡ j → f j ≡ slice_index vs i
runs_at f [] k run i j h e = omega arith
runs_at f (v ∷ vs) k run zero j h e =
    let here = eqb-true (f k) v (and_parts (f k == v) (runs_as f (k + 1) vs) run).0 in
    let same : j ≡ k = omega arith in
    ap f same ∙ here
runs_at f (v ∷ vs) k run (suc i) j h e = runs_at f vs (k + 1) (and_parts (f k == v) (runs_as f (k + 1) vs) run).1 i j (omega arith) (omega arith)
