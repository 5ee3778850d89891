-- The first wrong character of an identifier.
use Rattle.std.specs.Prelude.{◌≡◌, ℕ, zero, suc, ◌+◌, ◌<◌, Bool, true, false, List, [], ◌∷◌, length, Some, None, slice_index}
use Rattle.std.proofs.Common.{sym, ◌∙◌, ⊎_elim, arith}
use Rattle.std.proofs.lemmas.Bool.{cases_Bool, cond-true, cond-false}
use Rattle.body.specs.Identifiers.{wrong_from}

module _ (ok : ℕ → Bool) where
  pub good_all : (i : ℕ) (cs : List ℕ) → wrong_from ok i cs ≡ None → (j : ℕ) → j < length cs → ok (slice_index cs j) ≡ true
  good_all i [] e j h = absurd (omega arith)
  good_all i (c ∷ cs) e zero h =
      ⊎_elim (λ (g : ok c ≡ true). g)
      (λ (g : ok c ≡ false). let k : wrong_from ok i (c ∷ cs) ≡ Some i = cond-false _ _ _ g in let z : ◌≡◌ {A = ℕ} 0 1 = cc in absurd (omega arith))
      (cases_Bool (ok c))
  good_all i (c ∷ cs) e (suc j) h =
      ⊎_elim (λ (g : ok c ≡ true). good_all (i + 1) cs (sym (cond-true _ _ _ g) ∙ e) j (omega arith))
      (λ (g : ok c ≡ false). let k : wrong_from ok i (c ∷ cs) ≡ Some i = cond-false _ _ _ g in let z : ◌≡◌ {A = ℕ} 0 1 = cc in absurd (omega arith))
      (cases_Bool (ok c))

  abbrev pub FirstBad : ℕ → List ℕ → ℕ → ℕ → Type 0
  FirstBad i cs p k = (p ≡ i + k) × ((k < length cs) × ((ok (slice_index cs k) ≡ false) × ((j : ℕ) → j < k → ok (slice_index cs j) ≡ true)))

  before : (c : ℕ) (cs : List ℕ) (k : ℕ) → ok c ≡ true → ((j : ℕ) → j < k → ok (slice_index cs j) ≡ true) → (j : ℕ) → j < suc k → ok (slice_index (c ∷ cs) j) ≡ true
  before c cs k g f zero h = g
  before c cs k g f (suc j) h = f j (omega arith)

  pub bad_first : (i : ℕ) (cs : List ℕ) (p : ℕ) → wrong_from ok i cs ≡ Some p → (k : ℕ) × FirstBad i cs p k
  bad_first i [] p e = let z : ◌≡◌ {A = ℕ} 0 1 = cc in absurd (omega arith)
  bad_first i (c ∷ cs) p e =
      ⊎_elim
      (λ (g : ok c ≡ true).
      let r : (k : ℕ) × FirstBad (i + 1) cs p k = bad_first (i + 1) cs p (sym (cond-true _ _ _ g) ∙ e) in
      let f : (j : ℕ) → j < suc r.0 → ok (slice_index (c ∷ cs) j) ≡ true = before c cs r.0 g r.1.1.1.1 in
      (suc r.0, (omega arith, (omega arith, (r.1.1.1.0, f)))))
      (λ (g : ok c ≡ false).
      let k : wrong_from ok i (c ∷ cs) ≡ Some i = cond-false _ _ _ g in
      let q : i ≡ p = cc in
      (0, (omega arith, (omega arith, (g, λ j h. absurd (omega arith))))))
      (cases_Bool (ok c))
