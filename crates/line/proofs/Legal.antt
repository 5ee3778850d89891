-- Which lines have no fault.
use Rattle.std.proofs.Common.{◌≡◌, ℕ, zero, suc, ◌+◌, ◌*◌, ◌<◌, ◌≤◌, max, Bool, true, false, cond, ltb, List, [], ◌∷◌, length, get_or, Some, None, fold, sym, refl, ap, ◌∙◌, inl, inr, arith}
use Rattle.std.specs.List.{prefix_len}
use Rattle.std.proofs.lemmas.Bool.{lt-ltb, le-ltb, cond-true, cond-false, cases_Bool}
use Rattle.refusal.specs.declared.Refusal.TheVariants.{SampleCount}
use Rattle.line.specs.declared.depth.Depth.{Depth}
use Rattle.line.specs.Depths.{unit_of}
use Rattle.line.specs.Lines.{good_count, fitting, line_fault}

leading_full : (t : ℕ → Bool) (xs : List ℕ) → ((i : ℕ) → i < length xs → t (get_or xs i 0) ≡ true) → prefix_len t xs ≡ length xs
leading_full t [] all = refl
leading_full t (x ∷ xs) all =
    ap (λ b. cond b (1 + prefix_len t xs) 0) (all 0 (omega arith)) ∙ ap (λ n. 1 + n) (leading_full t xs (λ i h. all (suc i) (omega arith))) ∙ omega arith

-- a good count of samples that are all small enough
pub line_legal : (d : Depth) (line : List ℕ) → good_count (length line) ≡ true → ((i : ℕ) → i < length line → get_or line i 0 < 256 * unit_of d) → line_fault d line ≡ None
line_legal d line ok low =
    let full : fitting d line ≡ length line = leading_full (λ x. ltb x (256 * unit_of d)) line (λ i h. lt-ltb _ _ (low i h)) in
    let within : ltb (fitting d line) (length line) ≡ false = le-ltb _ _ (omega arith) in
    cond-true _ _ _ ok ∙ cond-false _ _ _ within

-- no sample is larger than the largest
most_start : (xs : List ℕ) (a : ℕ) → a ≤ fold (λ m x. max m x) a xs
most_start [] a = omega arith
most_start (x ∷ xs) a = let h = most_start xs (max a x) in omega arith

pub most_each : (xs : List ℕ) (a i : ℕ) → i < length xs → get_or xs i 0 ≤ fold (λ m x. max m x) a xs
most_each [] a i h = omega arith
most_each (x ∷ xs) a zero h = let k = most_start xs (max a x) in omega arith
most_each (x ∷ xs) a (suc i) h = most_each xs (max a x) i (omega arith)

-- a line with no fault has a good count
pub legal_count : (d : Depth) (line : List ℕ) → line_fault d line ≡ None → good_count (length line) ≡ true
legal_count d line none =
    elim (cases_Bool (good_count (length line))) [
      | inl e ↦ e
      | inr e ↦ (let bad : Some (SampleCount (length line)) ≡ None = sym (cond-false _ _ _ e) ∙ none in cc)
    ]
