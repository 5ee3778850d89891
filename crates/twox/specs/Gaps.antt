-- Levels with equal gaps, the cuts between them, and what a symbol is read as by the cuts.
use Rattle.std.specs.Prelude.{◌≡◌, ℕ, zero, suc, ◌+◌, ◌*◌, ◌<◌, ◌≤◌, Bool, true, ◌&&◌, List, [], ◌∷◌, length, ◌==◌, slice_index, slice_index_or, refl}
use Rattle.std.proofs.Common.{ap, ◌∙◌, suc-mul, zero-mul, mul-add, mul_left_comm, le_refl, arith}
use Rattle.std.proofs.lemmas.Bool.{and_parts, eqb-true}
use Rattle.std.proofs.lemmas.Nat.{mul-le}
use Rattle.line.specs.Symbols.{value_of}
use Rattle.line.proofs.Levels.{Close, value_is}
use Rattle.twox.specs.TwoX.{cuts_after, cuts_of}

-- neighbouring levels lie a gap g apart
abbrev pub even_after : ℕ → ℕ → List ℕ → Bool
even_after g a [] = true
even_after g a (b ∷ ls) = b == a + g && even_after g b ls

abbrev pub even : ℕ → List ℕ → Bool
even g [] = true
even g (a ∷ ls) = even_after g a ls

even_after_level : (g a : ℕ) (ls : List ℕ) → even_after g a ls ≡ true → (v : ℕ) → v < length (a ∷ ls) → slice_index (a ∷ ls) v ≡ a + v * g
even_after_level g a ls t zero h = omega (arith, zero-mul g)
even_after_level g a [] t (suc v) h = omega arith
even_after_level g a (b ∷ ls) t (suc v) h =
    let two = and_parts (b == a + g) (even_after g b ls) t in
    let gap : b ≡ a + g = eqb-true b (a + g) two.0 in
    let rest : slice_index_or (b ∷ ls) v 0 ≡ b + v * g = even_after_level g b ls two.1 v (omega arith) in
    omega (arith, suc-mul v g)

pub even_level : (g : ℕ) (ls : List ℕ) → even g ls ≡ true → (v : ℕ) → v < length ls → slice_index ls v ≡ slice_index ls 0 + v * g
even_level g [] t v h = omega arith
even_level g (a ∷ ls) t v h = even_after_level g a ls t v h

getD_cuts_after : (w a : ℕ) (ls : List ℕ) (v : ℕ) → v < length ls → slice_index (cuts_after w a ls) v ≡ w * (slice_index (a ∷ ls) v + slice_index (a ∷ ls) (suc v))
getD_cuts_after w a [] v h = omega arith
getD_cuts_after w a (b ∷ ls) zero h = refl
getD_cuts_after w a (b ∷ ls) (suc v) h = getD_cuts_after w b ls v (omega arith)

length_cuts_after : (w a : ℕ) (ls : List ℕ) → length (cuts_after w a ls) ≡ length ls
length_cuts_after w a [] = refl
length_cuts_after w a (b ∷ ls) = ap suc (length_cuts_after w b ls)

pub length_cuts : (w : ℕ) (ls : List ℕ) → 0 < length ls → length (cuts_of w ls) + 1 ≡ length ls
length_cuts w [] h = omega arith
length_cuts w (a ∷ ls) h = omega (arith, length_cuts_after w a ls)

-- with equal gaps g, a level that deviates by less than half a gap from level u is read as u
even_value : (w g a D S u : ℕ) (ls : List ℕ) → even_after g a ls ≡ true → 2 * D < w * g → u ≤ length ls →
    Close w D (slice_index (a ∷ ls) u) S → value_of (cuts_after w a ls) (2 * S) ≡ u
even_value w g a D S u ls even less top close =
    let count = length_cuts_after w a ls in
    let level : (v : ℕ) → v ≤ length ls → w * slice_index (a ∷ ls) v ≡ w * a + v * (w * g) =
    (λ v h. ap (λ l. w * l) (even_after_level g a ls even v (omega arith)) ∙ mul-add w a (v * g) ∙ ap (λ m. w * a + m) (mul_left_comm w v g)) in
    let cut : (v : ℕ) → v < length ls → slice_index (cuts_after w a ls) v ≡ (w * a + v * (w * g)) + (w * a + suc v * (w * g)) =
    (λ v h. getD_cuts_after w a ls v h ∙ mul-add w _ _ ∙ omega (arith, level v (omega arith), level (suc v) (omega arith))) in
    value_is (cuts_after w a ls) (2 * S) u (omega arith)
    (λ v h l. let up = mul-le (suc v) (w * g) u (w * g) (omega arith) (le_refl _) in omega (arith, cut v (omega arith), level u top, suc-mul v (w * g)))
    (λ v h l. let up = mul-le u (w * g) v (w * g) l (le_refl _) in omega (arith, cut v (omega arith), level u top, suc-mul v (w * g)))

pub even_read : (w g D S u : ℕ) (ls : List ℕ) → even g ls ≡ true → 2 * D < w * g → u < length ls → Close w D (slice_index ls u) S → value_of (cuts_of w ls) (2 * S) ≡ u
even_read w g D S u [] t less top close = omega arith
even_read w g D S u (a ∷ ls) t less top close = even_value w g a D S u ls t less (omega arith) close
