-- A line's samples, taken in pieces of one length.
use Rattle.std.proofs.Common.{◌≡◌, ℕ, ◌+◌, ◌-◌, ◌*◌, ◌/◌, ◌<◌, ◌≤◌, List, ◌++◌, length, take, drop, sum, refl, sym, ap, ◌∙◌, inl, inr, le_refl, add-mul, mul_assoc, arith, length-append, length-drop, drop-drop}
use Rattle.std.proofs.lemmas.List.{drop-take, take-take}
use Rattle.line.specs.Symbols.{gathered, value_of, weight, level_at}
use Rattle.line.proofs.Digits.{gathered_same}
use Rattle.line.proofs.Sizes.{by_bits, symbol_some}
use Rattle.std.proofs.Math.Seq.{take-append_seam, drop-append_seam}
use Rattle.std.proofs.lemmas.Nat.{mul-le}
use Rattle.std.proofs.lemmas.Bool.{cases_lt}

next_place : (m w : ℕ) → m * w + w ≡ (m + 1) * w
next_place m w = omega (arith, add-mul m 1 w)

-- piece m of w samples, and what is left after it
pub piece_is : (xs rest x more : List ℕ) (m w : ℕ) → rest ≡ drop (m * w) xs → rest ≡ x ++ more → length x ≡ w → x ≡ take w (drop (m * w) xs)
piece_is xs rest x more m w is split size = sym (take-append_seam x more) ∙ ap (λ n. take n (x ++ more)) size ∙ ap (take w) (sym split ∙ is)

pub piece_left : (xs rest x more : List ℕ) (m w : ℕ) → rest ≡ drop (m * w) xs → rest ≡ x ++ more → length x ≡ w → more ≡ drop ((m + 1) * w) xs
piece_left xs rest x more m w is split size =
    sym (drop-append_seam x more) ∙ ap (λ n. drop n (x ++ more)) size ∙ ap (drop w) (sym split ∙ is) ∙ drop-drop w (m * w) xs ∙ ap (λ n. drop n xs) (next_place m w)

-- of n pieces
pub piece_below : (xs rest x more : List ℕ) (m w n : ℕ) → rest ≡ drop (m * w) xs → rest ≡ x ++ more → length x ≡ w → 1 ≤ w → length xs ≡ n * w → m < n
piece_below xs rest x more m w n is split size some all =
    let left : length rest ≡ length xs - m * w = ap length is ∙ length-drop (m * w) xs in
    let two : length rest ≡ w + length more = ap length split ∙ length-append x more ∙ ap (λ k. k + length more) size in
    elim (cases_lt m n) [ inl lt ↦ lt | inr ge ↦ absurd (omega (arith, mul-le n w m w ge (le_refl w))) ]

pub pieces_all : (xs rest : List ℕ) (m w n : ℕ) → rest ≡ drop (m * w) xs → length rest < w → length xs ≡ n * w → m ≤ n → m ≡ n
pieces_all xs rest m w n is short all low =
    let left : length rest ≡ length xs - m * w = ap length is ∙ length-drop (m * w) xs in
    elim (cases_lt m n) [ inl lt ↦ absurd (omega (arith, mul-le (m + 1) w n w (omega arith) (le_refl w), next_place m w)) | inr ge ↦ omega arith ]

-- piece t of piece j, where each piece of n w samples has n pieces
pub piece_of_piece : (xs : List ℕ) (j t w n : ℕ) → t < n → take w (drop (t * w) (take (n * w) (drop (j * (n * w)) xs))) ≡ take w (drop ((j * n + t) * w) xs)
piece_of_piece xs j t w n h =
    let r : ℕ = n * w - t * w in
    let room : t * w + w ≤ n * w = omega (arith, mul-le (t + 1) w n w (omega arith) (le_refl w), next_place t w) in
    let whole : n * w ≡ t * w + r = omega arith in
    let place : j * (n * w) + t * w ≡ (j * n + t) * w = omega (arith, add-mul (j * n) t w, mul_assoc j n w) in
    ap (λ k. take w (drop (t * w) (take k (drop (j * (n * w)) xs)))) whole ∙ ap (take w) (drop-take (t * w) r (drop (j * (n * w)) xs)) ∙ take-take w r _ (omega arith)
    ∙ ap (take w) (drop-drop (t * w) (j * (n * w)) xs ∙ ap (λ k. drop k xs) place)

whole_line : (b : ℕ) → 1 ≤ b → b ≤ 2 → (w : ℕ) → 30 * b * (8 / b * w) ≡ 240 * w
whole_line = by_bits (λ b. (w : ℕ) → 30 * b * (8 / b * w) ≡ 240 * w) (λ w. omega arith) (λ w. omega arith)

-- the samples of byte j, of a line of 240 w
pub byte_inside : (b : ℕ) → 1 ≤ b → b ≤ 2 → (j w : ℕ) → j < 30 * b → (j + 1) * (8 / b * w) ≤ 240 * w
byte_inside b low high j w h = omega (arith, mul-le (j + 1) (8 / b * w) (30 * b) (8 / b * w) (omega arith) (le_refl (8 / b * w)), whole_line b low high w)

-- what the symbols of byte j write, by their samples and by the levels of the line
pub byte_read : (base : ℕ) (line part cuts : List ℕ) (j w n : ℕ) → w ≡ weight (length line) → part ≡ take (n * w) (drop (j * (n * w)) line) →
    gathered base (λ t. value_of cuts (2 * sum (take w (drop (t * w) part)))) n ≡ gathered base (λ t. value_of cuts (2 * level_at line (j * n + t))) n
byte_read base line part cuts j w n is piece =
    gathered_same base _ _ n (λ t h. ap (λ s. value_of cuts (2 * s)) (symbol_some line _ (j * n + t) w w is refl (ap (λ l. take w (drop (t * w) l)) piece ∙ piece_of_piece line j t w n h)))

pub byte_count : (b : ℕ) → 1 ≤ b → b ≤ 2 → 30 * b ≡ 240 / (8 / b)
byte_count = by_bits (λ b. 30 * b ≡ 240 / (8 / b)) refl refl
