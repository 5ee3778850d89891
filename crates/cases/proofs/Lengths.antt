-- The lengths of the parts that messages are cut to in 1X.
use Rattle.std.proofs.Common.{◌≡◌, ℕ, ◌+◌, ◌-◌, ◌≤◌, min, false, ltb, List, [], ◌∷◌, map, length, take, drop, ap, ◌∙◌, arith}
use Rattle.std.proofs.lemmas.List.{length-take, length-take-le, length-drop}
use Rattle.std.proofs.lemmas.Bool.{cond-false, le-ltb}
use Rattle.sending.specs.Cuts.{cutting, part_count, pieces}
use Rattle.cases.specs.Words.{part_lengths, CutsTo}

-- a message that is not too long is cut to its pieces
cut_lengths : (n : ℕ) (lengths : List ℕ) → n ≤ 80
    → ((m : List ℕ) → length m ≡ n → map length (pieces (part_count 28 n - 1) 21 m) ≡ lengths) → CutsTo n lengths
unfolding cutting
cut_lengths n lengths short each number version m suited long =
    let room : ltb 80 (length m) ≡ false = le-ltb 80 (length m) (omega arith) in
    ap part_lengths (cond-false _ _ _ room ∙ cond-false _ _ _ suited)
    ∙ ap (λ k. map length (pieces (part_count 28 k - 1) 21 m)) long
    ∙ each m long

-- into one part, into two, and into three
pub cut_to_one : (n : ℕ) → n ≤ 80 → part_count 28 n ≡ 1 → CutsTo n (n ∷ [])
cut_to_one n short one = cut_lengths n (n ∷ []) short (λ m long. ap (λ c. map length (pieces (c - 1) 21 m)) one ∙ ap (λ k. k ∷ []) long)

pub cut_to_two : (n r : ℕ) → n ≤ 80 → part_count 28 n ≡ 2 → n ≡ 21 + r → CutsTo n (21 ∷ r ∷ [])
cut_to_two n r short two rest =
    cut_lengths n (21 ∷ r ∷ []) short (λ m long.
    let a : length (take 21 m) ≡ 21 = length-take-le 21 m (omega arith) in
    let b : length (drop 21 m) ≡ r = omega (arith, length-drop 21 m) in
    ap (λ c. map length (pieces (c - 1) 21 m)) two ∙ cc)

pub cut_to_three : (n r z : ℕ) → n ≤ 80 → part_count 28 n ≡ 3 → 21 ≤ n → r ≡ min 21 (n - 21) → z ≡ n - 21 - r → CutsTo n (21 ∷ r ∷ z ∷ [])
cut_to_three n r z short three enough second third =
    cut_lengths n (21 ∷ r ∷ z ∷ []) short (λ m long.
    let rest = drop 21 m in
    let a : length (take 21 m) ≡ 21 = length-take-le 21 m (omega arith) in
    let b : length rest ≡ n - 21 = omega (arith, length-drop 21 m) in
    let c : length (take 21 rest) ≡ r = omega (arith, length-take 21 rest) in
    let d : length (drop 21 rest) ≡ z = omega (arith, length-drop 21 rest) in
    ap (λ c. map length (pieces (c - 1) 21 m)) three ∙ cc)
