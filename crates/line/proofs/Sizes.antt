-- Where symbols lie in a line.
use Rattle.std.proofs.Common.{◌≡◌, ℕ, ◌+◌, ◌*◌, ◌/◌, ◌%◌, ◌^◌, ◌<◌, ◌≤◌, true, false, ◌&&◌, eqb, leb, List, length, take, drop, sum, sym, refl, ap, ◌∙◌, subst, inl, inr, le_refl, add-mul, mul-zero, mul-add, add-one, arith, pow_mono, pow-add}
use lib.Seq.{take-nil}
use Rattle.std.proofs.lemmas.List.{drop_all}
use Rattle.line.specs.Lines.{good_count}
use Rattle.line.specs.Symbols.{Alphabet, gathered, weight, level_at, symbol_at}
use Rattle.std.proofs.lemmas.Nat.{mul-le, div_below}
use Rattle.std.proofs.lemmas.Bool.{cases_eq, and_parts, eqb-true, leb-true, cond-true, cond-false, cases_Bool, cases_lt}

-- what holds at one and at two bits to a symbol
pub by_bits : (P : ℕ → Type 0) → P 1 → P 2 → (b : ℕ) → 1 ≤ b → b ≤ 2 → P b
by_bits P one two b low high =
    elim (cases_eq b 1) [
      | inl e ↦ subst P (sym e) one
      | inr ne ↦ (let e : 2 ≡ b = omega arith in subst P e two)
    ]

pub byte_place : (b : ℕ) → 1 ≤ b → b ≤ 2 → (k : ℕ) → k < 240 → k / (8 / b) < 30 * b
byte_place = by_bits (λ b. (k : ℕ) → k < 240 → k / (8 / b) < 30 * b) (λ k h. omega arith) (λ k h. omega arith)

pub shift_fits : (b : ℕ) → 1 ≤ b → b ≤ 2 → (k : ℕ) → b * (k % (8 / b) + 1) ≤ 8
shift_fits = by_bits (λ b. (k : ℕ) → b * (k % (8 / b) + 1) ≤ 8) (λ k. omega arith) (λ k. omega arith)

pub symbol_place : (b : ℕ) → 1 ≤ b → b ≤ 2 → (j t : ℕ) → j < 240 / (8 / b) → t < 8 / b → j * (8 / b) + t < 240
symbol_place = by_bits (λ b. (j t : ℕ) → j < 240 / (8 / b) → t < 8 / b → j * (8 / b) + t < 240) (λ j t h k. omega arith) (λ j t h k. omega arith)

pub bits_fit : (b : ℕ) → 1 ≤ b → b ≤ 2 → (t : ℕ) → t < 8 / b → b * t + b ≤ 8
bits_fit = by_bits (λ b. (t : ℕ) → t < 8 / b → b * t + b ≤ 8) (λ t h. omega arith) (λ t h. omega arith)

pub base_small : (b : ℕ) → 1 ≤ b → b ≤ 2 → 2 ^ b ≤ 4
base_small = by_bits (λ b. 2 ^ b ≤ 4) (omega arith) (omega arith)

-- one value more
pub value_more : (a v b n : ℕ) → a < 2 ^ n → v < 2 ^ b → a * 2 ^ b + v < 2 ^ (n + b)
value_more a v b n h k =
    let up : (a + 1) * 2 ^ b ≤ 2 ^ n * 2 ^ b = mul-le (a + 1) (2 ^ b) (2 ^ n) (2 ^ b) (omega arith) (le_refl (2 ^ b)) in
    rw pow-add (omega (arith, add-mul a 1 (2 ^ b)))

pub byte_room : (b n : ℕ) → 1 ≤ b → b ≤ 2 → n < 8 / b → 2 ^ (b * n + b) ≤ 256
byte_room b n low high h = pow_mono (bits_fit b low high n h)

bits_below : (b : ℕ) → 1 ≤ b → b ≤ 2 → (n : ℕ) → n ≤ 8 / b → b * n ≤ 8
bits_below = by_bits (λ b. (n : ℕ) → n ≤ 8 / b → b * n ≤ 8) (λ n h. omega arith) (λ n h. omega arith)

pub byte_full : (b n : ℕ) → 1 ≤ b → b ≤ 2 → n ≤ 8 / b → 2 ^ (b * n) ≤ 256
byte_full b n low high h = pow_mono (bits_below b low high n h)

-- a line has 240 n samples
pub count_parts : (count : ℕ) → good_count count ≡ true → (count % 240 ≡ 0) × (240 ≤ count) × (count ≤ 3840)
unfolding good_count
count_parts count ok =
    let three = and_parts (eqb (count % 240) 0) (leb 240 count && leb count 3840) ok in
    let two = and_parts (leb 240 count) (leb count 3840) three.1 in
    (eqb-true (count % 240) 0 three.0, leb-true 240 count two.0, leb-true count 3840 two.1)

-- the weight of a good count is its number of samples a symbol, from 1 to 16
pub weight_good : (count : ℕ) → good_count count ≡ true → weight count ≡ count / 240
unfolding weight
weight_good count ok = cond-true (good_count count) (count / 240) 0 ok

pub weight_bad : (count : ℕ) → good_count count ≡ false → weight count ≡ 0
unfolding weight
weight_bad count bad = cond-false (good_count count) (count / 240) 0 bad

pub weight_pos : (count : ℕ) → good_count count ≡ true → 0 < weight count
weight_pos count ok = let parts : (count % 240 ≡ 0) × (240 ≤ count) × (count ≤ 3840) = count_parts count ok in omega (arith, weight_good count ok)

pub weight_small : (count : ℕ) → weight count ≤ 40
weight_small count =
    elim (cases_Bool (good_count count)) [
      | inl ok ↦ (let parts : (count % 240 ≡ 0) × (240 ≤ count) × (count ≤ 3840) = count_parts count ok in omega (arith, weight_good count ok))
      | inr bad ↦ omega (arith, weight_bad count bad)
    ]

-- a line is its 240 symbols
pub weight_whole : (count : ℕ) → good_count count ≡ true → 240 * weight count ≡ count
weight_whole count ok = let parts : (count % 240 ≡ 0) × (240 ≤ count) × (count ≤ 3840) = count_parts count ok in omega (arith, weight_good count ok)

-- the samples of symbol k lie in the line
pub inside : (k count : ℕ) → k < 240 → good_count count ≡ true → k * weight count + weight count ≤ count
inside k count h ok = omega (arith, mul-le k (weight count) 239 (weight count) (omega arith) (le_refl (weight count)), weight_whole count ok)

-- the samples from place k * weight on, as many as the weight says, are those of symbol k
pub symbol_some : (line part : List ℕ) (k w n : ℕ) → w ≡ weight (length line) → n ≡ w → part ≡ take n (drop (k * w) line) → sum part ≡ level_at line k
unfolding level_at
symbol_some line part k w n e f is = let g : n ≡ weight (length line) = cc in ap sum (is ∙ ap (λ m. take m (drop (k * w) line)) g ∙ ap (λ m. take (weight (length line)) (drop (k * m) line)) e)

-- past the last symbol there are no samples
pub symbol_none : (line : List ℕ) (k : ℕ) → length line < k * weight (length line) + weight (length line) → 0 ≡ level_at line k
unfolding level_at
symbol_none line k out =
    let w = weight (length line) in
    elim (cases_Bool (good_count (length line))) [
      | inr bad ↦ (let z : w ≡ 0 = weight_bad (length line) bad in let n : k * w ≡ 0 = ap (λ m. k * m) z ∙ mul-zero k in absurd (omega arith))
      | inl ok ↦
          elim (cases_lt k 240) [
            | inl lt ↦ (let h = inside k (length line) lt ok in absurd (omega arith))
            | inr ge ↦
                (let all : length line ≤ k * w = omega (arith, mul-le 240 w k w ge (le_refl w), weight_whole (length line) ok) in
                sym (ap (λ l. sum (take w l)) (drop_all (k * w) line all) ∙ ap sum (take-nil w)))
          ]
    ]

-- the symbol of a sample
pub symbol_below : (count i : ℕ) → good_count count ≡ true → i < count → symbol_at count i < 240
unfolding symbol_at
symbol_below count i ok h = div_below i (weight count) 240 (weight_pos count ok) (omega (arith, weight_whole count ok))

pub gathered_next : (base : ℕ) (f : ℕ → ℕ) (t : ℕ) → gathered base f (t + 1) ≡ gathered base f t * base + f t
gathered_next base f t = ap (gathered base f) (add-one t)

-- a byte has room for one value more
pub more_fits : (b values all t v : ℕ) → Alphabet b values → t < 8 / b → all < 2 ^ (b * t) → v < values → (all * values + v < 2 ^ (b * (t + 1))) × (all * values + v < 256)
more_fits b values all t v a h k l =
    let size = a.size in
    let up : all * 2 ^ b + v < 2 ^ (b * t + b) = value_more all v b (b * t) k (omega arith) in
    let room = byte_room b t a.low a.high h in
    let now : all * values + v < 2 ^ (b * t + b) = subst (λ (n : ℕ). all * n + v < 2 ^ (b * t + b)) (sym size) up in
    let again : b * t + b ≡ b * (t + 1) = omega (arith, mul-add b t 1) in
    (subst (λ (n : ℕ). all * values + v < 2 ^ n) again now, omega arith)

pub byte_more : (f : ℕ → ℕ) (b values all v t : ℕ) → values ≡ 2 ^ b → all ≡ gathered (2 ^ b) f t → v ≡ f t → all * values + v ≡ gathered (2 ^ b) f (t + 1)
byte_more f b values all v t size e is = let next = gathered_next (2 ^ b) f t in cc

-- the smallest good count
pub good_240 : good_count 240 ≡ true
unfolding good_count
good_240 = refl
