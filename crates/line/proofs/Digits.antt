-- The symbols of a payload, and the payload that symbols write.
use Rattle.std.proofs.Common.{◌≡◌, ℕ, zero, suc, ◌+◌, ◌-◌, ◌*◌, ◌/◌, ◌%◌, ◌^◌, ◌<◌, ◌≤◌, true, eqb, List, length, get_or, sym, refl, ap, ◌∙◌, subst, mul-zero, div-add-mod', mul-suc, div-one, add-one, arith}
use native.Mathlib.Nat.{div-eq_of_lt}
use Rattle.std.specs.List.{AllByRecursion}
use Rattle.std.proofs.lemmas.Nat.{div-mul-add, mod-mul-add, shr-shr}
use Rattle.std.proofs.lemmas.List.FromFn.{fill_by_all, length-map-range_with_len, get_or-map-range_with_len}
use Rattle.std.proofs.ByRecursion.{All-get_or, All-from_get_or}
use Rattle.std.proofs.lemmas.Bool.{eq-eqb}
use Rattle.line.specs.Lines.{begins, Drawable}
use Rattle.line.specs.Symbols.{digit, symbol_of, gathered, payload_of}
use Rattle.line.proofs.Sizes.{by_bits, value_more, symbol_place}

pub gathered_same : (base : ℕ) (f g : ℕ → ℕ) (n : ℕ) → ((t : ℕ) → t < n → f t ≡ g t) → gathered base f n ≡ gathered base g n
gathered_same base f g zero same = refl
gathered_same base f g (suc n) same =
    let e = gathered_same base f g n (λ t h. same t (omega arith)) in
    let l = same n (omega arith) in
    cc

pub gathered_below : (b : ℕ) (f : ℕ → ℕ) (n : ℕ) → ((t : ℕ) → f t < 2 ^ b) → gathered (2 ^ b) f n < 2 ^ (b * n)
gathered_below b f zero low = rw mul-zero (omega arith)
gathered_below b f (suc n) low = rw mul-suc (value_more (gathered (2 ^ b) f n) (f n) b (b * n) (gathered_below b f n low) (low n))

digits_upto : (b x n : ℕ) → x < 256 → b * n ≤ 8 → gathered (2 ^ b) (digit b x) n ≡ x / 2 ^ (8 - b * n)
digits_upto b x zero small h = sym (ap (λ m. x / 2 ^ (8 - m)) (mul-zero b) ∙ div-eq_of_lt small)
digits_upto b x (suc n) small h =
    let next : b * suc n ≡ b * n + b = mul-suc b n in
    let m : ℕ = 8 - b * suc n in
    let here : gathered (2 ^ b) (digit b x) n ≡ x / 2 ^ m / 2 ^ b =
    digits_upto b x n small (omega arith) ∙ ap (λ k. x / 2 ^ k) (let e : 8 - b * n ≡ m + b = omega arith in e) ∙ sym (shr-shr x m b) in
    let last : digit b x n ≡ x / 2 ^ m % 2 ^ b = ap (λ k. x / 2 ^ (8 - b * k) % 2 ^ b) (add-one n) in
    ap (λ k. k * 2 ^ b + digit b x n) here ∙ ap (λ k. x / 2 ^ m / 2 ^ b * 2 ^ b + k) last ∙ div-add-mod' (x / 2 ^ m) (2 ^ b)

whole_symbols : (b : ℕ) → 1 ≤ b → b ≤ 2 → b * (8 / b) ≡ 8
whole_symbols = by_bits (λ b. b * (8 / b) ≡ 8) refl refl

-- a byte is what its symbols write
pub gathered_digits : (b : ℕ) → 1 ≤ b → b ≤ 2 → (x : ℕ) → x < 256 → gathered (2 ^ b) (digit b x) (8 / b) ≡ x
gathered_digits b low high x small =
    digits_upto b x (8 / b) small (omega (arith, whole_symbols b low high)) ∙ ap (λ k. x / 2 ^ (8 - k)) (whole_symbols b low high) ∙ div-one x

per_pos : (b : ℕ) → 1 ≤ b → b ≤ 2 → 0 < 8 / b
per_pos = by_bits (λ b. 0 < 8 / b) (omega arith) (omega arith)

whole_byte : (b : ℕ) → 1 ≤ b → b ≤ 2 → 2 ^ (b * (8 / b)) ≡ 256
whole_byte = by_bits (λ b. 2 ^ (b * (8 / b)) ≡ 256) refl refl

-- symbol t of byte j
pub symbol_in : (b : ℕ) (p : List ℕ) (j t : ℕ) → t < 8 / b → symbol_of b p (j * (8 / b) + t) ≡ digit b (get_or p j 0) t
symbol_in b p j t h =
    ap (λ k. digit b (get_or p k 0) ((j * (8 / b) + t) % (8 / b))) (div-mul-add j (8 / b) t h) ∙ ap (digit b (get_or p j 0)) (mod-mul-add j (8 / b) t h)

-- the payload is what its symbols write
pub payload_is : (b : ℕ) → 1 ≤ b → b ≤ 2 → (f : ℕ → ℕ) (p : List ℕ) → length p ≡ 240 / (8 / b) → AllByRecursion (λ x. x < 256) p →
    ((k : ℕ) → k < 240 → f k ≡ symbol_of b p k) → payload_of b f ≡ p
payload_is b low high f p size bytes same =
    sym (fill_by_all (λ j. gathered (2 ^ b) (λ t. f (j * (8 / b) + t)) (8 / b)) p (240 / (8 / b)) 0 size
    (λ j h. sym (gathered_same (2 ^ b) (λ t. f (j * (8 / b) + t)) (digit b (get_or p j 0)) (8 / b)
    (λ t l. same (j * (8 / b) + t) (symbol_place b low high j t h l) ∙ symbol_in b p j t l)
    ∙ gathered_digits b low high (get_or p j 0) (All-get_or (λ x. x < 256) p j 0 (omega arith) bytes))))

-- what values write consists of bytes
pub payload_drawable : (b : ℕ) → 1 ≤ b → b ≤ 2 → (f : ℕ → ℕ) → ((k : ℕ) → f k < 2 ^ b) → begins (payload_of b f) ≡ true →
    Drawable (λ n. eqb n (240 / (8 / b))) (payload_of b f)
payload_drawable b low high f small front =
    let size = length-map-range_with_len (λ j. gathered (2 ^ b) (λ t. f (j * (8 / b) + t)) (8 / b)) 0 (240 / (8 / b)) in
    record {
      size = eq-eqb _ _ size;
      front = front;
      bytes = All-from_get_or (λ x. x < 256) (payload_of b f) 0
          (λ j h. subst (λ (x : ℕ). x < 256) (sym (get_or-map-range_with_len (λ j. gathered (2 ^ b) (λ t. f (j * (8 / b) + t)) (8 / b)) 0 (240 / (8 / b)) j j 0 (omega arith) (omega arith)))
          (subst (λ (m : ℕ). gathered (2 ^ b) (λ t. f (j * (8 / b) + t)) (8 / b) < m) (whole_byte b low high) (gathered_below b (λ t. f (j * (8 / b) + t)) (8 / b) (λ t. small _))));
    }
