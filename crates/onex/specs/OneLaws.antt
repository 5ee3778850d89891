-- The laws of 1X, over the level S of each symbol, the weight w, and how far the levels may deviate.
use Rattle.std.specs.Prelude.{◌≡◌, ℕ, zero, suc, ◌+◌, ◌-◌, ◌*◌, ◌<◌, ◌≤◌, Bool, true, ◌&&◌, leb, List, [], ◌∷◌, length, Some, None, ◌==◌, nat_eq, nat_le, nat_lt, slice_index, slice_index_or, refl}
use Rattle.std.proofs.Common.{sym, subst, ap, ◌∙◌, inl, inr, mod-lt, mul-add, mul-le-mul_left, mul_left_comm, arith}
use Rattle.std.proofs.Math.Nat.{mul-lt-mul_of_pos_left}
use Rattle.std.proofs.lemmas.Bool.{and_parts, and_from, eqb-true, eq-eqb, cond-true, cases_Bool, cond-false, leb-true, ltb-true, lt-ltb}
use Rattle.std.proofs.lemmas.List.Sums.{count_by-le-length}
use Rattle.line.specs.declared.depth.Depth.{Depth}
use Rattle.line.specs.Depths.{unit_of}
use Rattle.line.specs.Lines.{good_count, begins, Drawable}
use Rattle.line.specs.Symbols.{weight, level_at, symbol_of, value_of, payload_of, drawn_by}
use Rattle.line.specs.Scales.{found_by}
use Rattle.line.proofs.Digits.{payload_is, payload_drawable}
use Rattle.line.proofs.Legal.{legal_count}
use Rattle.line.proofs.Levels.{Close, Follows, line_follows, drawn_legal, drawn_near, value_is}
use Rattle.line.proofs.Sizes.{weight_pos}
use Rattle.line.proofs.Units.{unit_pos}
use Rattle.onex.specs.Pairs.{allowed}
use Rattle.onex.specs.OneX.{zero_places, one_places, measured, one_run, one_cuts, one_found, OneCarries}
use Rattle.onex.specs.Folds.{largest_ge, largest_le, smallest_le, smallest_ge}

-- each place has the value v
abbrev all_are : (ℕ → ℕ) → ℕ → List ℕ → Bool
all_are f v [] = true
all_are f v (k ∷ ks) = f k == v && all_are f v ks

all_are_at : (f : ℕ → ℕ) (v : ℕ) (ks : List ℕ) → all_are f v ks ≡ true → (i : ℕ) → i < length ks → f (slice_index ks i) ≡ v
all_are_at f v [] t i h = omega arith
all_are_at f v (k ∷ ks) t zero h = eqb-true (f k) v (and_parts (f k == v) (all_are f v ks) t).0
all_are_at f v (k ∷ ks) t (suc i) h = all_are_at f v ks (and_parts (f k == v) (all_are f v ks) t).1 i (omega arith)

abbrev low_places : List ℕ → Bool
low_places [] = true
low_places (k ∷ ks) = nat_lt k 240 && low_places ks

places_low : (ks : List ℕ) → low_places ks ≡ true → (i : ℕ) → i < length ks → slice_index ks i < 240
places_low [] t i h = omega arith
places_low (k ∷ ks) t zero h = ltb-true k 240 (and_parts (nat_lt k 240) (low_places ks) t).0
places_low (k ∷ ks) t (suc i) h = places_low ks (and_parts (nat_lt k 240) (low_places ks) t).1 i (omega arith)

-- the bits of a payload that begins EB 52
bits_of : (p : List ℕ) → begins p ≡ true → (all_are (symbol_of 1 p) 0 zero_places ≡ true) × (all_are (symbol_of 1 p) 1 one_places ≡ true)
bits_of p front =
    let two = and_parts (slice_index p 0 == 235) (slice_index p 1 == 82) front in
    let a = eqb-true (slice_index p 0) 235 two.0 in
    let b = eqb-true (slice_index p 1) 82 two.1 in
    let are : ℕ → List ℕ → ℕ → ℕ → Bool = λ v ks x y. all_are (symbol_of 1 (x ∷ y ∷ [])) v ks in
    (ap (λ x. are 0 zero_places x (slice_index p 1)) a ∙ ap (λ y. are 0 zero_places 235 y) b, ap (λ x. are 1 one_places x (slice_index p 1)) a ∙ ap (λ y. are 1 one_places 235 y) b)

-- an allowed pair of levels
pub record Pair (q z o : ℕ) : Type 0 where
  pub low : z ≤ 16 * q
  pub high : o ≤ 100 * q
  pub apart : z + 16 * q ≤ o

pub allowed_pair : (q z o : ℕ) → allowed q z o ≡ true → Pair q z o
allowed_pair q z o t =
    let h = and_parts (nat_le (4 * q) z && nat_le z (16 * q)) ((nat_le (20 * q) o && nat_le o (100 * q)) && nat_le (z + 16 * q) o) t in
    let l = and_parts (nat_le (4 * q) z) (nat_le z (16 * q)) h.0 in
    let r = and_parts (nat_le (20 * q) o && nat_le o (100 * q)) (nat_le (z + 16 * q) o) h.1 in
    let u = and_parts (nat_le (20 * q) o) (nat_le o (100 * q)) r.0 in
    record { low = leb-true z (16 * q) l.1; high = leb-true o (100 * q) u.1; apart = leb-true (z + 16 * q) o r.1 }

-- what the measurement tells of levels that follow a payload: four times the deviation stays below the levels' distance
pub record Measured (w z o D Z O : ℕ) : Type 0 where
  pub zero_low : w * z ≤ Z + D
  pub zero_high : Z ≤ w * z + D
  pub one_low : w * o ≤ O + D
  pub one_high : O ≤ w * o + D
  pub gap : w * z + 4 * D < w * o

-- the levels at the zeros and the ones of the run-in
pub run_in_levels : (w D z o : ℕ) (p : List ℕ) (S : ℕ → ℕ) → begins p ≡ true → Follows w D 1 (z ∷ o ∷ []) p S →
    ((i : ℕ) → i < 7 → Close w D z (S (slice_index zero_places i))) × ((i : ℕ) → i < 9 → Close w D o (S (slice_index one_places i)))
run_in_levels w D z o p S front follows =
    let bits = bits_of p front in (
      (λ i h. subst (λ (u : ℕ). Close w D (slice_index (z ∷ o ∷ []) u) (S (slice_index zero_places i))) (all_are_at (symbol_of 1 p) 0 zero_places bits.0 i h)
          (follows (slice_index zero_places i) (places_low zero_places refl i h))),
      (λ i h. subst (λ (u : ℕ). Close w D (slice_index (z ∷ o ∷ []) u) (S (slice_index one_places i))) (all_are_at (symbol_of 1 p) 1 one_places bits.1 i h)
          (follows (slice_index one_places i) (places_low one_places refl i h))),
    )

pub one_measures : (w D z o : ℕ) (p : List ℕ) (S : ℕ → ℕ) → begins p ≡ true → Follows w D 1 (z ∷ o ∷ []) p S → w * z + 4 * D < w * o →
    Measured w z o D (measured S).0 (measured S).1
one_measures w D z o p S front follows wide =
    let levels = run_in_levels w D z o p S front follows in
    let zeros = levels.0 in
    let ones = levels.1 in
    let three : Close w D z (S 3) = zeros 0 (omega arith) in
    let first : Close w D o (S 0) = ones 0 (omega arith) in
    let Zge = largest_ge S 0 zero_places 0 (omega arith) in
    let Ole = smallest_le S (S 0) one_places 0 (omega arith) in
    record {
      zero_low = omega arith;
      zero_high = largest_le S 0 (w * z + D) zero_places (omega arith) (λ i h. (zeros i h).0);
      one_low = (let h : w * o - D ≤ (measured S).1 = smallest_ge S (S 0) (w * o - D) one_places (omega arith) (λ i h. let k = (ones i h).1 in omega arith) in omega arith);
      one_high = omega arith;
      gap = wide;
    }

first_only : (P : ℕ → Type 0) → P 0 → (v : ℕ) → v < 1 → P v
first_only P p zero h = p
first_only P p (suc v) h = absurd (let none : ⊥ = omega arith in none)

-- one cut
one_above : (c t : ℕ) → c ≤ t → value_of (c ∷ []) t ≡ 1
one_above c t h = value_is (c ∷ []) t 1 (omega arith) (first_only (λ v. v < 1 → slice_index (c ∷ []) v ≤ t) (λ l. h)) (λ v l k. omega arith)

one_below : (c t : ℕ) → t < c → value_of (c ∷ []) t ≡ 0
one_below c t h = value_is (c ∷ []) t 0 (omega arith) (λ v l k. omega arith) (first_only (λ v. 0 ≤ v → t < slice_index (c ∷ []) v) (λ l. h))

-- the value of a symbol by the measured levels
abbrev one_value : (ℕ → ℕ) → ℕ → ℕ
one_value S k = value_of (((measured S).0 + (measured S).1) ∷ []) (2 * S k)

-- a symbol near one of the levels is read as that level
one_symbol : (w z o D Z O S u : ℕ) → Measured w z o D Z O → u < 2 → Close w D (slice_index (z ∷ o ∷ []) u) S → value_of ((Z + O) ∷ []) (2 * S) ≡ u
one_symbol w z o D Z O S zero m h close = one_below (Z + O) (2 * S) (omega arith)
one_symbol w z o D Z O S (suc zero) m h close = one_above (Z + O) (2 * S) (omega arith)
one_symbol w z o D Z O S (suc (suc u)) m h close = omega arith

-- levels that follow a payload closely enough are read as it
pub one_reads : (q w D z o : ℕ) (p : List ℕ) (S : ℕ → ℕ) → allowed q z o ≡ true → Drawable (λ n. nat_eq n 30) p → Follows w D 1 (z ∷ o ∷ []) p S → w * z + 4 * D < w * o →
    found_by (one_cuts q w S) S ≡ Some p
one_reads q w D z o p S ok draw follows wide =
    let m = one_measures w D z o p S draw.front follows wide in
    let pair = allowed_pair q z o ok in
    let far = mul-le-mul_left w pair.apart in
    let run : one_run q w S ≡ true = lt-ltb _ _ (omega (arith, mul-add w z (16 * q))) in
    let each : (k : ℕ) → k < 240 → one_value S k ≡ symbol_of 1 p k =
    (λ k h. one_symbol w z o D (measured S).0 (measured S).1 (S k) (symbol_of 1 p k) m (mod-lt _ (omega arith)) (follows k h)) in
    ap (λ c. found_by c S) (cond-true _ _ _ run) ∙ ap Some (payload_is 1 (omega arith) (omega arith) (one_value S) p (eqb-true (length p) 30 draw.size) draw.bytes each)

-- the distance of the levels, by the tolerance
wide_enough : (w z o e : ℕ) → 0 < w → 4 * e < o - z → w * z + 4 * (w * e) < w * o
wide_enough w z o e some less =
    let sum : 4 * e + z < o = omega arith in
    omega (arith, mul-lt-mul_of_pos_left sum some, mul-add w (4 * e) z, mul_left_comm w 4 e)

pub one_reading : (d : Depth) (line p : List ℕ) → OneCarries d line p → one_found d line ≡ Some p
one_reading d line p c =
    let w = weight (length line) in
    let some = weight_pos (length line) (legal_count d line c.5.legal) in
    one_reads (unit_of d) w (w * c.2) c.0 c.1 p (level_at line) c.3 c.5.payload (line_follows d 1 (c.0 ∷ c.1 ∷ []) c.2 line p c.5) (wide_enough w c.0 c.1 c.2 some c.4)

pub pair_below : (z o m : ℕ) → 0 < m → z < m → o < m → (v : ℕ) → slice_index (z ∷ o ∷ []) v < m
pair_below z o m a b c zero = b
pair_below z o m a b c (suc zero) = c
pair_below z o m a b c (suc (suc v)) = a

pub one_drawing : (d : Depth) (z o : ℕ) → allowed (unit_of d) z o ≡ true → (p : List ℕ) (count : ℕ) → Drawable (λ n. nat_eq n 30) p → good_count count ≡ true →
    OneCarries d (drawn_by 1 (z ∷ o ∷ []) p count) p
one_drawing d z o ok p count draw good =
    let u = unit_pos d in
    let pair = allowed_pair (unit_of d) z o ok in
    let levels : (v : ℕ) → slice_index (z ∷ o ∷ []) v < 256 * unit_of d = pair_below z o (256 * unit_of d) (omega arith) (omega arith) (omega arith) in (
      z,
      o,
      0,
      ok,
      (let h : 4 * 0 < o - z = omega arith in h),
      record {
        legal = drawn_legal d 1 (z ∷ o ∷ []) p count good levels;
        payload = draw;
        near = λ i h. drawn_near 1 (z ∷ o ∷ []) p count i;
      },
    )

-- values that are 0 and 1 at the places of the run-in write EB 52
written : (f : ℕ → ℕ) → ((i : ℕ) → i < 7 → f (slice_index zero_places i) ≡ 0) → ((i : ℕ) → i < 9 → f (slice_index one_places i) ≡ 1) → begins (payload_of 1 f) ≡ true
written f zeros ones =
    let one : slice_index_or (payload_of 1 f) 0 0 ≡ 235 =
    omega (arith, ones 0 (omega arith), ones 1 (omega arith), ones 2 (omega arith), zeros 0 (omega arith), ones 3 (omega arith), zeros 1 (omega arith), ones 4 (omega arith), ones 5 (omega arith)) in
    let two : slice_index_or (payload_of 1 f) 1 0 ≡ 82 =
    omega (arith, zeros 2 (omega arith), ones 6 (omega arith), zeros 3 (omega arith), ones 7 (omega arith), zeros 4 (omega arith), zeros 5 (omega arith), ones 8 (omega arith), zeros 6 (omega arith)) in
    and_from _ _ (eq-eqb _ 235 one) (eq-eqb _ 82 two)

-- the levels of a run-in that is found write EB 52
one_begins : (q w : ℕ) (S : ℕ → ℕ) → one_run q w S ≡ true → begins (payload_of 1 (one_value S)) ≡ true
one_begins q w S run =
    let Z = (measured S).0 in
    let O = (measured S).1 in
    let above = ltb-true (w * (16 * q)) (2 * (O - Z)) run in
    written (one_value S)
    (λ i h. let g = largest_ge S 0 zero_places i h in one_below (Z + O) (2 * S (slice_index zero_places i)) (omega arith))
    (λ i h. let g = smallest_le S (S 0) one_places i h in one_above (Z + O) (2 * S (slice_index one_places i)) (omega arith))

-- what 1X finds is a payload of 30 bytes
pub one_answers : (q w : ℕ) (S : ℕ → ℕ) (p : List ℕ) → found_by (one_cuts q w S) S ≡ Some p → Drawable (λ n. nat_eq n 30) p
one_answers q w S p found =
    elim (cases_Bool (one_run q w S)) [
      | inl run ↦
          (let e : Some (payload_of 1 (one_value S)) ≡ Some p = sym (ap (λ c. found_by c S) (cond-true _ _ _ run)) ∙ found in
          let same : payload_of 1 (one_value S) ≡ p = cc in
          let few : (k : ℕ) → one_value S k < 2 = λ k. omega (arith, count_by-le-length (λ c. leb c (2 * S k)) (((measured S).0 + (measured S).1) ∷ [])) in
          subst (Drawable (λ n. nat_eq n 30)) same (payload_drawable 1 (omega arith) (omega arith) (one_value S) few (one_begins q w S run)))
      | inr miss ↦
          (let e : None ≡ Some p = sym (ap (λ c. found_by c S) (cond-false _ _ _ miss)) ∙ found in
          let z : ◌≡◌ {A = ℕ} 0 1 = cc in
          let none : ⊥ = omega arith in
          absurd none)
    ]
