-- The laws of 2X, over the level S of each symbol, the weight w, and how far the levels may deviate.
use Rattle.std.specs.Prelude.{◌≡◌, ℕ, ◌*◌, ◌<◌, Bool, true, List, [], ◌∷◌, length, Some, None, ◌==◌, nat_eq, nat_le, slice_index, slice_index_or}
use Rattle.std.proofs.Common.{sym, subst, ap, ◌∙◌, inl, inr, mod-lt, mul_left_comm, arith}
use Rattle.std.proofs.Math.Nat.{mul-lt-mul_of_pos_left}
use Rattle.std.proofs.lemmas.Bool.{and_parts, and_from, eqb-true, eq-eqb, cond-true, cases_Bool, cond-false}
use Rattle.std.proofs.lemmas.List.Sums.{count_by-le-length}
use Rattle.line.specs.declared.depth.Depth.{Depth}
use Rattle.line.specs.Depths.{unit_of}
use Rattle.line.specs.Lines.{good_count, begins, Drawable}
use Rattle.line.specs.Symbols.{weight, level_at, symbol_of, value_of, payload_of, drawn_by}
use Rattle.line.specs.Scales.{found_by}
use Rattle.line.proofs.Digits.{payload_is, payload_drawable}
use Rattle.line.proofs.Legal.{legal_count}
use Rattle.line.proofs.Levels.{Follows, line_follows, drawn_legal, drawn_near}
use Rattle.line.proofs.Sizes.{weight_pos}
use Rattle.line.proofs.Units.{unit_pos}
use Rattle.twox.specs.Levels.{two_levels}
use Rattle.twox.specs.TwoX.{cuts_of, two_run, runs_as, two_cuts, two_found, TwoCarries}
use Rattle.twox.specs.Gaps.{even_read, length_cuts}
use Rattle.twox.specs.Runs.{runs_same, runs_at}
use Rattle.twox.specs.Table.{Right, two_right, two_below}

-- the symbols of a payload that begins EB 52
pub run_of : (p : List ℕ) → begins p ≡ true → runs_as (symbol_of 2 p) 0 two_run ≡ true
run_of p front =
    let two = and_parts (slice_index p 0 == 235) (slice_index p 1 == 82) front in
    let run : ℕ → ℕ → Bool = λ x y. runs_as (symbol_of 2 (x ∷ y ∷ [])) 0 two_run in
    ap (λ x. run x (slice_index p 1)) (eqb-true (slice_index p 0) 235 two.0) ∙ ap (λ y. run 235 y) (eqb-true (slice_index p 1) 82 two.1)

-- the value of a symbol by the cuts between the levels
abbrev two_value : List ℕ → ℕ → (ℕ → ℕ) → ℕ → ℕ
two_value levels w S k = value_of (cuts_of w levels) (2 * S k)

-- levels that follow a payload closely enough are read as it
pub two_reads : (q w D : ℕ) (levels p : List ℕ) (S : ℕ → ℕ) → Right q levels → Drawable (λ n. nat_eq n 60) p → Follows w D 2 levels p S → 2 * D < w * (73 * q) →
    found_by (two_cuts levels w S) S ≡ Some p
two_reads q w D levels p S right draw follows less =
    let each : (k : ℕ) → k < 240 → two_value levels w S k ≡ symbol_of 2 p k =
    (λ k h. let small : symbol_of 2 p k < 4 = mod-lt _ (omega arith) in even_read w (73 * q) D (S k) (symbol_of 2 p k) levels right.gaps less (omega (arith, right.four)) (follows k h)) in
    let run : runs_as (two_value levels w S) 0 two_run ≡ true = runs_same (two_value levels w S) (symbol_of 2 p) two_run 0 (λ j h. each j (omega arith)) ∙ run_of p draw.front in
    ap (λ c. found_by c S) (cond-true _ _ _ run) ∙ ap Some (payload_is 2 (omega arith) (omega arith) (two_value levels w S) p (eqb-true (length p) 60 draw.size) draw.bytes each)

-- half a gap, by the tolerance
pub half_gap : (w g e : ℕ) → 0 < w → 2 * e < g → 2 * (w * e) < w * g
half_gap w g e some less = omega (arith, mul-lt-mul_of_pos_left less some, mul_left_comm 2 w e)

pub two_reading : (d : Depth) (line p : List ℕ) → TwoCarries d line p → two_found d line ≡ Some p
two_reading d line p c =
    let w = weight (length line) in
    let some = weight_pos (length line) (legal_count d line c.2.legal) in
    two_reads (unit_of d) w (w * c.0) (two_levels d) p (level_at line) (two_right d) c.2.payload (line_follows d 2 (two_levels d) c.0 line p c.2) (half_gap w (73 * unit_of d) c.0 some c.1)

pub two_drawing : (d : Depth) (p : List ℕ) (count : ℕ) → Drawable (λ n. nat_eq n 60) p → good_count count ≡ true → TwoCarries d (drawn_by 2 (two_levels d) p count) p
two_drawing d p count draw ok =
    let u = unit_pos d in (
      0,
      (let h : 2 * 0 < 73 * unit_of d = omega arith in h),
      record {
        legal = drawn_legal d 2 (two_levels d) p count ok (two_below d);
        payload = draw;
        near = λ i h. drawn_near 2 (two_levels d) p count i;
      },
    )

-- the values of the run-in write EB 52
begins_by : (f : ℕ → ℕ) → runs_as f 0 two_run ≡ true → begins (payload_of 2 f) ≡ true
begins_by f run =
    let is : (i : ℕ) → i < 8 → f i ≡ slice_index_or two_run i 0 = λ i h. runs_at f two_run 0 run i i h (omega arith) in
    let one : slice_index_or (payload_of 2 f) 0 0 ≡ 235 = omega (arith, is 0 (omega arith), is 1 (omega arith), is 2 (omega arith), is 3 (omega arith)) in
    let two : slice_index_or (payload_of 2 f) 1 0 ≡ 82 = omega (arith, is 4 (omega arith), is 5 (omega arith), is 6 (omega arith), is 7 (omega arith)) in
    and_from _ _ (eq-eqb _ 235 one) (eq-eqb _ 82 two)

-- what 2X finds is a payload of 60 bytes
pub two_answers : (levels : List ℕ) (w : ℕ) (S : ℕ → ℕ) (p : List ℕ) → length levels ≡ 4 → found_by (two_cuts levels w S) S ≡ Some p → Drawable (λ n. nat_eq n 60) p
two_answers levels w S p four found =
    let f = two_value levels w S in
    elim (cases_Bool (runs_as f 0 two_run)) [
      | inl run ↦
          (let e : Some (payload_of 2 f) ≡ Some p = sym (ap (λ c. found_by c S) (cond-true _ _ _ run)) ∙ found in
          let same : payload_of 2 f ≡ p = cc in
          let few : (k : ℕ) → f k < 4 = λ k. omega (arith, count_by-le-length (λ c. nat_le c (2 * S k)) (cuts_of w levels), length_cuts w levels (omega arith)) in
          subst (Drawable (λ n. nat_eq n 60)) same (payload_drawable 2 (omega arith) (omega arith) f few (begins_by f run)))
      | inr miss ↦
          (let e : None ≡ Some p = sym (ap (λ c. found_by c S) (cond-false _ _ _ miss)) ∙ found in
          let z : ◌≡◌ {A = ℕ} 0 1 = cc in
          let none : ⊥ = omega arith in
          absurd none)
    ]
