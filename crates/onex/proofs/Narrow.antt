-- Levels 4 and 20 bear 3 and not 4: with zeros drawn 4 too high and ones 4 too low the run-in is lost.
use Rattle.std.proofs.Common.{◌≡◌, ℕ, zero, suc, ◌-◌, ◌*◌, ◌<◌, eqb, List, [], ◌∷◌, length, get_or, replicate, Some, None, sym, refl, ap, ◌∙◌, arith}
use Rattle.std.specs.List.{AllByRecursion}
use Rattle.std.proofs.lemmas.Bool.{cond-false, le-ltb}
use Rattle.std.proofs.lemmas.List.FromFn.{get_or-map-range_with_len, length-map-range_with_len}
use Rattle.line.specs.declared.depth.Depth.TheVariants.{Eight}
use Rattle.line.specs.Lines.{line_fault, Drawable}
use Rattle.line.specs.Symbols.{Near, Within, weight, level_at, symbol_of, symbol_at, drawn_by}
use Rattle.line.specs.Scales.{found_by}
use Rattle.line.proofs.Levels.{line_follows, drawn_legal, drawn_near}
use Rattle.line.proofs.Sizes.{weight_good, good_240}
use Rattle.onex.specs.OneX.{zero_places, one_places, measured, one_run, one_found}
use Rattle.onex.specs.Tolerance.{Bears}
use Rattle.onex.specs.Folds.{largest_ge, smallest_le}
use Rattle.onex.specs.OneLaws.{one_reading, run_in_levels, pair_below}

pub bears_three : Bears Eight 4 20 3
bears_three line p near = one_reading Eight line p (4, 20, 3, refl, omega arith, near)

-- a payload of nothing but the run-in
abbrev empty : List ℕ
empty = 235 ∷ 82 ∷ replicate 28 0

zero_bytes : (n : ℕ) → AllByRecursion (λ b. b < 256) (replicate n 0)
zero_bytes zero = tt
zero_bytes (suc n) = (omega arith, zero_bytes n)

empty_drawable : Drawable (λ n. eqb n 30) empty
empty_drawable = record { size = refl; front = refl; bytes = (omega arith, (omega arith, zero_bytes 28)) }

-- the drawing with each level 4 towards the other
abbrev shrunk : List ℕ
shrunk = drawn_by 1 (8 ∷ 16 ∷ []) empty 240

levels_within : (v : ℕ) → Within 4 (get_or (8 ∷ 16 ∷ []) v 0) (get_or (4 ∷ 20 ∷ []) v 0)
levels_within zero = (omega arith, omega arith)
levels_within (suc zero) = (omega arith, omega arith)
levels_within (suc (suc v)) = (omega arith, omega arith)

level_of : List ℕ → ℕ → ℕ
level_of ls i = get_or ls (symbol_of 1 empty (symbol_at 240 i)) 0

shrunk_length : length shrunk ≡ 240
shrunk_length = length-map-range_with_len {X = ℕ} (λ i. get_or (8 ∷ 16 ∷ []) (symbol_of 1 empty (symbol_at 240 i)) 0) 0 240

shrunk_legal : line_fault Eight shrunk ≡ None
shrunk_legal = drawn_legal Eight 1 (8 ∷ 16 ∷ []) empty 240 good_240 (pair_below 8 16 256 (omega arith) (omega arith) (omega arith))

sample : (ls : List ℕ) (i : ℕ) → i < 240 → get_or (drawn_by 1 ls empty 240) i 0 ≡ level_of ls i
unfolding level_of
sample ls i h = get_or-map-range_with_len (λ i. get_or ls (symbol_of 1 empty (symbol_at 240 i)) 0) 0 240 i i 0 h (omega arith)

shrunk_near : Near Eight 1 (4 ∷ 20 ∷ []) 4 shrunk empty
unfolding level_of
shrunk_near = record {
  legal = shrunk_legal;
  payload = empty_drawable;
  near = λ i h.
      let less : i < 240 = omega (arith, shrunk_length) in
      let a = sample (8 ∷ 16 ∷ []) i less in
      let b = ap (λ n. get_or (drawn_by 1 (4 ∷ 20 ∷ []) empty n) i 0) shrunk_length ∙ sample (4 ∷ 20 ∷ []) i less in
      let both = levels_within (symbol_of 1 empty (symbol_at 240 i)) in
      (omega arith, omega arith);
}

exact : Near Eight 1 (8 ∷ 16 ∷ []) 0 shrunk empty
exact = record { legal = shrunk_legal; payload = empty_drawable; near = λ i h. drawn_near 1 (8 ∷ 16 ∷ []) empty 240 i }

shrunk_lost : one_found Eight shrunk ≡ None
shrunk_lost =
    let S = level_at shrunk in
    let w = weight (length shrunk) in
    let one : w ≡ 1 = ap weight shrunk_length ∙ weight_good 240 good_240 in
    let levels = run_in_levels w (w * 0) 8 16 empty S refl (line_follows Eight 1 (8 ∷ 16 ∷ []) 0 shrunk empty exact) in
    let low = (levels.0 0 (omega arith)).1 in
    let high = (levels.1 0 (omega arith)).0 in
    let Z = largest_ge S 0 zero_places 0 (omega arith) in
    let O = smallest_le S (S 0) one_places 0 (omega arith) in
    let eight = ap (λ n. n * 8) one in
    let sixteen = ap (λ n. n * 16) one in
    let none = ap (λ n. n * 0) one in
    ap (λ c. found_by c S) (cond-false (one_run 1 w S) _ _ (le-ltb (w * (16 * 1)) (2 * ((measured S).1 - (measured S).0)) (omega arith)))

pub bears_no_four : Bears Eight 4 20 4 → ⊥
bears_no_four bears =
    let e : None ≡ Some empty = sym shrunk_lost ∙ bears shrunk empty shrunk_near in
    let z : ◌≡◌ {A = ℕ} 0 1 = cc in
    omega arith
