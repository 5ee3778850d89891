-- What is measured on a drawing in 1X at 8 samples to a symbol, and what symbols are read as by it.
use Rattle.std.proofs.Common.{◌≡◌, ℕ, ◌+◌, ◌*◌, true, List, [], ◌∷◌, length, get_or, Some, refl, ap, ◌∙◌, subst, arith}
use Rattle.std.proofs.lemmas.List.FromFn.{length-map-range_with_len}
use Rattle.std.proofs.lemmas.Bool.{cond-true, lt-ltb}
use Rattle.line.specs.declared.depth.Depth.TheVariants.{Eight}
use Rattle.line.specs.declared.reading.Cuts.TheVariants.{One}
use Rattle.line.specs.Depths.{unit_of}
use Rattle.line.specs.Lines.{good_count, Drawable}
use Rattle.line.specs.Scales.{draws_bits}
use Rattle.line.specs.Symbols.{Near, weight, level_at, drawn_by, symbol_of, symbol_at, value_of}
use Rattle.line.proofs.Levels.{Follows, line_follows, drawn_legal, drawn_near}
use Rattle.onex.specs.OneX.{measured, one_run}
use Rattle.onex.specs.OneLaws.{one_measures, pair_below}
use Rattle.cases.specs.Words.{measured_cuts, value_by}

good_1920 : good_count 1920 ≡ true
unfolding good_count
good_1920 = refl

eight : weight 1920 ≡ 8
unfolding weight good_count
eight = refl

-- a drawing with levels 4 and 40 lies near itself
itself : (p : List ℕ) → Drawable (draws_bits 1) p → Near Eight 1 (4 ∷ 40 ∷ []) 0 (drawn_by 1 (4 ∷ 40 ∷ []) p 1920) p
itself p draw =
    record {
      legal = drawn_legal Eight 1 (4 ∷ 40 ∷ []) p 1920 good_1920 (pair_below 4 40 256 (omega arith) (omega arith) (omega arith));
      payload = draw;
      near = λ i h. drawn_near 1 (4 ∷ 40 ∷ []) p 1920 i;
    }

-- its levels are exactly eight times 4 and 40
follows : (p : List ℕ) → Drawable (draws_bits 1) p → Follows 8 0 1 (4 ∷ 40 ∷ []) p (level_at (drawn_by 1 (4 ∷ 40 ∷ []) p 1920))
follows p draw =
    let line = drawn_by 1 (4 ∷ 40 ∷ []) p 1920 in
    let f : ℕ → ℕ = λ i. get_or (4 ∷ 40 ∷ []) (symbol_of 1 p (symbol_at 1920 i)) 0 in
    let w : weight (length line) ≡ 8 = ap weight (length-map-range_with_len f 0 1920) ∙ eight in
    subst (λ (n : ℕ). Follows n (n * 0) 1 (4 ∷ 40 ∷ []) p (level_at line)) w (line_follows Eight 1 (4 ∷ 40 ∷ []) 0 line p (itself p draw))

-- so the cut is 32 + 320
cut_352 : (p : List ℕ) → Drawable (draws_bits 1) p → measured_cuts 4 40 p ≡ Some (One 352)
cut_352 p draw =
    let S = level_at (drawn_by 1 (4 ∷ 40 ∷ []) p 1920) in
    let m = one_measures 8 0 4 40 p S draw.front (follows p draw) (omega arith) in
    let z : (measured S).0 ≡ 32 = omega (arith, m.zero_low, m.zero_high) in
    let o : (measured S).1 ≡ 320 = omega (arith, m.one_low, m.one_high) in
    let run : one_run (unit_of Eight) (weight 1920) S ≡ true = lt-ltb _ _ (omega (arith, eight)) in
    let sum : (measured S).0 + (measured S).1 ≡ 352 = omega arith in
    cond-true _ _ _ run ∙ ap (λ c. Some (One c)) sum

-- and a symbol is read by it
pub by_352 : (S v : ℕ) (p : List ℕ) → Drawable (draws_bits 1) p → value_of (352 ∷ []) (2 * S) ≡ v → value_by (measured_cuts 4 40 p) S ≡ Some v
by_352 S v p draw is = ap (λ c. value_by c S) (cut_352 p draw) ∙ ap Some is
