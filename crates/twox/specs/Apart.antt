-- 1X finds no run-in in a line that carries a 2X payload: the zero at place 3 lies above the one at place 6.
use Rattle.std.specs.Prelude.{◌≡◌, ℕ, ◌+◌, ◌-◌, ◌*◌, ◌<◌, true, List, length, None, slice_index, slice_index_or}
use Rattle.std.proofs.Common.{subst, ap, ◌∙◌, mul-add, mul_left_comm, arith}
use Rattle.std.proofs.lemmas.Bool.{cond-false, le-ltb}
use Rattle.line.specs.declared.depth.Depth.{Depth}
use Rattle.line.specs.Depths.{unit_of}
use Rattle.line.specs.Symbols.{weight, level_at, symbol_of}
use Rattle.line.specs.Scales.{found_by}
use Rattle.line.proofs.Legal.{legal_count}
use Rattle.line.proofs.Levels.{Close, Follows, line_follows}
use Rattle.line.proofs.Sizes.{weight_pos}
use Rattle.onex.specs.OneX.{zero_places, one_places, measured, one_run, one_cuts, one_found}
use Rattle.onex.specs.Folds.{largest_ge, smallest_le}
use Rattle.twox.specs.Levels.{two_levels}
use Rattle.twox.specs.TwoX.{TwoCarries, two_run, runs_as}
use Rattle.twox.specs.Gaps.{even_level}
use Rattle.twox.specs.Runs.{runs_at}
use Rattle.twox.specs.Table.{Right, two_right}
use Rattle.twox.specs.TwoLaws.{run_of, half_gap}

-- levels that follow a 2X payload, within half a gap
none_in_levels : (q r w D : ℕ) (levels p : List ℕ) (S : ℕ → ℕ) → Right r levels → runs_as (symbol_of 2 p) 0 two_run ≡ true → Follows w D 2 levels p S → 2 * D < w * (73 * r) →
    found_by (one_cuts q w S) S ≡ None
none_in_levels q r w D levels p S right run follows less =
    let g = 73 * r in
    let near : (k v : ℕ) → k < 8 → slice_index two_run k ≡ v → Close w D (slice_index levels v) (S k) =
    (λ k v h e. subst (λ (u : ℕ). Close w D (slice_index levels u) (S k)) (runs_at (symbol_of 2 p) two_run 0 run k k h (omega arith) ∙ e) (follows k (omega arith))) in
    let high = near 3 3 (omega arith) (let e : slice_index_or two_run 3 0 ≡ 3 = omega arith in e) in
    let low = near 6 0 (omega arith) (let e : slice_index_or two_run 6 0 ≡ 0 = omega arith in e) in
    let gap : slice_index_or levels 3 0 ≡ slice_index levels 0 + 3 * g = even_level g levels right.gaps 3 (omega (arith, right.four)) in
    let wide : w * slice_index levels 3 ≡ w * slice_index levels 0 + 3 * (w * g) = ap (λ l. w * l) gap ∙ mul-add w (slice_index levels 0) (3 * g) ∙ omega (arith, mul_left_comm w 3 g) in
    let Z = largest_ge S 0 zero_places 0 (omega arith) in
    let O = smallest_le S (S 0) one_places 4 (omega arith) in
    ap (λ c. found_by c S) (cond-false (one_run q w S) _ _ (le-ltb (w * (16 * q)) (2 * ((measured S).1 - (measured S).0)) (omega arith)))

pub none_in_two : (d d' : Depth) (line p : List ℕ) → TwoCarries d line p → one_found d' line ≡ None
none_in_two d d' line p c =
    let w = weight (length line) in
    let some = weight_pos (length line) (legal_count d line c.2.legal) in
    none_in_levels (unit_of d') (unit_of d) w (w * c.0) (two_levels d) p (level_at line) (two_right d) (run_of p c.2.payload.front) (line_follows d 2 (two_levels d) c.0 line p c.2) (half_gap w (73 * unit_of d) c.0 some c.1)
