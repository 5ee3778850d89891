-- The rule of the level table, at all of its rows, by one test that is computed over the whole table.
use Rattle.std.specs.Prelude.{◌≡◌, ℕ, zero, suc, ◌+◌, ◌*◌, ◌^◌, ◌<◌, ◌≤◌, Bool, true, ◌&&◌, List, [], ◌∷◌, length, get_or, ◌==◌, slice_index, slice_index_or, refl}
use Rattle.std.proofs.Common.{subst, sym, ap, ◌∙◌, inl, inr, add-zero, zero-add, add-suc, suc-add, le_of_suc-le-suc, not-suc-le-zero, add-mul, mul_assoc, mul_left_comm, arith}
use Rattle.std.proofs.lemmas.List.{get_or_past}
use Rattle.std.proofs.lemmas.Nat.{mul-le}
use Rattle.std.proofs.lemmas.Bool.{and_parts, eqb-true, cases_lt}
use Rattle.line.specs.declared.depth.Depth.{Depth}
use Rattle.line.specs.declared.depth.Depth.TheVariants.{Eight, Ten, Twelve}
use Rattle.line.specs.Depths.{unit_of}
use Rattle.line.proofs.Units.{unit_pos}
use Rattle.twox.specs.Levels.{level_rows, row_of, two_levels}
use Rattle.twox.specs.Gaps.{even, even_level}

-- the test f passes at each row and its place, counted from i
abbrev every : {X : Type 0} → (ℕ → X → Bool) → ℕ → List X → Bool
every f i [] = true
every f i (x ∷ xs) = f i x && every f (suc i) xs

from : {X : Type 0} (f : ℕ → X → Bool) (xs : List X) (i : ℕ) (d : X) → every f i xs ≡ true → (k : ℕ) → k < length xs → f (i + k) (slice_index_or xs k d) ≡ true
from f [] i d t k h = absurd (not-suc-le-zero h)
from f (x ∷ xs) i d t zero h = subst (λ (m : ℕ). f m x ≡ true) (sym (add-zero i)) (and_parts (f i x) (every f (suc i) xs) t).0
from f (x ∷ xs) i d t (suc k) h =
    subst (λ (m : ℕ). f m (slice_index_or xs k d) ≡ true) (suc-add i k ∙ sym (add-suc i k))
    (from f xs (suc i) d (and_parts (f i x) (every f (suc i) xs) t).1 k (le_of_suc-le-suc h))

-- a row has four levels, the first is 16 units, and each next one lies 73 units higher; the unit of row i is 4 ^ i
abbrev right : ℕ → List ℕ → Bool
right i ls = length ls == 4 && (slice_index ls 0 == 16 * 4 ^ i && even (73 * 4 ^ i) ls)

whole_table : every right 0 level_rows ≡ true
whole_table = refl

in_table : (d : Depth) → row_of d < length level_rows
in_table Eight = omega arith
in_table Ten = omega arith
in_table Twelve = omega arith

unit_is : (d : Depth) → 4 ^ row_of d ≡ unit_of d
unit_is Eight = refl
unit_is Ten = refl
unit_is Twelve = refl

-- the rule of a row, by the unit of its depth
pub record Right (q : ℕ) (ls : List ℕ) : Type 0 where
  pub four : length ls ≡ 4
  pub first : get_or ls 0 0 ≡ 16 * q
  pub gaps : even (73 * q) ls ≡ true

pub two_right : (d : Depth) → Right (unit_of d) (two_levels d)
two_right d =
    let ls = two_levels d in
    let test : right (row_of d) ls ≡ true = subst (λ (m : ℕ). right m ls ≡ true) (zero-add (row_of d)) (from right level_rows 0 [] whole_table (row_of d) (in_table d)) in
    let parts = and_parts (length ls == 4) (slice_index ls 0 == 16 * 4 ^ row_of d && even (73 * 4 ^ row_of d) ls) test in
    let more = and_parts (slice_index ls 0 == 16 * 4 ^ row_of d) (even (73 * 4 ^ row_of d) ls) parts.1 in
    record {
      four = eqb-true (length ls) 4 parts.0;
      first = eqb-true (slice_index ls 0) (16 * 4 ^ row_of d) more.0 ∙ ap (λ q. 16 * q) (unit_is d);
      gaps = subst (λ (q : ℕ). even (73 * q) ls ≡ true) (unit_is d) more.1;
    }

-- the rule at each entry
pub two_level : (d : Depth) (v : ℕ) → v < 4 → slice_index (two_levels d) v ≡ (16 + 73 * v) * unit_of d
two_level d v h =
    let r = two_right d in
    let q = unit_of d in
    let at = even_level (73 * q) (two_levels d) r.gaps v (omega (arith, r.four)) in
    let mul : v * (73 * q) ≡ 73 * v * q = mul_left_comm v 73 q ∙ sym (mul_assoc 73 v q) in
    omega (arith, r.first, add-mul 16 (73 * v) q)

-- every level is a sample
pub two_below : (d : Depth) (v : ℕ) → slice_index (two_levels d) v < 256 * unit_of d
two_below d v =
    let some = unit_pos d in
    elim (cases_lt v 4) [
      | inl lt ↦ (let up = mul-le (16 + 73 * v) (unit_of d) 235 (unit_of d) (omega arith) (let same : unit_of d ≤ unit_of d = omega arith in same) in omega (arith, two_level d v lt))
      | inr ge ↦ omega (arith, get_or_past (two_levels d) v 0 (omega (arith, (two_right d).four)))
    ]
