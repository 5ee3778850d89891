-- How far the level of a symbol lies from what was drawn, by its weight and a deviation, and what it is read as.
use Rattle.std.proofs.Common.{◌≡◌, ℕ, zero, suc, ◌+◌, ◌*◌, ◌<◌, ◌≤◌, true, cond, leb, List, [], ◌∷◌, length, get_or, take, drop, None, sum, sym, ap, ◌∙◌, subst, suc-mul, zero-add, zero-mul, arith}
use Rattle.std.proofs.lemmas.List.Sums.{sum_by-cons, sum_by-le}
use Rattle.std.proofs.lemmas.List.Elements.{All-take, All-drop}
use Rattle.std.specs.List.{All}
use Rattle.std.proofs.lemmas.Bool.{le-leb, lt-leb}
use Rattle.std.proofs.lemmas.Nat.{div-mul-add, mul-le}
use Rattle.std.proofs.lemmas.List.{length-drop, length-take, length-take-le, get_or-take, get_or-drop}
use Rattle.std.proofs.lemmas.List.FromFn.{get_or-map-range_with_len, length-map-range_with_len}
use Rattle.line.specs.declared.depth.Depth.{Depth}
use Rattle.line.specs.Depths.{unit_of}
use Rattle.line.specs.Lines.{good_count, line_fault}
use Rattle.line.specs.Symbols.{value_of, Within, Near, weight, level_at, symbol_of, symbol_at, drawn_by}
use Rattle.line.proofs.Legal.{line_legal, legal_count}
use Rattle.line.proofs.Sizes.{inside, weight_small}

-- the level of a symbol of 16-bit samples
pub level_small : (line : List ℕ) (k : ℕ) → All (λ x. x ≤ 65535) line → level_at line k ≤ 40 * 65535
unfolding level_at
level_small line k all =
    let w = weight (length line) in
    let part = take w (drop (k * w) line) in
    let short : length part ≤ 40 = omega (arith, length-take w (drop (k * w) line), weight_small (length line)) in
    omega (arith, sum_by-le (λ x. x) 65535 part (All-take (λ x. x ≤ 65535) w _ (All-drop (λ x. x ≤ 65535) (k * w) line all)), mul-le (length part) 65535 40 65535 short (omega arith))

-- the value is u where the first u cuts are reached and no other
pub value_is : (cuts : List ℕ) (twice u : ℕ) → u ≤ length cuts →
    ((v : ℕ) → v < length cuts → v < u → get_or cuts v 0 ≤ twice) →
    ((v : ℕ) → v < length cuts → u ≤ v → twice < get_or cuts v 0) → value_of cuts twice ≡ u
value_is [] twice u h below above = omega arith
value_is (c ∷ cs) twice zero h below above =
    sum_by-cons (λ x. cond (leb x twice) 1 0) c cs
    ∙ ap (λ b. cond b 1 0 + value_of cs twice) (lt-leb c twice (above 0 (omega arith) (omega arith)))
    ∙ zero-add _ ∙ value_is cs twice zero (omega arith) (λ v l k. omega arith) (λ v l k. above (suc v) (omega arith) (omega arith))
value_is (c ∷ cs) twice (suc u) h below above =
    sum_by-cons (λ x. cond (leb x twice) 1 0) c cs
    ∙ ap (λ b. cond b 1 0 + value_of cs twice) (le-leb c twice (below 0 (omega arith) (omega arith)))
    ∙ ap (λ n. 1 + n) (value_is cs twice u (omega arith) (λ v l k. below (suc v) (omega arith) (omega arith)) (λ v l k. above (suc v) (omega arith) (omega arith)))
    ∙ omega arith

-- a level S of weight w that deviates by at most D from a symbol drawn with level L
abbrev pub Close : ℕ → ℕ → ℕ → ℕ → Type 0
Close w D L S = (S ≤ w * L + D) × (w * L ≤ S + D)

-- levels that follow the symbols of a payload, with a deviation of at most D
abbrev pub Follows : ℕ → ℕ → ℕ → List ℕ → List ℕ → (ℕ → ℕ) → Type 0
Follows w D b levels p S = (k : ℕ) → k < 240 → Close w D (get_or levels (symbol_of b p k) 0) (S k)

sum_close : (xs : List ℕ) (e L : ℕ) → ((i : ℕ) → i < length xs → Within e (get_or xs i 0) L) → Close (length xs) (length xs * e) L (sum xs)
sum_close [] e L near = (omega (arith, zero-mul L, zero-mul e), omega (arith, zero-mul L, zero-mul e))
sum_close (x ∷ xs) e L near =
    let h : Within e x L = near 0 (omega arith) in
    let t : Close (length xs) (length xs * e) L (sum xs) = sum_close xs e L (λ i l. near (suc i) (omega arith)) in
    let s : sum (x ∷ xs) ≡ x + sum xs = sum_by-cons (λ y. y) x xs in
    (omega (arith, suc-mul (length xs) L, suc-mul (length xs) e), omega (arith, suc-mul (length xs) L, suc-mul (length xs) e))

-- the levels of a line whose samples lie at most e from a drawing
near_follows : (b : ℕ) (levels line p : List ℕ) (e : ℕ) → good_count (length line) ≡ true →
    ((i : ℕ) → i < length line → Within e (get_or line i 0) (get_or (drawn_by b levels p (length line)) i 0)) →
    Follows (weight (length line)) (weight (length line) * e) b levels p (level_at line)
unfolding level_at symbol_at
near_follows b levels line p e ok near k h =
    let n = weight (length line) in
    let within : k * n + n ≤ length line = inside k (length line) h ok in
    let long : length (take n (drop (k * n) line)) ≡ n = length-take-le n (drop (k * n) line) (omega (arith, length-drop (k * n) line)) in
    let each : (i : ℕ) → i < length (take n (drop (k * n) line)) → Within e (get_or (take n (drop (k * n) line)) i 0) (get_or levels (symbol_of b p k) 0) =
    (λ i l.
    let less : i < n = omega arith in
    let read : get_or (take n (drop (k * n) line)) i 0 ≡ get_or line (k * n + i) 0 = get_or-take n (drop (k * n) line) i 0 less ∙ get_or-drop (k * n) line i 0 in
    let made : get_or (drawn_by b levels p (length line)) (k * n + i) 0 ≡ get_or levels (symbol_of b p k) 0 =
    get_or-map-range_with_len (λ i. get_or levels (symbol_of b p (symbol_at (length line) i)) 0) 0 (length line) (k * n + i) (k * n + i) 0 (omega arith) (omega arith)
    ∙ ap (λ m. get_or levels (symbol_of b p m) 0) (div-mul-add k n i less) in
    let h = near (k * n + i) (omega arith) in
    (omega arith, omega arith)) in
    subst (λ (m : ℕ). Close m (m * e) (get_or levels (symbol_of b p k) 0) (level_at line k)) long (sum_close (take n (drop (k * n) line)) e (get_or levels (symbol_of b p k) 0) each)

pub line_follows : (d : Depth) (b : ℕ) (levels : List ℕ) (e : ℕ) (line p : List ℕ) → Near d b levels e line p →
    Follows (weight (length line)) (weight (length line) * e) b levels p (level_at line)
line_follows d b levels e line p n = near_follows b levels line p e (legal_count d line n.legal) n.near

-- a drawing lies near itself
pub drawn_near : (b : ℕ) (levels p : List ℕ) (count i : ℕ) → Within 0 (get_or (drawn_by b levels p count) i 0) (get_or (drawn_by b levels p (length (drawn_by b levels p count))) i 0)
drawn_near b levels p count i =
    let long = ap (λ n. get_or (drawn_by b levels p n) i 0) (length-map-range_with_len (λ i. get_or levels (symbol_of b p (symbol_at count i)) 0) 0 count) in
    (omega arith, omega arith)

-- a drawn line has no fault
pub drawn_legal : (d : Depth) (b : ℕ) (levels p : List ℕ) (count : ℕ) → good_count count ≡ true → ((v : ℕ) → get_or levels v 0 < 256 * unit_of d) →
    line_fault d (drawn_by b levels p count) ≡ None
drawn_legal d b levels p count ok low =
    let f : ℕ → ℕ = λ i. get_or levels (symbol_of b p (symbol_at count i)) 0 in
    let long : length (drawn_by b levels p count) ≡ count = length-map-range_with_len f 0 count in
    line_legal d (drawn_by b levels p count) (ap good_count long ∙ ok)
    (λ i h. subst (λ (x : ℕ). x < 256 * unit_of d) (sym (get_or-map-range_with_len f 0 count i i 0 (omega arith) (omega arith))) (low _))
