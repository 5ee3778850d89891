-- A table's slots in their list, and the table that they mean.
use Rattle.std.proofs.Common.{◌≡◌, ℕ, zero, suc, ◌<◌, ◌≤◌, Bool, true, false, cond, eqb, ltb, Some, None, List, [], ◌∷◌, map, length, get_or, take, set, sym, refl, ap, ◌∙◌, ⊎_elim, arith}
use lib.Seq.{map-set_same}
use lib.ListN.{length-map}
use Rattle.std.proofs.lemmas.List.{map-set, get_or-map, get_or-take, take-map, length-take-le}
use Rattle.std.proofs.lemmas.Bool.{cases_lt, lt-ltb, eq-eqb, ne_eqb, or_left, or_right, or_from, eqb-true, eqb-false}
use Rattle.std.proofs.lemmas.Bool.Decides.{nat_tests}
use Rattle.std.specs.List.{position, position_or_len}
use Rattle.std.proofs.lemmas.List.Quantifiers.{position-Some}
use Rattle.std.proofs.lemmas.List.Sums.{fails_before_first}
use Rattle.std.proofs.lemmas.Option.{none-some}
use Rattle.gather.specs.Gathering as value
use Rattle.gather.specs.Gathering.{nothing, settled}
use Rattle.gather.specs.Arriving.{watched}
use Rattle.gather.specs.Tables.{table_of}
use Rattle.gather.specs.declared.slot.Slot.{Slot}
use Rattle.gather.specs.Model.{model}

-- none of the first i numbers is n
abbrev pub Absent : ℕ → List ℕ → ℕ → Type 0
Absent n ws i = (j : ℕ) → j < i → get_or ws j 0 ≡ n → ⊥

-- i is the first index that holds n
abbrev pub FirstAt : ℕ → List ℕ → ℕ → Type 0
FirstAt n ws i = (get_or ws i 0 ≡ n) × Absent n ws i

abbrev pub numbers : ℕ → List Slot → List ℕ
numbers u xs = map (λ (s : Slot). s.number) (take u xs)

pub length_numbers : (u : ℕ) (xs : List Slot) → u ≤ length xs → length (numbers u xs) ≡ u
length_numbers u xs long = length-map (take u xs) (λ (s : Slot). s.number) ∙ length-take-le u xs long

-- whether a number is watched
pub watched_at : (n : ℕ) (ws : List ℕ) (i : ℕ) → i < length ws → get_or ws i 0 ≡ n → watched ws n ≡ true
watched_at n [] i h e = absurd (omega arith)
watched_at n (w ∷ ws) zero h e = or_left (eqb w n) (watched ws n) (eq-eqb w n e)
watched_at n (w ∷ ws) (suc i) h e = or_right (eqb w n) (watched ws n) (watched_at n ws i (omega arith) e)

pub watched_not : (n : ℕ) (ws : List ℕ) → Absent n ws (length ws) → watched ws n ≡ false
watched_not n [] none = refl
watched_not n (w ∷ ws) none = or_from (eqb w n) (watched ws n) (ne_eqb w n (none 0 (omega arith))) (watched_not n ws (λ j h. none (suc j) (omega arith)))

-- the first slot with a number stands where the number does
pub position_numbers : (n : ℕ) (xs : List Slot) → position (λ (s : Slot). eqb s.number n) xs ≡ position (λ (w : ℕ). eqb w n) (map (λ (s : Slot). s.number) xs)
position_numbers n xs =
    ap (λ (m : ℕ). cond (ltb (position_or_len (λ (s : Slot). eqb s.number n) xs) m) (Some (position_or_len (λ (s : Slot). eqb s.number n) xs)) None) (sym (length-map xs (λ (s : Slot). s.number)))
    ∙ ap (λ (k : ℕ). cond (ltb k (length (map (λ (s : Slot). s.number) xs))) (Some k) None) (go xs)
  where
    go : (ys : List Slot) → position_or_len (λ (s : Slot). eqb s.number n) ys ≡ position_or_len (λ (w : ℕ). eqb w n) (map (λ (s : Slot). s.number) ys)
    go [] = refl
    go (y ∷ ys) = let more = go ys in cc

-- the first index that holds a number, and that none does
pub found_first : (n : ℕ) (ws : List ℕ) (i : ℕ) → position (λ (w : ℕ). eqb w n) ws ≡ Some i → (i < length ws) × FirstAt n ws i
found_first n ws i e =
    let at = position-Some (λ (w : ℕ). eqb w n) ws i 0 e in
    (at.0, (eqb-true (get_or ws i 0) n at.1, λ j h. eqb-false (get_or ws j 0) n (at.2 j h)))

pub found_none : (n : ℕ) (ws : List ℕ) → position (λ (w : ℕ). eqb w n) ws ≡ None → watched ws n ≡ false
found_none n ws e = watched_not n ws (⊎_elim some none (cases_lt (position_or_len (λ (w : ℕ). eqb w n) ws) (length ws)))
  where
    first : ℕ
    first = position_or_len (λ (w : ℕ). eqb w n) ws

    some : first < length ws → Absent n ws (length ws)
    some l = absurd (none-some first (sym e ∙ ap (λ (b : Bool). cond b (Some first) None) (lt-ltb first (length ws) l)))

    none : length ws ≤ first → Absent n ws (length ws)
    none l j h = eqb-false (get_or ws j 0) n (fails_before_first (λ (w : ℕ). eqb w n) ws j 0 (omega arith))

-- the slot of a number, and the table with that slot changed
pub table_at : (ws : List ℕ) (ss : List value.Slot) (x w : ℕ) → FirstAt w ws x → x < length ws → x < length ss → table_of ws ss w ≡ get_or ss x nothing
table_at [] ss x w at h h' = absurd (omega arith)
table_at (m ∷ ms) [] x w at h h' = absurd (omega arith)
table_at (m ∷ ms) (s ∷ ss) zero w at h h' = let same : m ≡ w = at.0 in grind (arith, nat_tests)
table_at (m ∷ ms) (s ∷ ss) (suc x) w at h h' =
    let other : m ≡ w → ⊥ = at.1 0 (omega arith) in
    let more = table_at ms ss x w (at.0, λ j k. at.1 (suc j) (omega arith)) (omega arith) (omega arith) in
    grind (arith, nat_tests)

pub table_put : (ws : List ℕ) (ss : List value.Slot) (x w n : ℕ) (s' : value.Slot) → FirstAt w ws x → x < length ws → x < length ss
    → table_of ws (set ss x s') n ≡ cond (eqb n w) s' (table_of ws ss n)
table_put [] ss x w n s' at h h' = absurd (omega arith)
table_put (m ∷ ms) [] x w n s' at h h' = absurd (omega arith)
table_put (m ∷ ms) (s ∷ ss) zero w n s' at h h' = let same : m ≡ w = at.0 in grind (arith, nat_tests)
table_put (m ∷ ms) (s ∷ ss) (suc x) w n s' at h h' =
    let other : m ≡ w → ⊥ = at.1 0 (omega arith) in
    let more = table_put ms ss x w n s' (at.0, λ j k. at.1 (suc j) (omega arith)) (omega arith) (omega arith) in
    grind (arith, nat_tests)

take_put : {X : Type 0} (u : ℕ) (xs : List X) (i : ℕ) (y : X) → take u (set xs i y) ≡ set (take u xs) i y
take_put zero xs i y = refl
take_put (suc u) [] i y = refl
take_put (suc u) (x ∷ xs) zero y = refl
take_put {X} (suc u) (x ∷ xs) (suc i) y = ap (λ (zs : List X). x ∷ zs) (take_put u xs i y)

-- the numbers stay where a slot changes but for its number
pub same_numbers : (u : ℕ) (xs : List Slot) (i : ℕ) (d s' : Slot) → s'.number ≡ (get_or xs i d).number → numbers u (set xs i s') ≡ numbers u xs
same_numbers u xs i d s' same =
    sym (take-map (λ (s : Slot). s.number) u (set xs i s'))
    ∙ ap (take u) (map-set_same (λ (s : Slot). s.number) xs i s' d same)
    ∙ take-map (λ (s : Slot). s.number) u xs

-- the slot of a number that is first found at an index
module _ (u : ℕ) (xs : List Slot) (i w : ℕ) (within : i < u) (long : u ≤ length xs) (first : FirstAt w (numbers u xs) i) where
  in_numbers : i < length (numbers u xs)
  in_numbers = let l = length_numbers u xs long in omega arith

  in_slots : i < length (map model (take u xs))
  in_slots = let l = length-map (take u xs) model in let l' = length-take-le u xs long in omega arith

  pub found_slot : (d : Slot) → table_of (numbers u xs) (map model (take u xs)) w ≡ model (get_or xs i d)
  found_slot d =
      let l = length-take-le u xs long in
      let at : i < length (take u xs) = omega arith in
      table_at (numbers u xs) (map model (take u xs)) i w first in_numbers in_slots
      ∙ get_or-map model (take u xs) i d nothing at
      ∙ ap model (get_or-take u xs i d within)

  pub is_watched : watched (numbers u xs) w ≡ true
  is_watched = watched_at w (numbers u xs) i in_numbers first.0

  -- the table with that slot changed
  pub changed : (d s' : Slot) → s'.number ≡ (get_or xs i d).number → (n : ℕ)
      → table_of (numbers u (set xs i s')) (map model (take u (set xs i s'))) n ≡ cond (eqb n w) (model s') (table_of (numbers u xs) (map model (take u xs)) n)
  changed d s' same n =
      ap (λ (ws : List ℕ). table_of ws (map model (take u (set xs i s'))) n) (same_numbers u xs i d s' same)
      ∙ ap (λ (ss : List value.Slot). table_of (numbers u xs) ss n) (ap (map model) (take_put u xs i s') ∙ map-set model (take u xs) i s')
      ∙ table_put (numbers u xs) (map model (take u xs)) i w n (model s') first in_numbers in_slots
