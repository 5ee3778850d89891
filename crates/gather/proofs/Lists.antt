-- Watch lists: their first wrong index, and tables made for them.
use Rattle.std.proofs.Common.{◌≡◌, ℕ, zero, suc, ◌+◌, ◌<◌, ◌≤◌, Bool, true, false, cond, eqb, ltb, ◌||◌, List, [], ◌∷◌, ◌++◌, map, length, get_or, take, set, replicate, Some, None, Option, sym, refl, ap, ◌∙◌, ⊎_elim, arith}
use mathlib.Core.Path.{fun_ext}
use lib.ListN.{length-map}
use Rattle.std.specs.Bool.{then_some}
use Rattle.std.specs.List.{list_any}
use Rattle.std.specs.Option.{option_or, MatchOption}
use Rattle.std.proofs.lemmas.List.{map-set, map_push, take-map, take-take, take_more, take_more_set, take-replicate, replicate_more, get_or-take, length-take-le}
use Rattle.std.proofs.lemmas.Bool.{true≢false, or_left, or_right, eq-eqb, ne_eqb, lt-ltb, cases_lt}
use Rattle.gather.specs.Gathering as value
use Rattle.gather.specs.Gathering.{nothing}
use Rattle.gather.specs.Arriving.{watched}
use Rattle.gather.specs.Tables.{table_of}
use Rattle.gather.specs.Watching.{wrong_at, wrong_from, watch_fault, Watchable}
use Rattle.gather.specs.declared.slot.Slot.{Slot}
use Rattle.gather.specs.Model.{model}
use Rattle.gather.specs.Serving.{empty}
use Rattle.gather.proofs.Slots.{numbers, watched_at}

watched_any : (n : ℕ) (ws : List ℕ) → list_any (λ (w : ℕ). eqb w n) ws ≡ watched ws n
watched_any n [] = refl
watched_any n (w ∷ ws) = ap (λ (b : Bool). eqb w n || b) (watched_any n ws)

module _ (ws : List ℕ) (i : ℕ) where
  pub wrong_zero : get_or ws i 0 ≡ 0 → wrong_at ws i ≡ true
  wrong_zero e = or_left (eqb (get_or ws i 0) 0) (watched (take i ws) (get_or ws i 0)) (eq-eqb (get_or ws i 0) 0 e)

  pub wrong_else : (get_or ws i 0 ≡ 0 → ⊥) → list_any (λ (w : ℕ). eqb w (get_or ws i 0)) (take i ws) ≡ wrong_at ws i
  wrong_else some = watched_any (get_or ws i 0) (take i ws) ∙ ap (λ (b : Bool). b || watched (take i ws) (get_or ws i 0)) (sym (ne_eqb (get_or ws i 0) 0 some))

  wrong_earlier : (j : ℕ) → j < i → i ≤ length ws → get_or ws j 0 ≡ get_or ws i 0 → wrong_at ws i ≡ true
  wrong_earlier j h long e =
      let l = length-take-le i ws long in
      or_right (eqb (get_or ws i 0) 0) (watched (take i ws) (get_or ws i 0)) (watched_at (get_or ws i 0) (take i ws) j (omega arith) (get_or-take i ws j 0 h ∙ e))

-- the first wrong index among the n from i on, as it is found
pub wrong_search : (ws : List ℕ) (n i m : ℕ) (r : Option ℕ) → i + n ≡ m
    → MatchOption r ((k : ℕ) → i ≤ k → k < m → wrong_at ws k ≡ false) (λ j. (i ≤ j) × (j < m) × (wrong_at ws j ≡ true) × ((k : ℕ) → i ≤ k → k < j → wrong_at ws k ≡ false))
    → r ≡ wrong_from ws i n
wrong_search ws zero i m None e h = refl
wrong_search ws zero i m (Some j) e h = absurd (omega (arith, h.0, h.1))
wrong_search ws (suc n) i m None e h =
    let here : wrong_at ws i ≡ false = h i (omega arith) (omega arith) in
    wrong_search ws n (i + 1) m None (omega arith) (λ k l. h k (omega arith))
    ∙ ap (λ (b : Bool). cond b (Some i) (wrong_from ws (i + 1) n)) (sym here)
wrong_search ws (suc n) i m (Some j) e h = go (wrong_at ws i) refl (λ l. wrong_search ws n (i + 1) m (Some j) (omega arith) (omega (arith, l), h.1, h.2, λ k m m'. h.3 k (omega arith) m'))
  where
    go : (b : Bool) → wrong_at ws i ≡ b → (i < j → Some j ≡ wrong_from ws (i + 1) n) → Some j ≡ cond b (Some i) (wrong_from ws (i + 1) n)
    go true e more = ⊎_elim (λ (l : i < j). absurd (true≢false (sym e ∙ h.3 i (omega arith) l))) (λ (l : j ≤ i). let same : j ≡ i = omega (arith, h.0) in ap Some same) (cases_lt i j)
    go false e more = ⊎_elim more (λ (l : j ≤ i). let same : i ≡ j = omega (arith, h.0) in absurd (true≢false (sym h.2 ∙ ap (wrong_at ws) (sym same) ∙ e))) (cases_lt i j)

pub ninth : (b : Bool) → then_some {T = ℕ} b 8 ≡ cond b (Some 8) None
ninth true = refl
ninth false = refl

-- the place at which a list is refused
module _ (ws : List ℕ) where
  pub fault_empty : length ws ≡ 0 → watch_fault ws ≡ Some 0
  unfolding watch_fault
  fault_empty e = ap (λ (z : Bool). cond z (Some 0) (option_or (wrong_from ws 0 (length ws)) (cond (ltb 8 (length ws)) (Some 8) None))) (eq-eqb (length ws) 0 e)

  pub fault_rest : (length ws ≡ 0 → ⊥) → watch_fault ws ≡ option_or (wrong_from ws 0 (length ws)) (cond (ltb 8 (length ws)) (Some 8) None)
  unfolding watch_fault
  fault_rest e = ap (λ (z : Bool). cond z (Some 0) (option_or (wrong_from ws 0 (length ws)) (cond (ltb 8 (length ws)) (Some 8) None))) (ne_eqb (length ws) 0 e)

  -- a list that isn't refused has at most eight numbers
  pub fault_few : watch_fault ws ≡ None → length ws ≤ 8
  fault_few e = ⊎_elim (λ (l : 8 < length ws). absurd (never l)) (λ (l : length ws ≤ 8). l) (cases_lt 8 (length ws))
    where
      some : (o : Option ℕ) → option_or o (Some 8) ≡ None → ⊥
      some None z = let k : ◌≡◌ {A = ℕ} 0 1 = cc in omega arith
      some (Some x) z = let k : ◌≡◌ {A = ℕ} 0 1 = cc in omega arith

      never : 8 < length ws → ⊥
      never l =
          let h : length ws ≡ 0 → ⊥ = λ z. omega arith in
          some (wrong_from ws 0 (length ws)) (ap (λ (z : Bool). option_or (wrong_from ws 0 (length ws)) (cond z (Some 8) None)) (sym (lt-ltb 8 (length ws) l)) ∙ sym (fault_rest h) ∙ e)

  none_wrong : (n i : ℕ) → wrong_from ws i n ≡ None → (k : ℕ) → k < n → wrong_at ws (i + k) ≡ false
  none_wrong zero i e k h = absurd (omega arith)
  none_wrong (suc n) i e k h = go (wrong_at ws i) refl e (none_wrong n (i + 1)) k h
    where
      go : (b : Bool) → wrong_at ws i ≡ b → cond b (Some i) (wrong_from ws (i + 1) n) ≡ None → (wrong_from ws (i + 1) n ≡ None → (j : ℕ) → j < n → wrong_at ws (i + 1 + j) ≡ false)
          → (k : ℕ) → k < suc n → wrong_at ws (i + k) ≡ false
      go true b e more k h = let z : ◌≡◌ {A = ℕ} 0 1 = cc in absurd (omega arith)
      go false b e more zero h = let z : i + 0 ≡ i = omega arith in ap (wrong_at ws) z ∙ b
      go false b e more (suc k) h = let z : i + suc k ≡ i + 1 + k = omega arith in ap (wrong_at ws) z ∙ more e k (omega arith)

  right_from : (o p : Option ℕ) → option_or o p ≡ None → o ≡ None
  right_from None p e = refl
  right_from (Some x) p e = e

  -- a list that isn't refused can be watched
  pub fault_watchable : watch_fault ws ≡ None → Watchable ws
  fault_watchable e = record { one_to_eight = (omega (arith, some), fault_few e); none_zero = zeros; none_twice = twice }
    where
      some : length ws ≡ 0 → ⊥
      some z = let two : ◌≡◌ {A = Option ℕ} (Some 0) None = sym (fault_empty z) ∙ e in let k : ◌≡◌ {A = ℕ} 0 1 = cc in omega arith

      right : (i : ℕ) → i < length ws → wrong_at ws i ≡ false
      right i h = let z : i ≡ 0 + i = omega arith in ap (wrong_at ws) z ∙ none_wrong (length ws) 0 (right_from (wrong_from ws 0 (length ws)) (cond (ltb 8 (length ws)) (Some 8) None) (sym (fault_rest some) ∙ e)) i h

      zeros : (i : ℕ) → i < length ws → get_or ws i 0 ≡ 0 → ⊥
      zeros i h z = true≢false (sym (wrong_zero ws i z) ∙ right i h)

      twice : (i j : ℕ) → j < i → i < length ws → get_or ws j 0 ≡ get_or ws i 0 → ⊥
      twice i j l h z = true≢false (sym (wrong_earlier ws i j l (omega arith) z) ∙ right i h)

-- a table in whose slots nothing is held
table_none : (ws : List ℕ) (u n : ℕ) → table_of ws (replicate u nothing) n ≡ nothing
table_none [] u n = refl
table_none (w ∷ ws) zero n = refl
table_none (w ∷ ws) (suc u) n = go (eqb w n) (table_none ws u n)
  where
    go : (q : Bool) → table_of ws (replicate u nothing) n ≡ nothing → cond q nothing (table_of ws (replicate u nothing) n) ≡ nothing
    go true e = refl
    go false e = e

-- one slot more that holds nothing
pub cleared_more : (xs : List Slot) (i : ℕ) (s' : Slot) → i < length xs → model s' ≡ nothing → take i (map model xs) ≡ replicate i nothing
    → take (i + 1) (map model (set xs i s')) ≡ replicate (i + 1) nothing
cleared_more xs i s' h m inv =
    let l = length-map xs model in
    ap (take (i + 1)) (map-set model xs i s')
    ∙ take_more_set (map model xs) i (model s') (omega arith)
    ∙ ap (λ (z : value.Slot). take i (map model xs) ++ z ∷ []) m
    ∙ ap (λ (zs : List value.Slot). zs ++ nothing ∷ []) inv
    ∙ replicate_more i nothing

pub cleared_all : (ws : List ℕ) (xs : List Slot) (u i : ℕ) → u ≤ i → take i (map model xs) ≡ replicate i nothing → table_of ws (map model (take u xs)) ≡ empty
cleared_all ws xs u i h inv =
    fun_ext (λ (n : ℕ). ap (λ (ss : List value.Slot). table_of ws ss n)
    (sym (take-map model u xs) ∙ sym (take-take u i (map model xs) h) ∙ ap (take u) inv ∙ take-replicate u i nothing h)
    ∙ table_none ws u n)

-- one number more
pub numbers_more : (xs : List Slot) (ws : List ℕ) (i : ℕ) (s' : Slot) → i < length xs → i < length ws → s'.number ≡ get_or ws i 0 → numbers i xs ≡ take i ws
    → numbers (i + 1) (set xs i s') ≡ take (i + 1) ws
numbers_more xs ws i s' h h' e inv =
    ap (map (λ (s : Slot). s.number)) (take_more_set xs i s' h)
    ∙ map_push (λ (s : Slot). s.number) (take i xs) s'
    ∙ ap (λ (zs : List ℕ). zs ++ s'.number ∷ []) inv
    ∙ ap (λ (z : ℕ). take i ws ++ z ∷ []) e
    ∙ sym (take_more ws i 0 h')
