-- A list of rows and the flat list of all that stands in them: where row e starts, and the place of each step.
use Rattle.std.proofs.Common.{◌≡◌, ℕ, zero, suc, ◌+◌, ◌-◌, ◌<◌, ◌≤◌, cond, ltb, ◌⊎◌, List, [], ◌∷◌, ◌++◌, length, get_or, Some, sym, refl, ap, ◌∙◌, subst, inl, inr, arith}
use Rattle.std.specs.List.{slice_get}
use Rattle.std.proofs.lemmas.Bool.{cases_lt, lt-ltb, le-ltb, cond-true, cond-false}
use Rattle.runs.specs.Sightings.{Place}
use Rattle.runs.proofs.Basics.{none≢some, nth_below}

pub nth_left : {A : Type 0} (xs ys : List A) (i : ℕ) → i < length xs → slice_get (xs ++ ys) i ≡ slice_get xs i
nth_left [] ys i l = absurd (omega arith)
nth_left (x ∷ xs) ys zero l = refl
nth_left (x ∷ xs) ys (suc i) l = nth_left xs ys i (omega arith)

pub nth_right : {A : Type 0} (xs ys : List A) (n i : ℕ) → length xs ≡ n → slice_get (xs ++ ys) (n + i) ≡ slice_get ys i
nth_right xs ys n i c = subst (λ (m : ℕ). slice_get (xs ++ ys) (m + i) ≡ slice_get ys i) c (go xs)
  where
    go : (zs : List _) → slice_get (zs ++ ys) (length zs + i) ≡ slice_get ys i
    go [] = ap (slice_get ys) (omega arith)
    go (z ∷ zs) =
        let e : length (z ∷ zs) + i ≡ suc (length zs + i) = omega arith in
        ap (slice_get (z ∷ (zs ++ ys))) e ∙ go zs

module _ {A : Type 0} where
  abbrev pub flat : List (List A) → List A
  flat [] = []
  flat (r ∷ rs) = r ++ flat rs

  abbrev pub row : List (List A) → ℕ → List A
  row rows e = get_or rows e []

  -- the first step of row e
  abbrev pub start : List (List A) → ℕ → ℕ
  start [] e = 0
  start (r ∷ rs) zero = 0
  start (r ∷ rs) (suc e) = length r + start rs e

  pub start_next : (rows : List (List A)) (e : ℕ) → start rows (suc e) ≡ start rows e + length (row rows e)
  start_next [] e = refl
  start_next (r ∷ rs) zero = let z = none rs in omega arith
    where
      none : (ws : List (List A)) → start ws 0 ≡ 0
      none [] = refl
      none (w ∷ ws) = refl
  start_next (r ∷ rs) (suc e) = let m = start_next rs e in omega arith

  pub start_rises : (rows : List (List A)) (e f : ℕ) → e ≤ f → start rows e ≤ start rows f
  start_rises [] e f l = omega arith
  start_rises (r ∷ rs) zero f l = omega arith
  start_rises (r ∷ rs) (suc e) zero l = absurd (omega arith)
  start_rises (r ∷ rs) (suc e) (suc f) l = let m = start_rises rs e f (omega arith) in omega arith

  -- step x is one of row e
  abbrev pub Located : List (List A) → ℕ → ℕ → Type 0
  Located rows x e = (start rows e ≤ x) × (x < start rows (suc e))

  pub located : (rows : List (List A)) (e j : ℕ) → j < length (row rows e) → Located rows (start rows e + j) e
  located rows e j l = let m = start_next rows e in omega arith

  pub located_order : (rows : List (List A)) (x y e f : ℕ) → Located rows x e → Located rows y f → x ≤ y → e ≤ f
  located_order rows x y e f a b l = go (cases_lt f e)
    where
      go : (f < e) ⊎ (e ≤ f) → e ≤ f
      go (inl c) = let m = start_rises rows (suc f) e (omega arith) in absurd (omega arith)
      go (inr c) = c

  -- the place of a step
  abbrev pub place : List (List A) → ℕ → Place
  place [] x = record { event = 0; index = x }
  place (r ∷ rs) x =
      cond (ltb x (length r)) (record { event = 0; index = x })
      (record { event = suc (place rs (x - length r)).event; index = (place rs (x - length r)).index })

  pub place_is : (rows : List (List A)) (e j : ℕ) → j < length (row rows e) → place rows (start rows e + j) ≡ record { event = e; index = j }
  place_is [] e j l = absurd (omega arith)
  place_is (r ∷ rs) zero j l = ap (place (r ∷ rs)) (omega arith) ∙ cond-true _ _ _ (lt-ltb j (length r) l)
  place_is (r ∷ rs) (suc e) j l =
      let low : length r ≤ length r + start rs e + j = omega arith in
      let back : (length r + start rs e + j) - length r ≡ start rs e + j = omega arith in
      let at : place rs ((length r + start rs e + j) - length r) ≡ record { event = e; index = j } = ap (place rs) back ∙ place_is rs e j l in
      cond-false _ _ _ (le-ltb _ _ low) ∙ ap (λ (p : Place). record { event = suc p.event; index = p.index }) at

  -- step j of row e
  pub step_at : (rows : List (List A)) (e j : ℕ) (w : A) → slice_get (row rows e) j ≡ Some w → slice_get (flat rows) (start rows e + j) ≡ Some w
  step_at [] e j w d = absurd (none≢some d)
  step_at (r ∷ rs) zero j w d = ap (slice_get (flat (r ∷ rs))) (omega arith) ∙ nth_left r (flat rs) j (nth_below r j w d) ∙ d
  step_at (r ∷ rs) (suc e) j w d =
      let far : length r + start rs e + j ≡ length r + (start rs e + j) = omega arith in
      ap (slice_get (flat (r ∷ rs))) far ∙ nth_right r (flat rs) (length r) (start rs e + j) refl ∙ step_at rs e j w d

  -- the row, and the place in it, of a step
  pub step_from : (rows : List (List A)) (x : ℕ) (w : A) → slice_get (flat rows) x ≡ Some w
      → (e : ℕ) × (j : ℕ) × (slice_get (row rows e) j ≡ Some w) × (x ≡ start rows e + j)
  step_from [] x w c = absurd (none≢some c)
  step_from (r ∷ rs) x w c = go (step_from rs (x - length r) w) (cases_lt x (length r))
    where
      go : (slice_get (flat rs) (x - length r) ≡ Some w → (e : ℕ) × (j : ℕ) × (slice_get (row rs e) j ≡ Some w) × (x - length r ≡ start rs e + j))
          → (x < length r) ⊎ (length r ≤ x)
          → (e : ℕ) × (j : ℕ) × (slice_get (row (r ∷ rs) e) j ≡ Some w) × (x ≡ start (r ∷ rs) e + j)
      go more (inl l) = (0, x, sym (nth_left r (flat rs) x l) ∙ c, omega arith)
      go more (inr l) =
          let far : length r + (x - length r) ≡ x = omega arith in
          let m = more (sym (nth_right r (flat rs) (length r) (x - length r) refl) ∙ ap (slice_get (flat (r ∷ rs))) far ∙ c) in
          let back = m.3 in
          (suc m.0, m.1, m.2, omega arith)
