-- Entries of one kind in a row: what one step over them comes to, and that they are written and read back.
use Rattle.std.proofs.Common.{◌≡◌, ℕ, zero, suc, ◌+◌, ◌-◌, ◌<◌, ◌≤◌, List, [], ◌∷◌, ◌++◌, length, drop, Some, None, Option, sym, refl, ap, ◌∙◌, append_assoc, arith, length-append}
use Rattle.std.specs.List.{flat_map, AllByRecursion}
use Rattle.std.proofs.lemmas.List.{drop_at, drop-drop}
use Rattle.buffers.specs.Places.{or_else, shifted}
use Rattle.buffers.proofs.Steps.{both_none, shifted_none}
use Rattle.tray.specs.Rows.{row_fault, row_end, row_of, row_ahead, row_items}

module _ (wrong : List ℕ → Option ℕ) (size : List ℕ → ℕ) where
  -- a right entry is passed over
  pub more : (n p : ℕ) (bs : List ℕ) → wrong bs ≡ None → row_fault wrong size (suc n) p bs ≡ row_fault wrong size n (p + size bs) (drop (size bs) bs)
  unfolding row_fault
  more n p bs h = ap (λ o. or_else (shifted p o) (row_fault wrong size n (p + size bs) (drop (size bs) bs))) h

  stops : (n p q : ℕ) (bs : List ℕ) → shifted p (wrong bs) ≡ Some q → row_fault wrong size (suc n) p bs ≡ Some q
  unfolding row_fault
  stops n p q bs h = ap (λ o. or_else o (row_fault wrong size n (p + size bs) (drop (size bs) bs))) h

  -- in a tray, at place p, of n entries of which i are passed: a wrong one is where the row is wrong
  pub row_stop : (n i p q : ℕ) (t : List ℕ) → i < n → shifted p (wrong (drop p t)) ≡ Some q → row_fault wrong size (n - i) p (drop p t) ≡ Some q
  row_stop n i p q t lt h =
      let e : n - i ≡ suc (n - (i + 1)) = omega arith in
      ap (λ m. row_fault wrong size m p (drop p t)) e ∙ stops (n - (i + 1)) p q (drop p t) h

  -- a right one is passed over
  pub row_more : (n i p q : ℕ) (t : List ℕ) → i < n → q ≡ p + size (drop p t) → wrong (drop p t) ≡ None → row_fault wrong size (n - i) p (drop p t) ≡ row_fault wrong size (n - (i + 1)) q (drop q t)
  row_more n i p q t lt is h =
      let e : n - i ≡ suc (n - (i + 1)) = omega arith in
      ap (λ m. row_fault wrong size m p (drop p t)) e
      ∙ more (n - (i + 1)) p (drop p t) h
      ∙ ap (row_fault wrong size (n - (i + 1)) (p + size (drop p t))) (drop-drop (size (drop p t)) p t)
      ∙ ap (λ m. row_fault wrong size (n - (i + 1)) m (drop m t)) (sym is)

  pub row_end_more : (n i p q : ℕ) (t : List ℕ) → i < n → q ≡ p + size (drop p t) → row_end size (n - i) p (drop p t) ≡ row_end size (n - (i + 1)) q (drop q t)
  unfolding row_end
  row_end_more n i p q t lt is =
      let e : n - i ≡ suc (n - (i + 1)) = omega arith in
      ap (λ m. row_end size m p (drop p t)) e
      ∙ ap (row_end size (n - (i + 1)) (p + size (drop p t))) (drop-drop (size (drop p t)) p t)
      ∙ ap (λ m. row_end size (n - (i + 1)) m (drop m t)) (sym is)

  pub row_done : (n i p : ℕ) (bs : List ℕ) → n ≤ i → (row_fault wrong size (n - i) p bs ≡ None) × (row_end size (n - i) p bs ≡ p)
  unfolding row_fault row_end
  row_done n i p bs h =
      let e : n - i ≡ 0 = omega arith in
      (ap (λ m. row_fault wrong size m p bs) e, ap (λ m. row_end size m p bs) e)

  -- the first of some right entries is right
  pub first_right : (n p : ℕ) (bs : List ℕ) → 0 < n → row_fault wrong size n p bs ≡ None → wrong bs ≡ None
  unfolding row_fault
  first_right zero p bs h e = absurd (omega arith)
  first_right (suc n) p bs h e = shifted_none p (wrong bs) (both_none _ _ e).0

  -- and the others are right
  pub others_right : (n p q : ℕ) (t : List ℕ) → 0 < n → q ≡ p + size (drop p t) → row_fault wrong size n p (drop p t) ≡ None → row_fault wrong size (n - 1) q (drop q t) ≡ None
  others_right n p q t some is e =
      let right = first_right n p (drop p t) some e in
      let zeroth : n - 0 ≡ n = omega arith in
      sym (row_more n 0 p q t some is right) ∙ ap (λ m. row_fault wrong size m p (drop p t)) zeroth ∙ e

-- the first of the entries, and those behind it
pub ahead_more : {A : Type 0} (entry : ℕ → List ℕ → A) (size : List ℕ → ℕ) (n p q : ℕ) (t : List ℕ) → 0 < n → q ≡ p + size (drop p t) → row_ahead entry size n p (drop p t) ≡ entry p (drop p t) ∷ row_ahead entry size (n - 1) q (drop q t)
unfolding row_ahead
ahead_more entry size n p q t some is =
    let e : n ≡ suc (n - 1) = omega arith in
    ap (λ m. row_ahead entry size m p (drop p t)) e
    ∙ ap (λ l. entry p (drop p t) ∷ row_ahead entry size (n - 1) (p + size (drop p t)) l) (drop-drop (size (drop p t)) p t)
    ∙ ap (λ m. entry p (drop p t) ∷ row_ahead entry size (n - 1) m (drop m t)) (sym is)

pub ahead_none : {A : Type 0} (entry : ℕ → List ℕ → A) (size : List ℕ → ℕ) (n p : ℕ) (bs : List ℕ) → n ≡ 0 → row_ahead entry size n p bs ≡ []
unfolding row_ahead
ahead_none entry size n p bs e = ap (λ m. row_ahead entry size m p bs) e

-- what holds of a kind of entry, by its bytes, and of bytes in which nothing is wrong
pub record Laws (A : Type 0) (wrong : List ℕ → Option ℕ) (size : List ℕ → ℕ) (one : List ℕ → A) (bytes : A → List ℕ) (P : A → Type 0) : Type 0 where
  pub good : (x : A) (rest : List ℕ) → P x → wrong (bytes x ++ rest) ≡ None
  pub back : (x : A) (rest : List ℕ) → one (bytes x ++ rest) ≡ x
  pub long : (x : A) (rest : List ℕ) → size (bytes x ++ rest) ≡ length (bytes x)
  pub split : (bs : List ℕ) → wrong bs ≡ None → bs ≡ bytes (one bs) ++ drop (size bs) bs
  pub sized : (bs : List ℕ) → wrong bs ≡ None → length (bytes (one bs)) ≡ size bs
  pub stands : (bs : List ℕ) → wrong bs ≡ None → P (one bs)

-- what bytes in which n entries are right are made of
pub record Made (A : Type 0) (size : List ℕ → ℕ) (one : List ℕ → A) (bytes : A → List ℕ) (P : A → Type 0) (n p : ℕ) (bs : List ℕ) : Type 0 where
  pub rest : List ℕ
  pub split : bs ≡ flat_map bytes (row_of one size n bs) ++ rest
  pub end : row_end size n p bs ≡ p + length (flat_map bytes (row_of one size n bs))
  pub count : length (row_of one size n bs) ≡ n
  pub stand : AllByRecursion P (row_of one size n bs)

module _ {A : Type 0} (wrong : List ℕ → Option ℕ) (size : List ℕ → ℕ) (one : List ℕ → A) (bytes : A → List ℕ) (P : A → Type 0) (l : Laws A wrong size one bytes P) where
  -- entries, written and read
  pub row_back : (xs : List A) (p : ℕ) (rest : List ℕ) → AllByRecursion P xs → (row_fault wrong size (length xs) p (flat_map bytes xs ++ rest) ≡ None) × (row_end size (length xs) p (flat_map bytes xs ++ rest) ≡ p + length (flat_map bytes xs)) × (row_of one size (length xs) (flat_map bytes xs ++ rest) ≡ xs)
  unfolding row_fault row_end row_of
  row_back [] p rest good = (refl, omega arith, refl)
  row_back (x ∷ xs) p rest good =
      let js = flat_map bytes xs in
      let bs = bytes x ++ (js ++ rest) in
      let n = length xs in
      let long = l.long x (js ++ rest) in
      let r = row_back xs (p + size bs) rest good.1 in
      let same : (bytes x ++ js) ++ rest ≡ bs = append_assoc (bytes x) js rest in
      let over : drop (size bs) bs ≡ js ++ rest = ap (λ m. drop m bs) long ∙ drop_at (bytes x) (js ++ rest) (length (bytes x)) refl in
      let end : (p + size bs) + length js ≡ p + length (bytes x ++ js) = omega (arith, length-append (bytes x) js, long) in (
        ap (row_fault wrong size (suc n) p) same ∙ more wrong size n p bs (l.good x (js ++ rest) good.0) ∙ ap (row_fault wrong size n (p + size bs)) over ∙ r.0,
        ap (row_end size (suc n) p) same ∙ ap (row_end size n (p + size bs)) over ∙ r.1 ∙ end,
        ap (row_of one size (suc n)) same ∙ (λ i. l.back x (js ++ rest) i ∷ row_of one size n (over i)) ∙ ap (λ ys. x ∷ ys) r.2,
      )

  pub row_made : (n p : ℕ) (bs : List ℕ) → row_fault wrong size n p bs ≡ None → Made A size one bytes P n p bs
  unfolding row_fault row_end row_of
  row_made zero p bs h = record { rest = bs; split = refl; end = omega arith; count = refl; stand = tt }
  row_made (suc n) p bs h =
      let both = both_none _ _ h in
      let right = shifted_none p (wrong bs) both.0 in
      let s = size bs in
      let r = row_made n (p + s) (drop s bs) both.1 in
      let js = flat_map bytes (row_of one size n (drop s bs)) in
      let sized = l.sized bs right in
      record {
        rest = r.rest;
        split = l.split bs right ∙ ap (λ t. bytes (one bs) ++ t) r.split ∙ sym (append_assoc (bytes (one bs)) js r.rest);
        end = r.end ∙ omega (arith, length-append (bytes (one bs)) js, sized);
        count = ap suc r.count;
        stand = (l.stands bs right, r.stand);
      }

  -- entries with their places, as they are given and as they were written
  pub ahead_items : {B : Type 0} (at : ℕ → A → B) (n p : ℕ) (bs : List ℕ) → row_fault wrong size n p bs ≡ None → row_ahead (λ q cs. at q (one cs)) size n p bs ≡ row_items at bytes p (row_of one size n bs)
  unfolding row_fault row_ahead row_of
  ahead_items at zero p bs h = refl
  ahead_items at (suc n) p bs h =
      let both = both_none _ _ h in
      let sized = l.sized bs (shifted_none p (wrong bs) both.0) in
      let others = row_of one size n (drop (size bs) bs) in
      ap (λ ys. at p (one bs) ∷ ys) (ahead_items at n (p + size bs) (drop (size bs) bs) both.1 ∙ ap (λ m. row_items at bytes (p + m) others) (sym sized))
