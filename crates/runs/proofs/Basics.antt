-- Options, places in lists, counted joins, the least value of a function.
use Rattle.std.proofs.Common.{◌≡◌, ℕ, zero, suc, ◌+◌, ◌<◌, ◌≤◌, true, ◌⊎◌, List, [], ◌∷◌, ◌++◌, length, get_or, is_some, Some, None, Option, sym, refl, ap, ◌∙◌, subst, ap₂, inl, inr, le_of_eq, arith}
use Rattle.std.specs.List.{range_with_len, flat_map, slice_get}
use Rattle.std.proofs.lemmas.Bool.{and_parts, and_from, cases_eq, cases_lt, false≢true}
use Rattle.gather.specs.Gathering.{Part, full}

abbrev Absent : (A : Type 0) → Option A → Type 0
Absent A None = Unit {0}
Absent A (Some x) = ⊥

pub none≢some : {A : Type 0} {x : A} → None ≡ Some x → ⊥
none≢some {A} h = subst (Absent A) h tt

pub some_same : {A : Type 0} {x y : A} → Some x ≡ Some y → x ≡ y
some_same {x = x} h = ap (λ o. elim o [ None ↦ x | Some z ↦ z ]) h

pub nth_below : {A : Type 0} (xs : List A) (i : ℕ) (x : A) → slice_get xs i ≡ Some x → i < length xs
nth_below [] i x h = absurd (none≢some h)
nth_below (y ∷ xs) zero x h = omega arith
nth_below (y ∷ xs) (suc i) x h = let r = nth_below xs i x h in omega arith

pub nth_at : {A : Type 0} (xs : List A) (i : ℕ) → i < length xs → (x : A) × (slice_get xs i ≡ Some x)
nth_at [] i l = absurd (omega arith)
nth_at (x ∷ xs) zero l = (x, refl)
nth_at (x ∷ xs) (suc i) l = nth_at xs i (omega arith)

-- parts counted from a, joined
pub joined_parts : (g : ℕ → List ℕ) (parts : List (List ℕ)) (a : ℕ)
    → ((k : ℕ) → k < length parts → g (a + k) ≡ get_or parts k [])
    → flat_map g (range_with_len a (length parts)) ≡ flat_map (λ (p : List ℕ). p) parts
joined_parts g [] a h = refl
joined_parts g (p ∷ ps) a h =
    ap₂ ◌++◌ (ap g (omega arith) ∙ h zero (omega arith))
    (joined_parts g ps (a + 1) (λ k l. ap g (omega arith) ∙ h (suc k) (omega arith)))

-- every part 0 to n is held
some_held : (o : Option Part) → is_some o ≡ true → (h : Part) × (o ≡ Some h)
some_held None e = absurd (false≢true e)
some_held (Some h) e = (h, refl)

pub full_holds : (n : ℕ) (held : ℕ → Option Part) → full n held ≡ true → (k : ℕ) → k ≤ n → (h : Part) × (held k ≡ Some h)
full_holds zero held f k l =
    let e : k ≡ zero = omega arith in
    subst (λ (x : ℕ). (h : Part) × (held x ≡ Some h)) (sym e) (some_held (held zero) f)
full_holds (suc n) held f k l = go (λ g m. full_holds n held g k m) (cases_eq k (suc n))
  where
    both : (is_some (held (suc n)) ≡ true) × (full n held ≡ true)
    both = and_parts (is_some (held (suc n))) (full n held) f

    go : (full n held ≡ true → k ≤ n → (h : Part) × (held k ≡ Some h)) → (k ≡ suc n) ⊎ (k ≡ suc n → ⊥) → (h : Part) × (held k ≡ Some h)
    go below (inl e) = subst (λ (x : ℕ). (h : Part) × (held x ≡ Some h)) (sym e) (some_held (held (suc n)) both.0)
    go below (inr e) = below both.1 (omega arith)

pub holds_full : (n : ℕ) (held : ℕ → Option Part) → ((k : ℕ) → k ≤ n → (h : Part) × (held k ≡ Some h)) → full n held ≡ true
holds_full zero held h = ap is_some (h zero (omega arith)).1
holds_full (suc n) held h =
    and_from (is_some (held (suc n))) (full n held) (ap is_some (h (suc n) (omega arith)).1) (holds_full n held (λ k l. h k (omega arith)))

-- an index at which a function is least
pub least : (f : ℕ → ℕ) (n : ℕ) → (k : ℕ) × (k ≤ n) × ((i : ℕ) → i ≤ n → f k ≤ f i)
least f zero = (zero, omega arith, λ i l. le_of_eq (ap f (omega arith)))
least f (suc n) = go (least f n)
  where
    step : (k : ℕ) → k ≤ n → ((i : ℕ) → i ≤ n → f k ≤ f i) → (f (suc n) < f k) ⊎ (f k ≤ f (suc n))
        → (k : ℕ) × (k ≤ suc n) × ((i : ℕ) → i ≤ suc n → f k ≤ f i)
    step k l h (inl c) = (suc n, omega arith, λ i m. at i m (cases_eq i (suc n)))
      where
        at : (i : ℕ) → i ≤ suc n → (i ≡ suc n) ⊎ (i ≡ suc n → ⊥) → f (suc n) ≤ f i
        at i m (inl e) = le_of_eq (ap f (sym e))
        at i m (inr e) = let r : f k ≤ f i = h i (omega arith) in omega arith
    step k l h (inr c) = (k, omega arith, λ i m. at i m (cases_eq i (suc n)))
      where
        at : (i : ℕ) → i ≤ suc n → (i ≡ suc n) ⊎ (i ≡ suc n → ⊥) → f k ≤ f i
        at i m (inl e) = let r : f (suc n) ≤ f i = le_of_eq (ap f (sym e)) in omega arith
        at i m (inr e) = h i (omega arith)

    go : (k : ℕ) × (k ≤ n) × ((i : ℕ) → i ≤ n → f k ≤ f i) → (k : ℕ) × (k ≤ suc n) × ((i : ℕ) → i ≤ suc n → f k ≤ f i)
    go r = step r.0 r.1 r.2 (cases_lt (f (suc n)) (f r.0))
