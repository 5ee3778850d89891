-- Given parts: which of them is too long, and what those keep of which none is.
use Rattle.std.proofs.Common.{◌≡◌, ℕ, zero, suc, ◌+◌, ◌<◌, ◌≤◌, Bool, true, false, cond, ltb, List, [], ◌∷◌, ◌++◌, length, get_or, take, drop, Some, None, Option, refl, ◌∙◌, subst, arith, Bor}
use Rattle.std.proofs.lemmas.List.{drop_more, get_or-map, length-map, length-append}
use Rattle.std.proofs.lemmas.Bool.Decides.{nat_tests}
use Rattle.std.proofs.lemmas.Bool.{cond-false, le-ltb, ltb-false}
use Rattle.sending.specs.Storage.{joint, Plain}
use Rattle.sending.specs.Given.{part_limit, first_long, texts, unsuited}

module _ (n i : ℕ) (ps : List (List ℕ)) (h : i < length ps) where
  pub long_here : part_limit n i < length (get_or ps i []) → first_long n i (drop i ps) ≡ Some (length (get_or ps i []))
  long_here l = rw (drop_more ps i [] h) (grind (arith, nat_tests))

  pub long_next : length (get_or ps i []) ≤ part_limit n i → first_long n i (drop i ps) ≡ first_long n (i + 1) (drop (i + 1) ps)
  long_next l = rw (drop_more ps i [] h) (grind (arith, nat_tests))

passed : {X : Type 0} (b : Bool) (x : X) (r : Option X) → cond b (Some x) r ≡ None → (b ≡ false) × (r ≡ None)
passed true x r e = absurd (let z : ◌≡◌ {A = ℕ} 0 1 = cc in omega arith)
passed false x r e = (refl, e)

-- where none is too long, each is short
pub short_parts : (n j : ℕ) (ps : List (List ℕ)) → first_long n j ps ≡ None → (k : ℕ) → k < length ps → length (get_or ps k []) ≤ part_limit n (j + k)
short_parts n j [] e k h = absurd (omega arith)
short_parts n j (p ∷ ps) e zero h =
    let q = passed (ltb (part_limit n j) (length p)) (length p) (first_long n (j + 1) ps) e in
    subst (λ m. length p ≤ part_limit n m) (omega arith) (ltb-false (part_limit n j) (length p) q.0)
short_parts n j (p ∷ ps) e (suc k) h =
    let q = passed (ltb (part_limit n j) (length p)) (length p) (first_long n (j + 1) ps) e in
    subst (λ m. length (get_or ps k []) ≤ part_limit n m) (omega arith) (short_parts n (j + 1) ps q.1 k (omega arith))

-- and where each is short, none is too long
pub none_long : (n j : ℕ) (ps : List (List ℕ)) → ((k : ℕ) → k < length ps → length (get_or ps k []) ≤ part_limit n (j + k)) → first_long n j ps ≡ None
none_long n j [] s = refl
none_long n j (p ∷ ps) s =
    let one : length p ≤ part_limit n j = subst (λ m. length p ≤ part_limit n m) (omega arith) (s 0 (omega arith)) in
    cond-false (ltb (part_limit n j) (length p)) (Some (length p)) (first_long n (j + 1) ps) (le-ltb (part_limit n j) (length p) one)
    ∙ none_long n (j + 1) ps (λ k h. subst (λ m. length (get_or ps k []) ≤ part_limit n m) (omega arith) (s (suc k) (omega arith)))

pub limit_most : (n k : ℕ) → part_limit n k ≤ 51
limit_most n k = grind (arith, nat_tests)

pub limit_last : (n k : ℕ) → 2 ≤ n → k + 1 ≡ n → part_limit n k ≡ 47
limit_last n k h e = grind (arith, nat_tests)

pub limit_least : (n k : ℕ) → 47 ≤ part_limit n k
limit_least n k = grind (arith, nat_tests)

pub limit_inner : (n k : ℕ) → (k + 1 ≡ n → ⊥) → part_limit n k ≡ 51
limit_inner n k h = grind (arith, nat_tests)

-- parts of which none is too long have at most 200 bytes
pub total : (ps : List (List ℕ)) → first_long (length ps) 0 ps ≡ None → length ps ≤ 4 → length (joint ps) ≤ 200
total [] e h = omega arith
total (a ∷ []) e h = let s = short_parts 1 0 (a ∷ []) e in simp length-append (omega (arith, s 0 (omega arith)))
total (a ∷ b ∷ []) e h = let s = short_parts 2 0 (a ∷ b ∷ []) e in simp length-append (omega (arith, s 0 (omega arith), s 1 (omega arith)))
total (a ∷ b ∷ c ∷ []) e h = let s = short_parts 3 0 (a ∷ b ∷ c ∷ []) e in simp length-append (omega (arith, s 0 (omega arith), s 1 (omega arith), s 2 (omega arith)))
total (a ∷ b ∷ c ∷ d ∷ []) e h = let s = short_parts 4 0 (a ∷ b ∷ c ∷ d ∷ []) e in simp length-append (omega (arith, s 0 (omega arith), s 1 (omega arith), s 2 (omega arith), s 3 (omega arith)))
total (a ∷ b ∷ c ∷ d ∷ f ∷ ps) e h = absurd (omega arith)

-- ---- what lies in given slices
pub text_at : (ps : List (Bor (List ℕ))) (i : ℕ) (d : Bor (List ℕ)) → i < length ps → get_or (texts ps) i [] ≡ (get_or ps i d).now
text_at ps i d h = get_or-map (λ x. x.now) ps i d [] h

pub texts_length : (ps : List (Bor (List ℕ))) → length (texts ps) ≡ length ps
texts_length ps = length-map ps (λ x. x.now)

-- a part that stands for none
abbrev pub nowhere : Bor (List ℕ)
nowhere = record { ref_ptr = (0, 0); now = [] }

-- what a suited number, version and count keep
pub suited : (n v k : ℕ) → unsuited n v k ≡ false → (1 ≤ n) × (v ≤ 15) × (1 ≤ k) × (k ≤ 4)
suited n v k e = grind (arith, nat_tests)

-- ---- one part more
pub room_next : (ps : List (List ℕ)) (i : ℕ) → i < length ps → length (joint (take i ps)) + length (get_or ps i []) ≤ length (joint ps)
room_next [] i h = absurd (omega arith)
room_next (x ∷ xs) zero h = omega (arith, length-append x (joint xs))
room_next (x ∷ xs) (suc i) h = omega (arith, length-append x (joint xs), length-append x (joint (take i xs)), room_next xs i (omega arith))

pub plain_more : (ps : List (List ℕ)) (x : List ℕ) → Plain ps → ((i : ℕ) → i < length x → get_or x i 0 < 256) → Plain (ps ++ x ∷ [])
plain_more [] x p b zero i hk hi = b i hi
plain_more [] x p b (suc k) i hk hi = absurd (omega arith)
plain_more (y ∷ ys) x p b zero i hk hi = p zero i (omega arith) hi
plain_more (y ∷ ys) x p b (suc k) i hk hi = plain_more ys x (λ m j h l. p (suc m) j (omega arith) l) b k i (omega arith) hi
