-- The largest and the smallest level at some places.
use Rattle.std.specs.Prelude.{◌≡◌, ℕ, zero, suc, ◌+◌, ◌<◌, ◌≤◌, min, max, Bool, true, false, cond, not, List, [], ◌∷◌, ◌++◌, length, fold, ◌==◌, slice_index}
use Rattle.std.proofs.Common.{ap, ◌∙◌, add-one, arith}
use Rattle.std.proofs.lemmas.List.Sums.{fold_push}
use Rattle.std.proofs.lemmas.Bool.{cond-true, cond-false}
use Rattle.onex.specs.OneX.{largest, smallest}

-- the largest is at least each, and at most what each is at most
largest_start : (f : ℕ → ℕ) (a : ℕ) (ks : List ℕ) → a ≤ largest f a ks
largest_start f a [] = omega arith
largest_start f a (k ∷ ks) = let h = largest_start f (max a (f k)) ks in omega arith

pub largest_ge : (f : ℕ → ℕ) (a : ℕ) (ks : List ℕ) (i : ℕ) → i < length ks → f (slice_index ks i) ≤ largest f a ks
largest_ge f a [] i h = omega arith
largest_ge f a (k ∷ ks) zero h = let s = largest_start f (max a (f k)) ks in omega arith
largest_ge f a (k ∷ ks) (suc i) h = largest_ge f (max a (f k)) ks i (omega arith)

pub largest_le : (f : ℕ → ℕ) (a m : ℕ) (ks : List ℕ) → a ≤ m → ((i : ℕ) → i < length ks → f (slice_index ks i) ≤ m) → largest f a ks ≤ m
largest_le f a m [] low each = low
largest_le f a m (k ∷ ks) low each = let h = each 0 (omega arith) in largest_le f (max a (f k)) m ks (omega arith) (λ i l. each (suc i) (omega arith))

-- the smallest is at most each, and at least what each is at least
smallest_start : (f : ℕ → ℕ) (a : ℕ) (ks : List ℕ) → smallest f a ks ≤ a
smallest_start f a [] = omega arith
smallest_start f a (k ∷ ks) = let h = smallest_start f (min a (f k)) ks in omega arith

pub smallest_le : (f : ℕ → ℕ) (a : ℕ) (ks : List ℕ) (i : ℕ) → i < length ks → smallest f a ks ≤ f (slice_index ks i)
smallest_le f a [] i h = omega arith
smallest_le f a (k ∷ ks) zero h = let s = smallest_start f (min a (f k)) ks in omega arith
smallest_le f a (k ∷ ks) (suc i) h = smallest_le f (min a (f k)) ks i (omega arith)

pub smallest_ge : (f : ℕ → ℕ) (a m : ℕ) (ks : List ℕ) → m ≤ a → ((i : ℕ) → i < length ks → m ≤ f (slice_index ks i)) → m ≤ smallest f a ks
smallest_ge f a m [] low each = low
smallest_ge f a m (k ∷ ks) low each = let h = each 0 (omega arith) in smallest_ge f (min a (f k)) m ks (omega arith) (λ i l. each (suc i) (omega arith))

-- the bits of EB 52: at which places they are 0, and 1
abbrev run_in_bits : List ℕ
run_in_bits = 1 ∷ 1 ∷ 1 ∷ 0 ∷ 1 ∷ 0 ∷ 1 ∷ 1 ∷ 0 ∷ 1 ∷ 0 ∷ 1 ∷ 0 ∷ 0 ∷ 1 ∷ 0 ∷ []

abbrev pub zero_at : ℕ → Bool
zero_at n = slice_index run_in_bits n == 0

abbrev pub one_at : ℕ → Bool
one_at n = not (zero_at n)

-- the places below n that pass a test
abbrev pub places : (ℕ → Bool) → ℕ → List ℕ
places t zero = []
places t (suc n) = cond (t n) (places t n ++ n ∷ []) (places t n)

-- a fold over one place more
pub fold_yes : (g : ℕ → ℕ → ℕ) (a : ℕ) (t : ℕ → Bool) (n : ℕ) → t n ≡ true → fold g a (places t (n + 1)) ≡ g (fold g a (places t n)) n
fold_yes g a t n e = ap (λ m. fold g a (places t m)) (add-one n) ∙ ap (fold g a) (cond-true _ _ _ e) ∙ fold_push g a (places t n) n

pub fold_no : (g : ℕ → ℕ → ℕ) (a : ℕ) (t : ℕ → Bool) (n : ℕ) → t n ≡ false → fold g a (places t (n + 1)) ≡ fold g a (places t n)
fold_no g a t n e = ap (λ m. fold g a (places t m)) (add-one n) ∙ ap (fold g a) (cond-false _ _ _ e)
