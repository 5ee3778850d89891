-- How tests in the order of their places follow one another, and what an answer tells of them.
use Rattle.std.proofs.Common.{◌≡◌, ℕ, Bool, true, false, ◌⊎◌, Some, None, Ok, Err, Option, Result, sym, refl, ap, ◌∙◌, inl, inr, arith}
use Rattle.buffers.specs.Places.{wrong, part, or_else, shifted, present, unless, told}

-- a test that passed
pub skip : (o q : Option ℕ) → o ≡ None → or_else o q ≡ q
skip o q e = ap (λ x. or_else x q) e

-- a test that failed
pub stop : (o q : Option ℕ) (p : ℕ) → o ≡ Some p → or_else o q ≡ Some p
stop o q p e = ap (λ x. or_else x q) e

-- the last test
pub only : (o : Option ℕ) → or_else o None ≡ o
only (Some p) = refl
only None = refl

pub passes : (b : Bool) (p : ℕ) → b ≡ false → wrong b p ≡ None
passes b p e = ap (λ x. wrong x p) e

pub fails : (b : Bool) (p : ℕ) → b ≡ true → wrong b p ≡ Some p
fails b p e = ap (λ x. wrong x p) e

pub not_wrong : (t : Bool) (p : ℕ) → wrong t p ≡ None → t ≡ false
not_wrong true p e = let z : ◌≡◌ {A = ℕ} 0 1 = cc in absurd (omega arith)
not_wrong false p e = refl

pub both_none : (o q : Option ℕ) → or_else o q ≡ None → (o ≡ None) × (q ≡ None)
both_none (Some p) q e = let z : ◌≡◌ {A = ℕ} 0 1 = cc in absurd (omega arith)
both_none None q e = (refl, e)

pub shifted_none : (p : ℕ) (o : Option ℕ) → shifted p o ≡ None → o ≡ None
shifted_none p (Some q) e = let z : ◌≡◌ {A = ℕ} 0 1 = cc in absurd (omega arith)
shifted_none p None e = refl

pub cases_option : (o : Option ℕ) → (o ≡ None) ⊎ ((p : ℕ) × (o ≡ Some p))
cases_option (Some p) = inr (p, refl)
cases_option None = inl refl

-- what an accepting answer tells
pub clear : {A E : Type 0} (refuse : ℕ → E) (o : Option ℕ) (x y : A) → Ok y ≡ unless refuse o x → (o ≡ None) × (y ≡ x)
clear refuse (Some p) x y h = let z : ◌≡◌ {A = ℕ} 0 1 = cc in absurd (omega arith)
clear refuse None x y h = (refl, cc)

-- no test failed
pub done : {A E : Type 0} (refuse : ℕ → E) (o : Option ℕ) (x y : A) → o ≡ None → x ≡ y → Ok x ≡ unless refuse o y
done refuse o x y e h = ap Ok h ∙ sym (ap (λ q. unless refuse q y) e)

-- one test failed
pub refuses : {A E : Type 0} (refuse : ℕ → E) (o : Option ℕ) (p : ℕ) (y : A) → o ≡ Some p → Err (refuse p) ≡ unless refuse o y
refuses refuse o p y e = sym (ap (λ t. unless refuse t y) e)

-- a part's refusal is the whole's, where the whole fails at the part's place
pub refused : {A B D E : Type 0} (refuse : ℕ → E) (f : A → B) (r : Result A E) (e why : E) (o q : Option ℕ) (x : D) (y : B) → r ≡ Err e → e ≡ why → Err why ≡ unless refuse o x → ((p : ℕ) → o ≡ Some p → q ≡ Some p) → told f r ≡ unless refuse q y
refused refuse f r e why (Some p) q x y h k u w =
    let b : e ≡ refuse p = cc in
    ap (told f) h ∙ ap Err b ∙ sym (ap (λ t. unless refuse t y) (w p refl))
refused refuse f r e why None q x y h k u w = let z : ◌≡◌ {A = ℕ} 0 1 = cc in absurd (omega arith)

pub part_true : (b : Bool) (o : Option ℕ) → b ≡ true → part b o ≡ o
part_true b o e = ap (λ x. part x o) e

pub part_false : (b : Bool) (o : Option ℕ) → b ≡ false → part b o ≡ None
part_false b o e = ap (λ x. part x o) e

pub present_true : {A : Type 0} (b : Bool) (x : A) → b ≡ true → present b x ≡ Some x
present_true b x e = ap (λ t. present t x) e

pub present_false : {A : Type 0} (b : Bool) (x : A) → b ≡ false → present b x ≡ None
present_false b x e = ap (λ t. present t x) e
