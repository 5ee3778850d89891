-- The first, else the second.
use Rattle.std.specs.Prelude.{◌≡◌, ℕ, Bool, true, false, cond, ◌||◌, ◌⊎◌, List, Some, None, Option, refl}
use Rattle.std.proofs.Common.{ap, ◌∙◌, inl, inr}
use Rattle.system.specs.Either.{found_else}

pub drawn_by : {X : Type 0} (b : Bool) (P Q : X → Type 0) (x y : X) → (b ≡ true → P x) → (b ≡ false → Q y) → P (cond b x y) ⊎ Q (cond b x y)
drawn_by true P Q x y t f = inl (t refl)
drawn_by false P Q x y t f = inr (f refl)

pub found_first : (x y : Option (List ℕ)) (p : List ℕ) → x ≡ Some p → found_else x y ≡ Some p
found_first x y p e = ap (λ v. found_else v y) e

pub found_second : (x y : Option (List ℕ)) (p : List ℕ) → x ≡ None → y ≡ Some p → found_else x y ≡ Some p
found_second x y p n e = ap (λ v. found_else v y) n ∙ e

pub found_by : (x y : Option (List ℕ)) (p : List ℕ) → found_else x y ≡ Some p → (x ≡ Some p) ⊎ (y ≡ Some p)
found_by None y p e = inr e
found_by (Some q) y p e = inl e

pub or_second : (a b : Bool) → (a || b) ≡ true → a ≡ false → b ≡ true
or_second true b t f = let z : true ≡ false = f in cc
or_second false b t f = t
