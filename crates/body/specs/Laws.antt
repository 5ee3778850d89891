-- The laws of a kind, in the subject's words.
use Rattle.std.specs.Prelude.{◌≡◌, ℕ, ◌≤◌, List, None, Ok, Err, Option, Result}
use Rattle.refusal.specs.declared.Refusal.{Refusal}
use Rattle.refusal.specs.declared.Refusal.TheVariants.{Body}
use Rattle.body.specs.Messages.{Said}
use Rattle.body.specs.Format.{Reserved, Fitting}

-- b is some writing of m: m has no wrong value, and b is its bytes, whatever stands in the reserved bits
pub record Writing (wrong : Said → Option ℕ) (bytes : Reserved → Said → List ℕ) (m : Said) (b : List ℕ) : Type 0 where
  pub right : wrong m ≡ None
  pub reserved : Reserved
  pub fitting : Fitting reserved
  pub written : b ≡ bytes reserved m

-- an answer accepts a body as m exactly if the body is some writing of m
pub record Accepts (W : Said → Type 0) (r : Result Said Refusal) : Type 0 where
  pub only : (m : Said) → r ≡ Ok m → W m
  pub every : (m : Said) → W m → r ≡ Ok m

-- a body or message is refused at the smallest place at which something is wrong, and accepted only where nothing is
pub record RefusesFirst {A : Type 0} (W : ℕ → Type 0) (r : Result A Refusal) : Type 0 where
  pub wrong_there : (p : ℕ) → r ≡ Err (Body p) → W p
  pub none_below : (p : ℕ) → r ≡ Err (Body p) → (q : ℕ) → W q → p ≤ q
  pub none_at_all : (x : A) → r ≡ Ok x → (q : ℕ) → W q → ⊥
