-- Tests in the order of their places, one after another: the first that fails has the smallest place.
use Rattle.std.specs.Prelude.{◌≡◌, ℕ, ◌+◌, ◌<◌, ◌≤◌, Bool, true, false, Some, None, Option, nat_le, nat_lt, refl}
use Rattle.std.proofs.Common.{arith}
use Rattle.std.proofs.lemmas.Bool.{ltb-true, ltb-false, leb-true, leb-false}
use Rattle.buffers.specs.Places.{wrong, part, or_else, shifted, Smallest, at, nowhere}

module _ (W : ℕ → Type 0) where
  -- something is wrong at p, and nothing below it
  abbrev pub Least : ℕ → Type 0
  Least p = W p × ((q : ℕ) → W q → p ≤ q)

  -- where a test fails its place is the smallest, and where it passes those after it decide
  pub step : (t : Bool) (p : ℕ) (rest : Option ℕ) → (t ≡ true → Least p) → (t ≡ false → Smallest W rest) → Smallest W (or_else (wrong t p) rest)
  step true p rest w f = at p (w refl).0 (w refl).1
  step false p rest w f = f refl

  -- a test of two numbers
  pub below : (m n p : ℕ) (rest : Option ℕ) → (m < n → Least p) → (n ≤ m → Smallest W rest) → Smallest W (or_else (wrong (nat_lt m n) p) rest)
  below m n p rest w f = step (nat_lt m n) p rest (λ e. w (ltb-true _ _ e)) (λ e. f (ltb-false _ _ e))

  pub reaches : (m n p : ℕ) (rest : Option ℕ) → (m ≤ n → Least p) → (n < m → Smallest W rest) → Smallest W (or_else (wrong (nat_le m n) p) rest)
  reaches m n p rest w f = step (nat_le m n) p rest (λ e. w (leb-true _ _ e)) (λ e. f (leb-false _ _ e))

  -- a test that finds an index of a part that begins at p
  pub index : (p : ℕ) (o rest : Option ℕ) → ((i : ℕ) → o ≡ Some i → Least (p + i)) → (o ≡ None → Smallest W rest) → Smallest W (or_else (shifted p o) rest)
  index p (Some i) rest w f = at (p + i) (w i refl).0 (w i refl).1
  index p None rest w f = f refl

  -- the tests of a part that is there only sometimes
  pub where_there : (t : Bool) (o rest : Option ℕ) → (t ≡ true → Smallest W (or_else o rest)) → (t ≡ false → Smallest W rest) → Smallest W (or_else (part t o) rest)
  where_there true o rest f g = f refl
  where_there false o rest f g = g refl

  -- the first test of a part
  pub inner : (o x rest : Option ℕ) → Smallest W (or_else o (or_else x rest)) → Smallest W (or_else (or_else o x) rest)
  inner (Some p) x rest s = s
  inner None x rest s = s

  -- tests that have a smallest place of their own
  pub among : (V : ℕ → Type 0) (o rest : Option ℕ) → Smallest V o → ((p : ℕ) → V p → ((q : ℕ) → V q → p ≤ q) → Least p) → (((q : ℕ) → V q → ⊥) → Smallest W rest) → Smallest W (or_else o rest)
  among V _ rest (at p v h) w f = at p (w p v h).0 (w p v h).1
  among V _ rest (nowhere n) w f = f n

  -- no test is left: every place would lie above itself
  pub passed : ((n q : ℕ) → W q → n ≤ q) → Smallest W None
  passed f = nowhere (λ q w. let k : q + 1 ≤ q = f (q + 1) q w in omega arith)
