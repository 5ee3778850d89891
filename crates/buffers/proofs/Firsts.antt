-- The first wrong place of tests in order is the smallest, put together part by part.
use Rattle.std.proofs.Common.{◌≡◌, ℕ, ◌+◌, ◌≤◌, Bool, true, false, ◌⊎◌, None, Option, refl, inl, inr, arith}
use Rattle.buffers.specs.Places.{wrong, part, or_else, shifted, Smallest, at, nowhere}

-- one test, and its one place
pub smallest_wrong : (t : Bool) (p : ℕ) → Smallest (λ q. (t ≡ true) × (q ≡ p)) (wrong t p)
smallest_wrong true p = at p (refl, refl) (λ q w. omega (arith, w.1))
smallest_wrong false p = nowhere (λ q w. let z : ◌≡◌ {A = ℕ} 0 1 = cc w.0 in omega arith)

-- no test at all
pub smallest_none : Smallest (λ q. ⊥) None
smallest_none = nowhere (λ q w. w)

-- a part's places, all of them at or below those of the tests that follow
pub smallest_either : (V W : ℕ → Type 0) (o q : Option ℕ) → Smallest V o → Smallest W q → ((x y : ℕ) → V x → W y → x ≤ y) → Smallest (λ p. V p ⊎ W p) (or_else o q)
smallest_either V W _ q (at p v h) s f = at p (inl v) (λ y e. elim e [ inl w ↦ h y w | inr w ↦ f p y v w ])
smallest_either V W _ _ (nowhere n) (at p w h) f = at p (inr w) (λ y e. elim e [ inl v ↦ absurd (n y v) | inr u ↦ h y u ])
smallest_either V W _ _ (nowhere n) (nowhere m) f = nowhere (λ y e. elim e [ inl v ↦ n y v | inr u ↦ m y u ])

-- the same places in other words
pub smallest_same : (V W : ℕ → Type 0) (o : Option ℕ) → Smallest V o → ((p : ℕ) → V p → W p) → ((p : ℕ) → W p → V p) → Smallest W o
smallest_same V W _ (at p v h) f g = at p (f p v) (λ q w. h q (g q w))
smallest_same V W _ (nowhere n) f g = nowhere (λ q w. n q (g q w))

-- the places of a part that begins at n
pub smallest_shifted : (V : ℕ → Type 0) (n : ℕ) (o : Option ℕ) → Smallest V o → Smallest (λ q. (i : ℕ) × (V i × (q ≡ n + i))) (shifted n o)
smallest_shifted V n _ (at p v h) = at (n + p) (p, (v, refl)) (λ q w. omega (arith, h w.0 w.1.0, w.1.1))
smallest_shifted V n _ (nowhere m) = nowhere (λ q w. m w.0 w.1.0)

-- a part that is there only sometimes
pub smallest_part : (V : ℕ → Type 0) (t : Bool) (o : Option ℕ) → Smallest V o → Smallest (λ q. (t ≡ true) × V q) (part t o)
smallest_part V true _ (at p v h) = at p (refl, v) (λ q w. h q w.1)
smallest_part V true _ (nowhere n) = nowhere (λ q w. n q w.1)
smallest_part V false o s = nowhere (λ q w. let z : ◌≡◌ {A = ℕ} 0 1 = cc w.0 in omega arith)
