-- The place of what is wrong: tests in the order of their places, and the first that fails counts.
use Rattle.std.specs.Prelude.{ℕ, ◌+◌, ◌<◌, ◌≤◌, Bool, true, false, List, [], ◌∷◌, Some, None, Ok, Err, Option, Result, slice_index}

-- every number of the list is a byte
abbrev pub Bytes : List ℕ → Type 0
Bytes xs = (i : ℕ) → slice_index xs i < 256

-- a test that says wrong: its place where it does, none where it does not
abbrev pub wrong : Bool → ℕ → Option ℕ
wrong true p = Some p
wrong false p = None

-- the wrong place of a part that is there only sometimes
abbrev pub part : Bool → Option ℕ → Option ℕ
part true p = p
part false p = None

-- the first of two wrong places
abbrev pub or_else : Option ℕ → Option ℕ → Option ℕ
or_else (Some p) q = Some p
or_else None q = q

-- the first wrong place of tests in order
abbrev pub first : List (Option ℕ) → Option ℕ
first [] = None
first (p ∷ ps) = or_else p (first ps)

-- an index in a part that begins at p, as a place of the whole
abbrev pub shifted : ℕ → Option ℕ → Option ℕ
shifted p (Some i) = Some (p + i)
shifted p None = None

-- a value that is there only sometimes
abbrev pub present : {A : Type 0} → Bool → A → Option A
present true x = Some x
present false x = None

-- the refusal of a wrong place, else the value
abbrev pub unless : {A E : Type 0} → (ℕ → E) → Option ℕ → A → Result A E
unless refuse (Some p) x = Err (refuse p)
unless refuse None x = Ok x

-- an answer, with what a value says in place of the value
abbrev pub told : {A B E : Type 0} → (A → B) → Result A E → Result B E
told f (Ok x) = Ok (f x)
told f (Err e) = Err e

-- the smallest of the places at which something is wrong, or none where nothing is
pub data Smallest (W : ℕ → Type 0) : Option ℕ → Type 0 where
  at : (p : ℕ) → W p → ((q : ℕ) → W q → p ≤ q) → Smallest W (Some p)
  nowhere : ((q : ℕ) → W q → ⊥) → Smallest W None
