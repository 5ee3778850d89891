-- A sending of given parts, or why there is none.
use Rattle.std.specs.Prelude.{ℕ, ◌+◌, Bool, cond, ◌||◌, List, [], ◌∷◌, map, length, Some, None, Ok, Err, Option, Result, ◌==◌, nat_le, nat_lt}
use Rattle.std.specs.Borrow.{Bor}
use Rattle.refusal.specs.declared.Refusal.{Refusal}
use Rattle.refusal.specs.declared.Refusal.TheVariants.{TooLong, NotOfASending}
use Rattle.sending.specs.Sendings.{Sending}

-- how many bytes part k of n may have: 51, and 47 where it is the last of several
abbrev pub part_limit : ℕ → ℕ → ℕ
part_limit n k = cond (nat_le 2 n) (cond (k + 1 == n) 47 51) 51

-- the length of the first part that is too long, of n parts from the k-th on
abbrev pub first_long : ℕ → ℕ → List (List ℕ) → Option ℕ
first_long n k [] = None
first_long n k (p ∷ ps) = cond (nat_lt (part_limit n k) (length p)) (Some (length p)) (first_long n (k + 1) ps)

-- what lies in given slices
abbrev pub texts : List (Bor (List ℕ)) → List (List ℕ)
texts ps = map (λ x. x.now) ps

-- a number, a version or a count of parts that no sending has
abbrev pub unsuited : ℕ → ℕ → ℕ → Bool
unsuited n v k = n == 0 || (nat_lt 15 v || (k == 0 || nat_lt 4 k))

-- the answer, where the first part that is too long is known
abbrev pub unless_long : Option ℕ → Sending → Result Sending Refusal
unless_long (Some n) s = Err (TooLong n)
unless_long None s = cond (unsuited s.number s.version (length s.parts)) (Err NotOfASending) (Ok s)

-- the sending of given parts: refused where a part is too long, then where number, version or count are none of a sending
abbrev pub of_parts : Sending → Result Sending Refusal
of_parts s = unless_long (first_long (length s.parts) 0 s.parts) s
