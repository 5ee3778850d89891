-- How long a block of a sending is, and what writing it answers and leaves.
use Rattle.std.specs.Prelude.{ℕ, ◌+◌, cond, List, length, Ok, Err, Result, nat_lt}
use Rattle.refusal.specs.declared.Refusal.{Refusal}
use Rattle.refusal.specs.declared.Refusal.TheVariants.{OutputLength, NotOfASending}
use Rattle.buffers.specs.Laid.{laid}
use Rattle.sending.specs.Sendings.{Sending, block}
use Rattle.wire.specs.Wire.{block_bytes}

-- the length of block i; one above the last counts as a block without body, the shortest there is
unfoldable pub size : Sending → ℕ → ℕ
size s i = length (block_bytes (block s i))

-- the length of block i, refused above the last
unfoldable pub wanted_size : Sending → ℕ → Result ℕ Refusal
wanted_size s i = cond (nat_lt i (length s.parts)) (Ok (size s i)) (Err NotOfASending)

-- what writing block i at a place of n bytes answers: n where it doesn't fit, a refusal above the last, else where it ends
unfoldable pub writing : Sending → ℕ → ℕ → ℕ → Result ℕ Refusal
writing s i at n =
    cond (nat_lt n (at + size s i)) (Err (OutputLength n)) (cond (nat_lt i (length s.parts)) (Ok (at + size s i)) (Err NotOfASending))

-- what it leaves: the block's bytes at the place, and all others as they were; where it is refused, all as it was
unfoldable pub written : Sending → ℕ → ℕ → List ℕ → List ℕ
written s i at out =
    cond (nat_lt (length out) (at + size s i)) out (cond (nat_lt i (length s.parts)) (laid out at (block_bytes (block s i))) out)
