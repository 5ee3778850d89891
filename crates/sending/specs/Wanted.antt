-- Which part and which block of a sending is meant.
use Rattle.std.specs.Prelude.{ℕ, cond, List, length, Ok, Err, Option, Result, nat_lt}
use Rattle.std.specs.List.{slice_get}
use Rattle.refusal.specs.declared.Refusal.{Refusal}
use Rattle.refusal.specs.declared.Refusal.TheVariants.{NotOfASending}
use Rattle.sending.specs.Sendings.{Sending, Block, block}

-- part i, if there is one
abbrev pub wanted_part : Sending → ℕ → Option (List ℕ)
wanted_part s i = slice_get s.parts i

-- block i, refused above the last
unfoldable pub wanted : Sending → ℕ → Result Block Refusal
wanted s i = cond (nat_lt i (length s.parts)) (Ok (block s i)) (Err NotOfASending)
