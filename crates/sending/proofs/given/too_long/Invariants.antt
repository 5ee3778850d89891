use Rattle.std.proofs.Common.{◌≡◌, length, drop}
use Rattle.sending.specs.Given.{first_long, texts}
use Rattle.sending.proofs.given.too_long.Given as goal

-- none so far is too long
abbrev pub invariant-loop-i : goal.invariant-loop-i
invariant-loop-i l = first_long (length l.parts) 0 (texts l.parts) ≡ first_long (length l.parts) l.i (drop l.i (texts l.parts))
