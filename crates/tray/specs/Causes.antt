-- The numbers of a cause.
use Rattle.std.specs.Prelude.{ℕ, cond, ◌==◌}
use Rattle.walk.specs.Fields.{cause_number}
use Rattle.tray.specs.declared.cause.Cause.{Cause}
use Rattle.tray.specs.declared.cause.Cause.TheVariants.{Block, Message}

-- a cause as a tray holds it: its layer, 1 block or 2 message, and its number there
abbrev pub numbers : Cause → ℕ × ℕ
numbers (Block cause) = (1, cause_number cause)
numbers Message = (2, 1)

-- the largest number at a layer: a block has four causes, a message one
abbrev pub most_cause : ℕ → ℕ
most_cause layer = cond (layer == 1) 4 1
