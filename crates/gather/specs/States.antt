-- The numbers of a state.
use Rattle.std.specs.Prelude.{ℕ, List, replicate, None, Option}
use Rattle.gather.specs.declared.slot.Part.{Part}
use Rattle.gather.specs.declared.slot.State.{State}
use Rattle.gather.specs.declared.slot.State.TheVariants.{Empty, Gathering}

-- the number of the last part, 0 where nothing is held
abbrev pub last_in : State → ℕ
last_in Empty = 0
last_in (Gathering v l ps) = l

-- the four parts
abbrev pub parts_in : State → List (Option Part)
parts_in Empty = replicate 4 None
parts_in (Gathering v l ps) = ps
