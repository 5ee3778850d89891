use Rattle.onex.proofs.Narrow.{bears_three, bears_no_four}
use Rattle.onex.proofs.tolerance.closest_levels_bear_three.Goals as goal

pub returns : goal.returns
returns c = record { bears = (bears_three, bears_no_four) }
