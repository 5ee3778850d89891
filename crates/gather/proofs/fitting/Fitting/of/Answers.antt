use Rattle.std.proofs.Common.{arith}
use Rattle.std.proofs.lemmas.Bool.Decides.{nat_tests}
use Rattle.gather.specs.Watching.{fits_slot}
use Rattle.gather.proofs.fitting.Fitting.of.Goals as goal

pub returns-then-block-most-clause-some : goal.returns-then-block-most-clause-some
unfolding fits_slot
returns-then-block-most-clause-some c = grind (arith, nat_tests)

pub returns-else-block-2-clause-some : goal.returns-else-block-2-clause-some
unfolding fits_slot
returns-else-block-2-clause-some c = grind (arith, nat_tests)
