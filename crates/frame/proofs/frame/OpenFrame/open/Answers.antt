use Rattle.std.proofs.Common.{arith}
use Rattle.std.proofs.lemmas.Bool.Decides.{nat_tests}
use Rattle.frame.specs.Marking.{frame_length, opening}
use Rattle.frame.proofs.frame.OpenFrame.open.Goals as goal

pub returns-then-not-contains-clause-answer : goal.returns-then-not-contains-clause-answer
unfolding opening frame_length
returns-then-not-contains-clause-answer c = grind (arith, nat_tests)

pub returns-clause-answer : goal.returns-clause-answer
unfolding opening frame_length
returns-clause-answer c = grind (arith, nat_tests)
