use Rattle.runs.proofs.Cases.{meets_the_premise}
use Rattle.runs.proofs.some_run_meets_the_premise.Goals as goal

pub returns : goal.returns
returns c = record { meets = meets_the_premise }
