use Rattle.runs.proofs.each_call_prolongs_the_past.Goals as goal
use Rattle.runs.proofs.Pasts.{calls_prolong}

pub returns : goal.returns
returns c = record { prolongs = calls_prolong }
