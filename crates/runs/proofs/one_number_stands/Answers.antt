use Rattle.runs.proofs.one_number_stands.Goals as goal
use Rattle.runs.proofs.Pasts.{number_stands}

pub returns : goal.returns
returns c = record { stands = number_stands }
