use Rattle.std.proofs.Common.{ap}
use Rattle.body_writing.specs.Outputs.{or_nothing}
use Rattle.body_writing.proofs.Lay.{nothing_laid}
use Rattle.body_writing.proofs.laying.lay_part.Goals as goal

pub returns-in-None : goal.returns-in-None
returns-in-None g c = nothing_laid c.args.at c.args.out.now (or_nothing c.args.part) (ap or_nothing c.in-None.is)
