use Rattle.std.proofs.Common.{sym}
use Rattle.sending.proofs.Stores.{long}
use Rattle.sending.proofs.parts.Parts.count.Goals as goal

pub returns : goal.returns
returns c = sym (long c.self.inside c.self.invariant c.args.self.now c.self.view_is)
