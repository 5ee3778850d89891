use Rattle.std.proofs.Common.{take, ap, ◌∙◌}
use Rattle.sending.proofs.Stores.{joint_there}
use Rattle.sending.proofs.parts.Parts.joined.Goals as goal

pub returns : goal.returns
returns c = ap (λ k. take k c.self.inside.bytes) c.end-end.ensures.end ∙ joint_there c.self.inside c.self.invariant c.args.self.now c.self.view_is
