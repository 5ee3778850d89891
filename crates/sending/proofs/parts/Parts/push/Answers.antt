use Rattle.std.proofs.Common.{arith, rules}
use Rattle.buffers.proofs.Lays.{laid_from_mid}
use Rattle.sending.proofs.Stores.{one_more}
use Rattle.sending.proofs.parts.Parts.push.Goals as goal

pub invariant_of-self : goal.invariant_of-self
invariant_of-self c =
    (one_more c.self.inside c.self.invariant c.args.self.now c.self.view_is (search rules) c.args.part.now c.requires.few c.requires.room c.end-from.result c.end-from.ensures.end _
    (laid_from_mid _ _ _ _ c.args.part.now c.copy_from_slice.ensures.after (omega arith))).0

pub returns-clause-parts : goal.returns-clause-parts
returns-clause-parts c =
    (one_more c.self.inside c.self.invariant c.args.self.now c.self.view_is (search rules) c.args.part.now c.requires.few c.requires.room c.end-from.result c.end-from.ensures.end _
    (laid_from_mid _ _ _ _ c.args.part.now c.copy_from_slice.ensures.after (omega arith))).1
