use Rattle.std.proofs.Common.{arith}
use Rattle.sending.proofs.Stores.{long, begins}
use Rattle.sending.proofs.parts.Parts.start.Goals as goal

pub offset_bounds-self-inside-i : goal.offset_bounds-self-inside-i
offset_bounds-self-inside-i c = record { fits = omega (arith, long c.self.inside c.self.invariant c.args.self.now c.self.view_is, c.self.invariant.few) }

pub bounds-self-inside-i : goal.bounds-self-inside-i
bounds-self-inside-i c = omega (arith, long c.self.inside c.self.invariant c.args.self.now c.self.view_is, c.self.invariant.few)

pub returns-else-i-eq0 : goal.returns-else-i-eq0
returns-else-i-eq0 c = begins c.self.inside c.self.invariant c.args.self.now c.self.view_is c.args.i (omega arith) c.requires
