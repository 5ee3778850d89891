use Rattle.frame.specs.Groups.{filled}
use Rattle.frame.specs.Model.{groups_want}
use Rattle.frame.proofs.Markings.{Marking}
use Rattle.frame.proofs.frame.OpenFrame.put_each.Given as goal

abbrev pub invariant-loop-i : goal.invariant-loop-i
invariant-loop-i l =
    Marking l.initial.self.size l.initial.self.mark (filled l.initial.self) l.initial.refused (groups_want l.groups) l.i
    l.self.size l.self.mark (filled l.self) l.refused
