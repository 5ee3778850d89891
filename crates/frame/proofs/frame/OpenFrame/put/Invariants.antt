use Rattle.std.proofs.Common.{◌≡◌}
use Rattle.frame.specs.Model.{wants}
use Rattle.frame.proofs.Puts.{Going}
use Rattle.frame.proofs.frame.OpenFrame.put.Given as goal

abbrev pub invariant-loop-i : goal.invariant-loop-i
invariant-loop-i l = record {
  going : Going l.initial.guard.fill.now.size l.initial.bytes l.old (wants l.group) l.i l.guard.fill.now.mark l.bytes;
  size_same : l.guard.fill.now.size ≡ l.initial.guard.fill.now.size;
}
