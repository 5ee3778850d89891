use Rattle.std.proofs.Common.{◌≡◌, length}
use Rattle.gather.specs.Model.{model}
use Rattle.gather.proofs.Joins.{front}
use Rattle.gather.proofs.slot.Slot.joined.Given as goal

abbrev pub invariant-loop-k : goal.invariant-loop-k
invariant-loop-k l = l.joined ≡ front (length l.yielded) (model l.self).held
