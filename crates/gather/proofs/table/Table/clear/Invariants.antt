use Rattle.std.proofs.Common.{◌≡◌, map, length, take, replicate}
use Rattle.gather.specs.Gathering.{nothing}
use Rattle.gather.specs.Model.{model}
use Rattle.gather.proofs.Slots.{numbers}
use Rattle.gather.proofs.table.Table.clear.Given as goal

abbrev pub invariant-loop-slot : goal.invariant-loop-slot
invariant-loop-slot l =
    (numbers l.fn.self.used l.slot-items ≡ numbers l.fn.self.used l.fn.self.slots)
    × (take l.slot-index (map model l.slot-items) ≡ replicate l.slot-index nothing)
    × (length l.slot-items ≡ 8)
