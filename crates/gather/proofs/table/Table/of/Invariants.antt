use Rattle.std.proofs.Common.{◌≡◌, map, length, take, replicate}
use Rattle.gather.specs.Gathering.{nothing}
use Rattle.gather.specs.Model.{model}
use Rattle.gather.proofs.Slots.{numbers}
use Rattle.gather.proofs.table.Table.of.Given as goal

abbrev pub invariant-loop-at : goal.invariant-loop-at
invariant-loop-at l =
    (numbers l.at l.slots ≡ take l.at l.watch)
    × (take l.at (map model l.slots) ≡ replicate l.at nothing)
    × (length l.slots ≡ 8)
