use Rattle.std.proofs.Common.{◌≡◌, ◌+◌, ◌*◌, ◌∷◌, map, take, length}
use Rattle.std.specs.List.{flat_map}
use Rattle.buffers.specs.Laid.{laid}
use Rattle.tray.specs.Trays.{fault_bytes}
use Rattle.tray.specs.Said.{fault_said}
use Rattle.tray.proofs.put.put_faults.Given as goal

abbrev pub invariant-loop-fault : goal.invariant-loop-fault
invariant-loop-fault l = record {
  end_is : l.end ≡ l.fn.at + (1 + 4 * l.fault-index);
  tray_is : l.tray ≡ laid l.fn.tray l.fn.at (length l.faults ∷ flat_map fault_bytes (map fault_said (take l.fault-index l.faults)));
}
