use Rattle.std.proofs.Common.{length, sym, ap, arith}
use Rattle.std.proofs.lemmas.List.{length-map}
use Rattle.tray.specs.Said.{fault_said}
use Rattle.tray.proofs.Writings.{section_size}
use Rattle.tray.proofs.fault.Faults.section_size.Goals as goal

pub returns-clause-size : goal.returns-clause-size
returns-clause-size c = sym (section_size c.args.self.now c.as_slice.result.now c.as_slice.ensures.faults)

pub returns-clause-few : goal.returns-clause-few
returns-clause-few c = omega (arith, length-map c.as_slice.result.now fault_said, ap length c.as_slice.ensures.faults, c.as_slice.ensures.few)
