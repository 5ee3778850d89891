-- A fault of the code, in the words of a tray.
use Rattle.tray.specs.declared.fault.Fault as code
use Rattle.tray.specs.Trays as value

abbrev pub fault_said : code.Fault → value.Fault
fault_said f = record { layer = f.layer; cause = f.cause; number = f.number; place = f.place }
