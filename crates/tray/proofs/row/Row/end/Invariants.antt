use Rattle.std.proofs.Common.{◌≡◌, ◌-◌, ◌≤◌, length, drop}
use Rattle.tray.specs.Rows.{row_fault, row_end}
use Rattle.tray.proofs.row.Row.end.Given as goal

abbrev pub invariant-loop : goal.invariant-loop
invariant-loop g l = record {
  within : l.place ≤ length l.tray;
  fault_is : row_fault g.K.Kind.wrong g.K.Kind.size (l.fn.self.left - l.counter) l.place (drop l.place l.tray) ≡ row_fault g.K.Kind.wrong g.K.Kind.size l.fn.self.left l.fn.self.place (drop l.fn.self.place l.tray);
  end_is : row_end g.K.Kind.size (l.fn.self.left - l.counter) l.place (drop l.place l.tray) ≡ row_end g.K.Kind.size l.fn.self.left l.fn.self.place (drop l.fn.self.place l.tray);
}
