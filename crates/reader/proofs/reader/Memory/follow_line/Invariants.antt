use Rattle.std.proofs.Common.{◌≡◌}
use Rattle.std.specs.List.{AllByRecursion}
use Rattle.walk.specs.Entries.{entries}
use Rattle.walk.specs.Steps.{ahead}
use Rattle.gather.specs.Model.{watching, gathered}
use Rattle.reader.specs.Entered.{Good}
use Rattle.reader.specs.Following.{Progress, follow_all, at_start}
use Rattle.reader.specs.Stands.{Stands}
use Rattle.reader.proofs.Lines.{Left}
use Rattle.reader.proofs.reader.Memory.follow_line.Given as goal

abbrev pub invariant-loop-entry : goal.invariant-loop-entry
invariant-loop-entry l =
    (watching l.self.table ≡ watching l.initial.self.table)
    × (l.self.floor ≡ l.initial.self.floor)
    × ((p : Progress)
    × Stands l.initial.tray l.tray l.progress (gathered l.self.table) p
    × (follow_all (watching l.initial.self.table) l.initial.self.floor (ahead l.entry-iterator) p ≡ follow_all (watching l.initial.self.table) l.initial.self.floor (entries l.payload) (at_start (gathered l.initial.self.table)))
    × AllByRecursion Good (ahead l.entry-iterator)
    × Left p (ahead l.entry-iterator))
