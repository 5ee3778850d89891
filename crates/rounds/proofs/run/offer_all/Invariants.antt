use Rattle.std.proofs.Common.{◌≡◌, ◌≤◌}
use Rattle.reader.specs.Answers.{told}
use Rattle.reader.specs.Calls.{setting, state}
use Rattle.rounds.proofs.Rounding.{Stands}
use Rattle.rounds.proofs.run.offer_all.Given as goal

abbrev pub invariant-loop-round : goal.invariant-loop-round
invariant-loop-round g l =
    (l.round ≤ l.rounds)
    × (setting g.L.LineSystem l.reader ≡ setting g.L.LineSystem l.initial.reader)
    × Stands (setting g.L.LineSystem l.initial.reader) (state l.initial.reader) l.line l.initial.tray l.round (state l.reader) l.tray (told l.last)
