use Rattle.std.proofs.Common.{◌≡◌, vec_items}
use Rattle.reader.specs.Calls.{setting, state}
use Rattle.replay.proofs.Turns.{Sofar}
use Rattle.replay.proofs.run.apply_all.Given as goal

abbrev pub invariant-loop-call : goal.invariant-loop-call
invariant-loop-call g l =
    (setting g.L.LineSystem l.reader ≡ setting g.L.LineSystem l.initial.reader)
    × Sofar (setting g.L.LineSystem l.initial.reader) (state l.initial.reader) (state l.reader) l.calls (vec_items l.outcomes) l.call-index
