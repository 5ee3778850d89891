use Rattle.std.proofs.Common.{◌≡◌, ◌≤◌, length, take}
use Rattle.line.specs.Symbols.{value_of}
use Rattle.line.proofs.symbols.value.Given as goal

abbrev pub invariant-loop-cut : goal.invariant-loop-cut
invariant-loop-cut l = (l.cut-index ≤ length l.cuts) × (l.n ≡ value_of (take l.cut-index l.cuts) l.twice) × (l.n ≤ l.cut-index)
