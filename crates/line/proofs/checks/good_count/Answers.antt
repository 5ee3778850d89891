use Rattle.std.proofs.Common.{rules}
use Rattle.line.specs.Lines.{good_count}
use Rattle.line.proofs.checks.good_count.Goals as goal

pub returns-then-count-ge-SYMBOLS : goal.returns-then-count-ge-SYMBOLS
unfolding good_count
returns-then-count-ge-SYMBOLS c = search rules

pub returns-else-count-ge-SYMBOLS : goal.returns-else-count-ge-SYMBOLS
unfolding good_count
returns-else-count-ge-SYMBOLS c = search rules

pub returns-else-count-eq0 : goal.returns-else-count-eq0
unfolding good_count
returns-else-count-eq0 c = search rules
