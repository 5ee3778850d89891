use Rattle.std.proofs.Common.{sym, arith, rules}
use Rattle.line.proofs.Sizes.{count_parts, weight_good, weight_bad}
use Rattle.line.proofs.symbols.weight.Goals as goal

pub overflow_cast-result : goal.overflow_cast-result
overflow_cast-result c = let parts = count_parts c.args.count (sym c.if-good_count.ensures.answer) in search rules

pub returns-then-good_count : goal.returns-then-good_count
returns-then-good_count c =
    let ok = sym c.if-good_count.ensures.answer in
    let parts = count_parts c.args.count ok in
    record { answer = sym (weight_good c.args.count ok); small = omega arith }

pub returns-else-good_count : goal.returns-else-good_count
returns-else-good_count c = record { answer = sym (weight_bad c.args.count (sym c.if-good_count.ensures.answer)); small = omega arith }
