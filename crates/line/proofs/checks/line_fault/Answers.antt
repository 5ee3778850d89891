use Rattle.std.proofs.Common.{sym, arith}
use Rattle.line.proofs.Legal.{line_legal, most_each}
use Rattle.line.proofs.checks.line_fault.Goals as goal

pub returns-then-largest_sample-unit : goal.returns-then-largest_sample-unit
returns-then-largest_sample-unit c =
    let line = c.args.line.now in
    record {
      answer = sym (line_legal c.args.depth line (sym c.if-not-good_count.ensures.answer)
          (λ i h. let each = most_each line 0 i h in let unit = c.unit.ensures.answer in let most = c.largest_sample.ensures in omega (arith, c.if-largest_sample-unit.true)));
    }
