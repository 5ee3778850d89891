use Rattle.std.proofs.Common.{◌≡◌, ◌∙◌, ap}
use Rattle.std.specs.Fmt.{styled_decimal, decimal}
use Rattle.body.specs.Texts.{zeros_before}
use Rattle.body.proofs.Padding.{padded_zeros}
use Rattle.body.proofs.message.TimeDisplay.fmt.Goals as goal

pub returns-clause-writes : goal.returns-clause-writes
returns-clause-writes g c =
    let n = c.args.self.now.milliseconds in
    let e : styled_decimal c.laid_out.result n ≡ zeros_before 3 (decimal n) = ap (λ s. styled_decimal s n) c.laid_out.ensures ∙ padded_zeros 3 (decimal n) in
    rw e at c.write.ensures.writes
