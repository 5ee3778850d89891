use Rattle.std.proofs.Common.{◌≡◌, ◌∙◌, ap}
use Rattle.std.specs.Fmt.{styled_decimal, decimal}
use Rattle.showing.specs.Texts.{blanks_before}
use Rattle.showing.proofs.Padding.{padded_blanks}
use Rattle.showing.proofs.printed.HeadDisplay.fmt.Goals as goal

pub returns-clause-writes : goal.returns-clause-writes
returns-clause-writes g c =
    let n = c.args.self.now.0.number in
    let v = c.args.self.now.0.version in
    let number : styled_decimal c.laid_out.result n ≡ blanks_before 3 (decimal n) = ap (λ s. styled_decimal s n) c.laid_out.ensures ∙ padded_blanks 3 (decimal n) in
    let version : styled_decimal c.laid_out-2.result v ≡ blanks_before 2 (decimal v) = ap (λ s. styled_decimal s v) c.laid_out-2.ensures ∙ padded_blanks 2 (decimal v) in
    rw version at (rw number at c.write.ensures.writes)
