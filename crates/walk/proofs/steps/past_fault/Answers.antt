use Rattle.std.proofs.Common.{sym, ap, ◌∙◌, arith}
use Rattle.std.proofs.lemmas.Bool.Decides.{nat_tests}
use Rattle.walk.specs.Entries.{finishes}
use Rattle.walk.proofs.Scans.{fits}
use Rattle.walk.proofs.steps.past_fault.Goals as goal

pub size_by_count-requires : goal.size_by_count-requires
size_by_count-requires c =
    let e = ap finishes (sym c.requires) ∙ sym c.if-ends_line.ensures in
    omega (arith, fits c.args.rest.now (λ i. grind (arith, nat_tests)))
