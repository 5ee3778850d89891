use Rattle.std.proofs.Common.{rules, tests, ◌≡◌, ◌≢◌, ℕ, ◌*◌}
use Rattle.std.proofs.lemmas.Iterator.{cases_from_all, YieldsList-from_slice}
use Rattle.std.proofs.lemmas.Iterator.Consumers.{YieldsList-from_enumerate}
use Rattle.line.specs.Symbols.{value_of, level_at}
use Rattle.twox.specs.TwoX.{two_run}
use Rattle.twox.proofs.RunIn.{runs_decided}
use Rattle.twox.proofs.cuts.run_in.Goals as goal

pub returns : goal.returns
returns c =
    let f : ℕ → ℕ = λ k. value_of c.args.cuts.now (2 * level_at c.args.line.now k) in
    runs_decided f two_run c.all.result
    (cases_from_all _ _ _ (λ p. f p.0 ≡ p.1) (λ p. f p.0 ≢ p.1) c.all.ensures.ran (YieldsList-from_enumerate (YieldsList-from_slice two_run cc) cc) (λ x q k. search (rules, tests)) (λ x q k. search (rules, tests)))
