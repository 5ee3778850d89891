use Rattle.std.proofs.Common.{◌≡◌, ℕ, length, ltb, sym, arith, true, false, ◌∙◌, rules, tests}
use Rattle.std.proofs.lemmas.Bool.{eqb-true, eqb-false}
use Rattle.std.proofs.lemmas.Iterator.{first_from_Range}
use Rattle.gather.specs.Watching.{wrong_at}
use Rattle.gather.proofs.Lists.{wrong_search, ninth, fault_empty, fault_rest}
use Rattle.gather.proofs.watch.fault_of.Goals as goal

pub returns-then-is_empty : goal.returns-then-is_empty
returns-then-is_empty c = sym (fault_empty c.args.watch.now (eqb-true (length c.args.watch.now) 0 (sym c.if-is_empty.ensures)))

pub returns : goal.returns
returns c =
    let ws = c.args.watch.now in
    let some : length ws ≡ 0 → ⊥ = eqb-false (length ws) 0 (sym c.if-is_empty.ensures) in
    let wrong = wrong_search ws (length ws) 0 (length ws) c.find-wrong.result (omega arith) (first_from_Range _ _ _ c.find-wrong.result (λ (k : ℕ). wrong_at ws k ≡ true) (λ (k : ℕ). wrong_at ws k ≡ false) c.find-wrong.ensures.ran (λ x q k. search (rules, tests)) (λ x q k. search (rules, tests))) in
    let last = c.then_some.ensures ∙ ninth (ltb 8 (length ws)) in
    c.or.ensures ∙ rw (wrong, last) (sym (fault_rest ws some))
