use Rattle.std.proofs.Common.{◌≡◌, ℕ, ◌<◌, ◌≤◌, length, sym, ap, ◌∙◌, arith}
use Rattle.std.proofs.lemmas.List.{take_all, length-set}
use Rattle.gather.proofs.Slots.{numbers}
use Rattle.gather.proofs.Lists.{cleared_more, cleared_all, numbers_more}
use Rattle.gather.proofs.table.Table.of.Goals as goal

pub loop-at-preserved : goal.loop-at-preserved
loop-at-preserved c =
    let xs = c.loop-at.slots in
    let ws = c.args.watch.now in
    let i = c.loop-at.at in
    let s' = c.new.result in
    let within : i < length xs = omega (arith, c.requires, c.loop-at.invariant.2, c.loop-at-test.true) in (
      numbers_more xs ws i s' within c.loop-at-test.true c.new.ensures.number c.loop-at.invariant.0,
      cleared_more xs i s' within c.new.ensures.next c.loop-at.invariant.1,
      length-set xs i s' ∙ c.loop-at.invariant.2,
    )

pub invariant_of-result : goal.invariant_of-result
invariant_of-result c = record { long = c.loop-at.invariant.2; few = c.requires }

pub returns : goal.returns
returns c =
    let xs = c.loop-at.slots in
    let ws = c.args.watch.now in
    let i = c.loop-at.at in
    let all : i ≡ length ws = omega arith in
    let most : length ws ≤ i = omega arith in
    record {
      watch = ap (λ (n : ℕ). numbers n xs) (sym all) ∙ c.loop-at.invariant.0 ∙ take_all i ws most;
      next = cleared_all _ xs (length ws) i most c.loop-at.invariant.1;
    }
