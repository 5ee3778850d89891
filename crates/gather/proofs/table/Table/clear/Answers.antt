use Rattle.std.proofs.Common.{◌<◌, ◌≤◌, length, refl, ◌∙◌, arith, length-set}
use Rattle.gather.proofs.Slots.{same_numbers}
use Rattle.gather.proofs.Lists.{cleared_more, cleared_all}
use Rattle.gather.proofs.table.Table.clear.Goals as goal

pub loop-slot-init : goal.loop-slot-init
loop-slot-init c = (refl, refl, c.args.self.now.long)

pub loop-slot-preserved : goal.loop-slot-preserved
loop-slot-preserved c =
    let xs = c.loop-slot.slot-items in
    let i = c.loop-slot.slot-index in
    let s' = c.clear.new.self in
    let within : i < length xs = omega (arith, c.loop-slot.invariant.2, c.loop-slot-test.true) in (
      same_numbers c.args.self.now.used xs i _ s' c.clear.ensures.same ∙ c.loop-slot.invariant.0,
      cleared_more xs i s' within c.clear.ensures.next c.loop-slot.invariant.1,
      length-set xs i s' ∙ c.loop-slot.invariant.2,
    )

pub invariant_of-self : goal.invariant_of-self
invariant_of-self c = record { long = c.loop-slot.invariant.2; few = c.args.self.now.few }

pub returns : goal.returns
returns c =
    let t = c.args.self.now in
    let all : t.used ≤ c.loop-slot.slot-index = omega (arith, t.few, c.loop-slot-test.false) in
    record { next = cleared_all _ c.loop-slot.slot-items t.used c.loop-slot.slot-index all c.loop-slot.invariant.1; same = c.loop-slot.invariant.0 }
