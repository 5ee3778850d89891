use Rattle.std.proofs.Common.{◌+◌, ◌<◌, length, take, is_some, ap, sym, ◌∙◌, arith, rules, tests}
use Rattle.std.proofs.lemmas.Iterator.{YieldsList-from_slice}
use Rattle.std.proofs.lemmas.Iterator.Search.{all_from_yields_List}
use Rattle.gather.specs.States.{last_in, parts_in}
use Rattle.gather.specs.declared.slot.State.{State}
use Rattle.gather.specs.Gathering.{full}
use Rattle.gather.specs.Model.{slot_in}
use Rattle.gather.proofs.Joins.{all_full}
use Rattle.gather.proofs.slot.Slot.is_full.Goals as goal

pub returns-in-Gathering : goal.returns-in-Gathering
returns-in-Gathering c =
    let g = c.in-Gathering in
    let self = c.args.self.now in
    let few = ap last_in g.is in
    let four = ap length (ap parts_in g.is) in
    let within : g.last < length g.parts = omega (arith, few, four, self.few, self.four) in
    all_from_yields_List is_some _ _ c.all.result c.all.ensures.ran (YieldsList-from_slice (take (g.last + 1) g.parts) (search rules)) (λ x b q k. search (rules, tests))
    ∙ all_full g.last g.parts self.bytes within
    ∙ ap (λ (z : State). full (slot_in z self.bytes).last (slot_in z self.bytes).held) (sym g.is)
