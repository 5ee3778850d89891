use Rattle.std.proofs.Common.{◌≡◌, length, is_some, ap, sym, ◌∙◌, rules, tests}
use Rattle.std.proofs.lemmas.Iterator.{YieldsList-from_slice}
use Rattle.std.proofs.lemmas.Iterator.Consumers.{YieldsList-from_filter, count_from_yields_List}
use Rattle.gather.specs.States.{parts_in}
use Rattle.gather.specs.declared.slot.State.{State}
use Rattle.gather.specs.Model.{slot_in}
use Rattle.gather.specs.Serving.{parts_held}
use Rattle.gather.proofs.Counts.{count_four}
use Rattle.gather.proofs.slot.Slot.count.Goals as goal

pub returns-in-Gathering : goal.returns-in-Gathering
returns-in-Gathering c =
    let g = c.in-Gathering in
    let self = c.args.self.now in
    let four : length g.parts ≡ 4 = sym (ap length (ap parts_in g.is)) ∙ self.four in
    count_from_yields_List c.filter.result c.count.result c.count.ensures.ran (YieldsList-from_filter _ is_some (YieldsList-from_slice g.parts (search rules)) c.filter.ensures.closure (λ x b q k. search (rules, tests)))
    ∙ count_four g.parts self.bytes four
    ∙ ap (λ (z : State). parts_held (slot_in z self.bytes)) (sym g.is)
