use Rattle.std.proofs.Common.{eqb, take, ◌∙◌, rules, tests}
use Rattle.std.proofs.lemmas.Iterator.{YieldsList-from_slice}
use Rattle.std.proofs.lemmas.Iterator.Search.{position_from_yields_List}
use Rattle.gather.specs.declared.slot.Slot.{Slot}
use Rattle.gather.proofs.Slots.{position_numbers}
use Rattle.gather.proofs.table.Table.index.Goals as goal

pub returns : goal.returns
returns c =
    let self = c.args.self.now in
    position_from_yields_List (λ (s : Slot). eqb s.number c.args.number) _ _ c.position.result c.position.ensures.ran (YieldsList-from_slice (take self.used self.slots) (search rules)) (λ x b q k. search (rules, tests))
    ∙ position_numbers c.args.number (take self.used self.slots)
