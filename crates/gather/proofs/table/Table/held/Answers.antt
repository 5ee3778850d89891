use Rattle.std.proofs.Common.{◌<◌, ◌≤◌, length, Some, sym, ap, ◌∙◌, arith}
use Rattle.gather.specs.Model.{watching, gathered}
use Rattle.gather.proofs.Slots.{length_numbers, found_first, found_none, found_slot, is_watched}
use Rattle.gather.proofs.Counts.{held_watched, held_absent}
use Rattle.gather.proofs.table.Table.held.Goals as goal

pub returns-in_err-i : goal.returns-in_err-i
returns-in_err-i c =
    let self = c.args.self.now in
    let none = found_none c.args.number (watching self) (sym c.index.ensures ∙ c.in_err-i.was) in
    record { answer = c.from_residual.ensures ∙ held_absent (watching self) (gathered self) c.args.number none }

pub returns : goal.returns
returns c =
    let self = c.args.self.now in
    let u = self.used in
    let xs = self.slots in
    let n = c.args.number in
    let i = c.in_ok-i.i in
    let long : u ≤ length xs = omega (arith, self.long, self.few) in
    let at = found_first n (watching self) i (sym c.index.ensures ∙ c.in_ok-i.was) in
    let within : i < u = omega (arith, at.0, length_numbers u xs long) in
    record {
      answer = ap Some c.count.ensures ∙ held_watched (watching self) (gathered self) n _ (is_watched u xs i n within long at.1) (found_slot u xs i n within long at.1 _);
    }
