use Rattle.std.proofs.Common.{◌<◌, ◌≤◌, length, refl, sym, ap, ◌∙◌, arith, rules}
use Rattle.sending.specs.Model.{means}
use Rattle.gather.specs.Gathering.{Answer}
use Rattle.gather.specs.Model.{model, watching, gathered}
use Rattle.gather.specs.Serving.{written}
use Rattle.gather.proofs.Slots.{length_numbers, same_numbers, found_first, found_none, found_slot, is_watched, changed}
use Rattle.gather.proofs.Serves.{means_reply, fits_out, slot_answer, slot_out, slot_next, absent_answer, absent_reply, absent_next}
use Rattle.gather.proofs.table.Table.arrive.Goals as goal

pub returns-in-Some : goal.returns-in-Some
returns-in-Some c =
    let self = c.args.self.now in
    let b = means c.args.block.now in
    let t = c.args.frame in
    let u = self.used in
    let xs = self.slots in
    let i = c.in-Some.i in
    let s' = c.serve.new.self in
    let out = c.args.out.now in
    let long : u ≤ length xs = omega (arith, self.long, self.few) in
    let at = found_first b.number (watching self) i (sym c.in-Some.ensures) in
    let within : i < u = omega (arith, at.0, length_numbers u xs long) in
    let is = is_watched u xs i b.number within long at.1 in
    let found = found_slot u xs i b.number within long at.1 _ in
    let answer = c.serve.ensures.answer ∙ slot_answer (watching self) t b (gathered self) _ is found in
    let after = c.serve.ensures.out ∙ slot_out (watching self) t b (gathered self) _ is found out in
    record {
      answer = answer;
      message = means_reply (watching self) t b (gathered self) _ out _ answer after;
      short = fits_out (watching self) t b (gathered self) _ out _ answer after (search rules);
      out = after;
      next = slot_next (watching self) t b (gathered self) _ is found _ (model s') c.serve.ensures.next (changed u xs i b.number within long at.1 _ s' c.serve.ensures.same);
      same = same_numbers u xs i _ s' c.serve.ensures.same;
    }

pub returns-in-None : goal.returns-in-None
returns-in-None c =
    let self = c.args.self.now in
    let b = means c.args.block.now in
    let t = c.args.frame in
    let is = found_none b.number (watching self) (sym c.in-None.ensures) in
    let silent = absent_reply (watching self) t b (gathered self) is in
    record {
      answer = absent_answer (watching self) t b (gathered self) is;
      message = silent;
      short = tt;
      out = ap (λ (a : Answer). written a c.args.out.now) silent;
      next = absent_next (watching self) t b (gathered self) is;
      same = refl;
    }
