use Rattle.std.proofs.Common.{◌≡◌, ℕ, ◌<◌, length, set, refl, ap, ◌∙◌, arith, rules}
use Rattle.sending.specs.Model.{means}
use Rattle.gather.specs.Model.{slot_in}
use Rattle.gather.proofs.Keeps.{kept_is, few_kept, four_kept}
use Rattle.gather.proofs.slot.Slot.keep.Goals as goal

pub invariant_of-self : goal.invariant_of-self
invariant_of-self c =
    let b = means c.args.fitting.now.block in
    let old = c.args.self.now in
    let part = c.args.fitting.now in
    record {
      few = few_kept part.frame b old.state _ _ _ part.few c.renew.ensures c.note.ensures;
      four = four_kept part.frame b old.state _ _ _ old.four c.renew.ensures c.note.ensures;
    }

pub returns : goal.returns
returns c =
    let fitting = c.args.fitting.now in
    let b = means fitting.block in
    let old = c.args.self.now in
    let long : length old.bytes ≡ 4 = search rules in
    let within : b.part < length old.bytes = omega (arith, fitting.part) in
    let four : b.part < 4 = omega (arith, fitting.part) in
    record {
      number = refl;
      parts =
          ap (λ (k : ℕ). slot_in c.note.new.self (set old.bytes k c.put_body.new.bytes)) c.place.ensures.place
          ∙ kept_is fitting.frame b old.bytes old.state c.renew.new.self c.note.new.self _ c.put_body.new.bytes within four refl fitting.fits c.put_body.ensures c.renew.ensures old.four c.note.ensures;
    }
