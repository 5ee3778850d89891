use Rattle.std.proofs.Common.{◌≡◌, ◌+◌, ◌-◌, ◌<◌, ◌∷◌, drop, sym, refl, ap, ◌∙◌, arith}
use Rattle.std.specs.Result.{is_ok}
use Rattle.std.proofs.lemmas.Result.{IfOk-at_ok}
use Rattle.refusal.specs.declared.Refusal.TheVariants.{Tray}
use Rattle.buffers.specs.Places.{shifted, told}
use Rattle.buffers.proofs.Steps.{clear}
use Rattle.tray.specs.Rows.{row_ahead}
use Rattle.tray.specs.Entries.{item}
use Rattle.tray.proofs.Rows.{first_right, others_right, ahead_more, ahead_none}
use Rattle.tray.proofs.Openings.{none_from, none_to, accepted}
use Rattle.tray.proofs.row.Row.give.Goals as goal

pub returns-then-self-eq0 : goal.returns-then-self-eq0
returns-then-self-eq0 g c =
    let r = c.args.self.now in
    let none = ahead_none g.K.Kind.entry g.K.Kind.size r.left r.place (drop r.place c.args.tray.now) c.if-self-eq0.true in
    record { gives = record { first = (none, none); right = c.requires.right; fewer = refl } }

pub unwrap-entry-requires : goal.unwrap-entry-requires
unwrap-entry-requires g c =
    let r = c.args.self.now in
    let some : 0 < r.left = omega arith in
    let right = first_right g.K.Kind.wrong g.K.Kind.size r.left r.place (drop r.place c.args.tray.now) some (none_from _ c.requires.right) in
    ap is_ok (accepted item c.read.result _ _ (ap (shifted r.place) right) c.read.ensures.answer).1

pub returns : goal.returns
returns g c =
    let r = c.args.self.now in
    let t = c.args.tray.now in
    let some : 0 < r.left = omega arith in
    let all = none_from _ c.requires.right in
    let read = clear Tray _ _ _ (sym (ap (told item) c.unwrap-entry.ensures) ∙ c.read.ensures.answer) in
    let end = IfOk-at_ok _ c.unwrap-entry.ensures c.read.ensures.end in
    let is : c.end-self.result ≡ r.place + g.K.Kind.size (drop r.place t) = c.end-self.ensures ∙ end.0 in
    record {
      gives = record {
        first = ahead_more g.K.Kind.entry g.K.Kind.size r.left r.place c.end-self.result t some is ∙ ap (λ x. x ∷ row_ahead g.K.Kind.entry g.K.Kind.size (r.left - 1) c.end-self.result (drop c.end-self.result t)) (sym read.1);
        right = none_to _ (others_right g.K.Kind.wrong g.K.Kind.size r.left r.place c.end-self.result t some is all);
        fewer = omega arith;
      };
    }
