use Rattle.std.proofs.Common.{◌≡◌, ◌+◌, drop, sym, ◌∙◌, arith}
use Rattle.std.proofs.lemmas.Result.{err_from_is_err_and}
use Rattle.refusal.specs.declared.Refusal.TheVariants.{Tray}
use Rattle.buffers.specs.Places.{shifted}
use Rattle.buffers.proofs.Steps.{clear, done, shifted_none}
use Rattle.tray.proofs.Rows.{row_stop, row_more, row_end_more, row_done}
use Rattle.tray.proofs.Openings.{kept}
use Rattle.tray.proofs.row.Row.end.Goals as goal

pub returns-in_err-read-clause-answer : goal.returns-in_err-read-clause-answer
returns-in_err-read-clause-answer g c =
    let r = err_from_is_err_and c.from_residual.result c.from_residual.ensures.1 in
    kept c.from_residual.result r.0 c.in_err-read.field-0.0 _ _ _ _ r.1 r.2 c.in_err-read.ensures.answer
    (λ q e. sym c.loop.invariant.fault_is ∙ row_stop g.K.Kind.wrong g.K.Kind.size c.args.self.left c.loop.counter c.loop.place q c.args.tray.now c.loop-test.true e)

pub loop-preserved : goal.loop-preserved
loop-preserved g c =
    let t = c.args.tray.now in
    let p = c.loop.place in
    let read = clear Tray (shifted p (g.K.Kind.wrong (drop p t))) _ _ c.in_ok-read.ensures.answer in
    let right = shifted_none p (g.K.Kind.wrong (drop p t)) read.0 in
    let is : c.end-place.result ≡ p + g.K.Kind.size (drop p t) = c.end-place.ensures ∙ c.in_ok-read.ensures.end.0 in
    record {
      within = omega (arith, c.in_ok-read.ensures.end.1, c.end-place.ensures);
      fault_is = sym (row_more g.K.Kind.wrong g.K.Kind.size c.args.self.left c.loop.counter p _ t c.loop-test.true is right) ∙ c.loop.invariant.fault_is;
      end_is = sym (row_end_more g.K.Kind.wrong g.K.Kind.size c.args.self.left c.loop.counter p _ t c.loop-test.true is) ∙ c.loop.invariant.end_is;
    }

pub returns : goal.returns
returns g c =
    let end = row_done g.K.Kind.wrong g.K.Kind.size c.args.self.left c.loop.counter c.loop.place (drop c.loop.place c.args.tray.now) c.loop-test.false in
    record {
      answer = done Tray _ _ _ (sym c.loop.invariant.fault_is ∙ end.0) (sym end.1 ∙ c.loop.invariant.end_is);
      within = c.loop.invariant.within;
    }
