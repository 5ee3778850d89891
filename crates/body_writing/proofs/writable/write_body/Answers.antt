use Rattle.std.proofs.Common.{◌≡◌, Ok, Err, ap, ◌∙◌, rules}
use Rattle.std.proofs.lemmas.Result.{err_from_is_err_and}
use Rattle.body.specs.Format.{ones}
use Rattle.body.specs.Reading.{reading}
use Rattle.body_writing.proofs.Writes.{read_back, written_within, never, refuses_first_out}
use Rattle.body_writing.proofs.writable.write_body.Goals as goal

-- what was written is read back, so the second `?` never leaves
pub returns-in_err-check : goal.returns-in_err-check
returns-in_err-check g c =
    let n = c.in_ok-n.n in
    let m = g.K.Kind.said c.args.message.now in
    let read = reading g.K.Format.fault g.K.Format.says in
    let back = read_back read (Ok m) (g.K.Format.wrong m) (g.K.Format.bytes ones m) c.args.out.now c.write.new.out n c.in_ok-n.ensures.answer c.in_ok-n.ensures.output (g.met.K.WritableFormat.back m) in
    absurd (never _ read m c.write.new.out n _ c.in_err-check.ensures.answer back)

pub returns : goal.returns
returns g c =
    let done = c.in_ok-n.ensures in
    let m = g.K.Kind.said c.args.message.now in
    let read = reading g.K.Format.fault g.K.Format.says in
    record {
      answer = done.answer;
      output = done.output;
      within = written_within (g.K.Format.wrong m) (g.K.Format.bytes ones m) c.args.out.now c.in_ok-n.n done.answer;
      back = read_back read (Ok m) (g.K.Format.wrong m) (g.K.Format.bytes ones m) c.args.out.now c.write.new.out c.in_ok-n.n done.answer done.output (g.met.K.WritableFormat.back m);
      refuses = refuses_first_out (g.K.WritableFormat.unfit m) (g.K.Format.wrong m) (g.K.Format.bytes ones m) c.args.out.now (Ok c.in_ok-n.n) done.answer (g.met.K.WritableFormat.smallest m);
    }

-- what the writing refused
pub returns-in_err-n : goal.returns-in_err-n
returns-in_err-n g c =
    let done = c.in_err-n.ensures in
    let r = err_from_is_err_and c.from_residual.result c.from_residual.ensures.1 in
    let is : c.from_residual.result ≡ Err c.in_err-n.field-0.0 = r.1 ∙ ap Err r.2 in
    let m = g.K.Kind.said c.args.message.now in
    record {
      answer = is ∙ done.answer;
      output = done.output;
      within = search rules;
      back = search rules;
      refuses = refuses_first_out (g.K.WritableFormat.unfit m) (g.K.Format.wrong m) (g.K.Format.bytes ones m) c.args.out.now _ (is ∙ done.answer) (g.met.K.WritableFormat.smallest m);
    }
