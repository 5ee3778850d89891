use Rattle.std.proofs.Common.{◌≡◌, ◌+◌, ◌<◌, ◌≤◌, length, Err, refl, ap, ◌∙◌, arith, rules}
use Rattle.std.proofs.lemmas.Result.{err_from_is_err_and}
use Rattle.frame.specs.Groups.{size_of}
use Rattle.frame.specs.Model.{want}
use Rattle.frame.proofs.Tries.{size_ok, tried_above, tried_past, tried_fits, never_refused, ends_at, is_laid}
use Rattle.frame.proofs.frame.Fill.put_block.Goals as goal

pub returns-in_err-length-clause-answer : goal.returns-in_err-length-clause-answer
returns-in_err-length-clause-answer c =
    let p = err_from_is_err_and c.from_residual.result c.from_residual.ensures.1 in
    p.1 ∙ ap Err p.2 ∙ tried_above c.args.self.now.size c.args.self.now.mark c.args.i (want c.args.wanted.now) c.in_err-length.field-0.0 c.in_err-length.ensures.answer

pub returns-then-length-self-clause-answer : goal.returns-then-length-self-clause-answer
returns-then-length-self-clause-answer c =
    let f = c.args.self.now in
    let w = want c.args.wanted.now in
    let s = size_ok f.size f.mark c.args.i w c.in_ok-length.length c.in_ok-length.ensures.answer in
    let k : f.size < f.mark + size_of w = omega (arith, s.1) in
    tried_past f.size f.mark c.args.i w s.0 k

pub returns-in_err-self : goal.returns-in_err-self
returns-in_err-self c =
    let f = c.args.self.now in
    let w = want c.args.wanted.now in
    let s = size_ok f.size f.mark c.args.i w c.in_ok-length.length c.in_ok-length.ensures.answer in
    let l : length c.args.bytes.now ≡ 60 = search rules in
    let k : f.mark + size_of w ≤ length c.args.bytes.now = omega (arith, s.1) in
    absurd (never_refused f.size f.mark c.args.i w c.args.bytes.now s.0 k c.in_err-self.field-0.0 c.in_err-self.ensures.answer)

pub returns : goal.returns
returns c =
    let f = c.args.self.now in
    let w = want c.args.wanted.now in
    let s = size_ok f.size f.mark c.args.i w c.in_ok-length.length c.in_ok-length.ensures.answer in
    let l : length c.args.bytes.now ≡ 60 = search rules in
    let n : f.mark + size_of w ≤ f.size = omega (arith, s.1) in
    let k : f.mark + size_of w ≤ length c.args.bytes.now = omega arith in
    let e = ends_at f.size f.mark c.args.i w c.args.bytes.now s.0 k c.in_ok-self.field-0 c.in_ok-self.ensures.answer in
    record {
      answer = tried_fits f.size f.mark c.args.i w s.0 n;
      effect = record {
        bytes = c.in_ok-self.ensures.out ∙ is_laid f.size f.mark c.args.i w c.args.bytes.now s.0 k;
        mark = e;
        size = refl;
        within = omega arith;
        sent = (w.sending, c.in_ok-self.ensures.of_a_sending);
      };
    }
