use Rattle.std.proofs.Common.{◌<◌, ◌≤◌, [], length, get_or, Some, sym, ap, ◌∙◌, arith}
use Rattle.sending.specs.Given.{part_limit, first_long, texts}
use Rattle.sending.proofs.Givens.{long_here, long_next, text_at, texts_length, nowhere}
use Rattle.sending.proofs.given.too_long.Goals as goal

pub returns-then-part-limit : goal.returns-then-part-limit
returns-then-part-limit c =
    let ps = c.args.parts.now in
    let n = texts_length ps in
    let t = text_at ps c.loop-i.i nowhere c.loop-i-test.true in
    let i : c.loop-i.i < length (texts ps) = omega (arith, n, c.loop-i-test.true) in
    let l : part_limit (length ps) c.loop-i.i < length (get_or (texts ps) c.loop-i.i []) = omega (arith, ap length t, c.if-part-limit.true, c.limit.ensures) in
    ap (λ x. Some (length x)) (sym t) ∙ sym (long_here (length ps) c.loop-i.i (texts ps) i l) ∙ sym c.loop-i.invariant ∙ ap (λ m. first_long m 0 (texts ps)) (sym n)

pub loop-i-preserved : goal.loop-i-preserved
loop-i-preserved c =
    let ps = c.args.parts.now in
    let t = text_at ps c.loop-i.i nowhere c.loop-i-test.true in
    let i : c.loop-i.i < length (texts ps) = omega (arith, texts_length ps, c.loop-i-test.true) in
    let l : length (get_or (texts ps) c.loop-i.i []) ≤ part_limit (length ps) c.loop-i.i = omega (arith, ap length t, c.if-part-limit.false, c.limit.ensures) in
    c.loop-i.invariant ∙ long_next (length ps) c.loop-i.i (texts ps) i l
