use Rattle.std.proofs.Common.{length, Ok, Err, sym, ap, ◌∙◌}
use Rattle.std.proofs.lemmas.Result.{err_from_is_err_and}
use Rattle.wire.specs.Wire.{block_bytes}
use Rattle.wire.proofs.Writings.{wanted_ok, wanted_err, size_is, length_none, length_some}
use Rattle.wire.proofs.write.block_length.Goals as goal

pub returns-in_err-block : goal.returns-in_err-block
returns-in_err-block c =
    let s = c.args.sending.now in
    let w = wanted_err s c.args.i c.in_err-block.field-0.0 c.in_err-block.ensures.block in
    let r = err_from_is_err_and c.from_residual.result c.from_residual.ensures.1 in
    record { answer = r.1 ∙ ap Err (r.2 ∙ w.1) ∙ length_none s c.args.i w.0; rule = c.in_err-block.ensures.rule }

pub returns : goal.returns
returns c =
    let s = c.args.sending.now in
    let w = wanted_ok s c.args.i c.in_ok-block.block c.in_ok-block.ensures.block in
    record { answer = ap Ok (c.length.ensures ∙ ap (λ b. length (block_bytes b)) w.1 ∙ sym (size_is s c.args.i)) ∙ length_some s c.args.i w.0; rule = c.in_ok-block.ensures.rule }
