use Rattle.std.specs.Prelude.{◌+◌, ◌≤◌, length}
use Rattle.std.proofs.Common.{◌∙◌, sym, arith}
use Rattle.std.proofs.lemmas.Bool.{cond-true, le-leb}
use Rattle.buffers.proofs.Lays.{laid_from_mid}
use Rattle.buffers.proofs.lay.Goals as goal

pub returns-clause-out : goal.returns-clause-out
returns-clause-out c =
    let fits : c.args.at + length c.args.bytes.now ≤ length c.args.out.now = omega arith in
    laid_from_mid _ _ _ _ c.args.bytes.now c.copy_from_slice.ensures.after (omega arith) ∙ sym (cond-true _ _ _ (le-leb _ _ fits))
