use Rattle.std.proofs.Common.{sym, subst}
use Rattle.sending.specs.Model.{means}
use Rattle.wire.specs.Wire.{Fits}
use Rattle.wire.proofs.Writings.{wanted_ok, fits}
use Rattle.wire.proofs.block.WireBlock.of.Goals as goal

pub invariant_of-result : goal.invariant_of-result
invariant_of-result c =
    let s = c.args.sending.now in
    let w = wanted_ok s c.args.i (means c.in_ok-block.block) c.in_ok-block.ensures.answer in
    subst Fits (sym w.1) (fits s c.args.i c.in_ok-block.ensures.rule w.0)
