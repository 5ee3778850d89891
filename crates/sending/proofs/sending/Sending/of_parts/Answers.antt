use Rattle.std.proofs.Common.{sym, arith}
use Rattle.sending.specs.Given.{texts}
use Rattle.sending.proofs.Givens.{texts_length, total}
use Rattle.sending.proofs.Rules.{rule_given}
use Rattle.sending.proofs.sending.Sending.of_parts.Goals as goal

pub of-requires-clause-room : goal.of-requires-clause-room
of-requires-clause-room c =
    let n = texts_length c.args.parts.now in
    total (texts c.args.parts.now) (sym c.in_default.ensures) (grind arith)

pub invariant_of-result : goal.invariant_of-result
invariant_of-result c =
    rule_given c.args.number c.args.version c.args.parts.now c.of.result c.in_default.ensures c.if-not_of_a_sending.ensures (omega arith) c.of.ensures.parts c.of.ensures.plain

pub returns-clause-rule : goal.returns-clause-rule
returns-clause-rule c =
    rule_given c.args.number c.args.version c.args.parts.now c.of.result c.in_default.ensures c.if-not_of_a_sending.ensures (omega arith) c.of.ensures.parts c.of.ensures.plain
