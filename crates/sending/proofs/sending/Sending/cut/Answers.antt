use Rattle.std.proofs.Common.{List, ℕ, Ok, sym, ◌∙◌, subst, arith}
use Rattle.std.proofs.lemmas.Bool.{cond-true, cond-false}
use Rattle.sending.specs.Sendings.{IsSending}
use Rattle.sending.specs.Given.{unsuited}
use Rattle.sending.specs.Storage.{Plain}
use Rattle.sending.specs.Cuts.{room_bytes, IsCut}
use Rattle.sending.proofs.Pieces.{is_cut, cut_long, cut_rest, cut_rule}
use Rattle.sending.proofs.sending.Sending.cut.Goals as goal

pub returns-then-message-fits_into-clause-answer : goal.returns-then-message-fits_into-clause-answer
returns-then-message-fits_into-clause-answer c = cut_long (room_bytes c.args.room) c.args.number c.args.version c.args.message.now (omega arith)

pub returns-then-not_of_a_sending-clause-answer : goal.returns-then-not_of_a_sending-clause-answer
returns-then-not_of_a_sending-clause-answer c =
    sym (cut_rest (room_bytes c.args.room) c.args.number c.args.version c.args.message.now (omega arith)
    ∙ cond-true (unsuited c.args.number c.args.version 1) _ _ (sym c.if-not_of_a_sending.ensures))

pub returns-clause-answer : goal.returns-clause-answer
returns-clause-answer c =
    (λ j. Ok (record { number = c.args.number; version = c.args.version; parts = c.cut.ensures.parts j }))
    ∙ sym (cut_rest (room_bytes c.args.room) c.args.number c.args.version c.args.message.now (omega arith) ∙ cond-false (unsuited c.args.number c.args.version 1) _ _ (sym c.if-not_of_a_sending.ensures))

pub returns-clause-cut_is_smallest : goal.returns-clause-cut_is_smallest
returns-clause-cut_is_smallest c =
    subst (IsCut (room_bytes c.args.room) c.args.message.now) (sym c.cut.ensures.parts) (is_cut (room_bytes c.args.room) c.args.message.now (omega arith))

pub invariant_of-result : goal.invariant_of-result
invariant_of-result c =
    let k = room_bytes c.args.room in
    let m = c.args.message.now in
    subst (λ (qs : List (List ℕ)). IsSending (record { number = c.args.number; version = c.args.version; parts = qs })) (sym c.cut.ensures.parts)
    (cut_rule c.args.room c.args.number c.args.version m (omega arith) (sym c.if-not_of_a_sending.ensures) (omega arith) (subst Plain c.cut.ensures.parts c.cut.ensures.plain))
