use Rattle.std.proofs.Common.{◌<◌, length, ap, arith}
use Rattle.sending.specs.Given.{texts}
use Rattle.sending.specs.Storage.{joint}
use Rattle.sending.proofs.Givens.{text_at, texts_length, nowhere, room_next}
use Rattle.sending.proofs.parts.Parts.of.Goals as goal

pub push-requires-clause-room : goal.push-requires-clause-room
push-requires-clause-room c =
    let ps = texts c.args.parts.now in
    let i = c.loop-part.part-index in
    let h : i < length ps = omega (arith, texts_length c.args.parts.now, c.loop-part-test.true) in
    omega (arith, room_next ps i h, ap length (text_at c.args.parts.now i nowhere c.loop-part-test.true), ap (λ qs. length (joint qs)) c.loop-part.invariant.same, c.requires.room)
