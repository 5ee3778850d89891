use Rattle.std.proofs.Common.{◌*◌, ◌++◌, drop, refl, ap, ◌∙◌}
use Rattle.line.specs.declared.reading.Cuts.TheVariants.{One, Three}
use Rattle.line.specs.Symbols.{level_at, value_of, payload_of}
use Rattle.line.proofs.Gathers.{gathered_done}
use Rattle.line.proofs.reading.gather.Goals as goal

pub returns-in-One-clause-payload : goal.returns-in-One-clause-payload
returns-in-One-clause-payload c =
    let S = level_at c.args.line.now in
    let wrote = c.gather.ensures.payload ∙ ap (λ l. payload_of 1 (λ k. value_of l (2 * S k)) ++ drop 30 c.args.payload.now) c.from_ref-cuts.ensures.value in
    (gathered_done c.args.cuts.now (One c.in-One.cut) S c.args.payload.now c.gather.new.payload 30 c.in-One.is c.if-payload-lt-PAYLOAD_ROOM.false refl wrote).1

pub returns-in-Three-clause-payload : goal.returns-in-Three-clause-payload
returns-in-Three-clause-payload c =
    (gathered_done c.args.cuts.now (Three c.in-Three.cuts) (level_at c.args.line.now) c.args.payload.now c.gather-in-Three.new.payload 60
    c.in-Three.is c.if-payload-lt-PAYLOAD_ROOM.false refl c.gather-in-Three.ensures.payload).1
