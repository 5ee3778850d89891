use Rattle.std.proofs.Common.{length, rules}
use Rattle.line.specs.Lines.{line_fault}
use Rattle.system.proofs.Trip.{trip}
use Rattle.system.proofs.round_trip.round_trip.Goals as goal

pub returns : goal.returns
returns g c =
    let s = c.args.system.now in
    let p = c.args.payload.now in
    let old = c.args.line.now in
    let L = g.L.LineSystem in
    let law = g.met.L.LineSystem in
    let t = trip (L.draws s) p old c.draw.new.line (L.drawn s p (length old)) _ (line_fault (L.depth s)) (L.found s) c.read.result c.args.back.now c.read.new.payload
    c.type_inv.payload (search rules) c.in_ok-draw.ensures.answer c.in_ok-draw.ensures.line
    (λ ok d. let k = law.drawing s p (length old) d ok in (law.legal s _ p k, law.reading s _ p k))
    c.read.ensures.answer c.read.ensures.payload
    in
    record { answer = t.answer; line = t.line; back = t.back }
