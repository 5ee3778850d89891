use Rattle.std.proofs.Common.{◌∙◌, arith}
use Rattle.reader.specs.Answers.{told}
use Rattle.reader.specs.Calls.{setting, state}
use Rattle.reader.specs.Settings.{setting_of}
use Rattle.rounds.proofs.Rounding.{stands_on}
use Rattle.rounds.proofs.run.offer_all.Goals as goal

pub loop-round-preserved : goal.loop-round-preserved
loop-round-preserved g c =
    let L = g.L.LineSystem in
    let first = c.args.reader.now in
    let here = c.loop-round.reader in
    let inv = c.loop-round.invariant in
    let e = c.offer-last.ensures in (
      omega arith,
      (λ i. setting_of (L.depth (e.same.0 i)) (L.found (e.same.0 i)) (e.same.1 i)) ∙ inv.1,
      stands_on (setting L first) (state first) c.args.line.now c.args.tray.now c.loop-round.round (state here) c.loop-round.tray (told c.loop-round.last)
          (setting L here) inv.1 (state c.offer-last.new.self) c.offer-last.new.tray (told c.offer-last.result) e.next e.tray e.answer inv.2,
    )
