use Rattle.std.proofs.Common.{◌≡◌, length, sym, ap, ◌∙◌, subst}
use Rattle.line.specs.Lines.{draw_answer, draw_line}
use Rattle.frame.specs.Frames.{SealedOver}
use Rattle.frame.proofs.Bytes.{drawable}
use Rattle.frame.proofs.frame.SealedFrame.draw.Goals as goal

pub returns-clause-carried : goal.returns-clause-carried
returns-clause-carried g c ok =
    let s = c.args.system.now in
    let p = c.args.self.now in
    let n = length c.args.line.now in
    let L = g.L.LineSystem in
    let e : c.payload.result.now ≡ p = c.payload.ensures.payload in
    let a : c.draw.result ≡ draw_answer (L.draws s) p n = c.draw.ensures.answer ∙ ap (λ q. draw_answer (L.draws s) q n) e in
    let l : c.draw.new.line ≡ draw_line c.draw.result (L.drawn s p n) c.args.line.now = c.draw.ensures.line ∙ ap (λ q. draw_line c.draw.result (L.drawn s q n) c.args.line.now) e in
    let d = drawable (L.draws s) p n tt (subst SealedOver e c.payload.ensures.sealed) (sym ok ∙ a) in
    let is : c.draw.new.line ≡ L.drawn s p n = l ∙ ap (λ r. draw_line r (L.drawn s p n) c.args.line.now) ok in
    subst (λ q. L.carries s q p) (sym is) (g.met.L.LineSystem.drawing s p n d.1 d.0)

pub returns-clause-sealed : goal.returns-clause-sealed
returns-clause-sealed g c = subst SealedOver c.payload.ensures.payload c.payload.ensures.sealed
