use Rattle.std.proofs.Common.{◌≡◌, length, ap, ◌∙◌, arith}
use Rattle.std.proofs.lemmas.List.{take_all}
use Rattle.sending.specs.Storage.{joint}
use Rattle.sending.proofs.Stores.{long, joint_short}
use Rattle.sending.proofs.parts.Parts.end.Goals as goal

pub start-requires : goal.start-requires
start-requires c = omega (arith, long c.self.inside c.self.invariant c.args.self.now c.self.view_is)

pub returns : goal.returns
returns c =
    let ps = c.args.self.now in
    let l = long c.self.inside c.self.invariant ps c.self.view_is in
    let end : c.start.result ≡ length (joint ps) = c.start.ensures ∙ ap (λ qs. length (joint qs)) (take_all c.self.inside.count ps (omega arith)) in
    record { end = end; room = omega (arith, end, joint_short c.self.inside c.self.invariant ps c.self.view_is) }
