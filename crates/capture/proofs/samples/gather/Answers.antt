use Rattle.std.proofs.Common.{◌/◌, length, ◌∙◌, arith}
use Rattle.std.proofs.lemmas.List.FromFn.{fill_by_all}
use Rattle.capture.proofs.samples.gather.Goals as goal

pub returns : goal.returns
returns c = fill_by_all _ c.loop-i.line (length c.args.bytes.now / 2) 0 (c.loop-i.auto.line ∙ c.requires.room) (λ k h. c.loop-i.invariant k (omega arith))
