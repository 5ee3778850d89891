use Rattle.twox.specs.Apart.{none_in_two}
use Rattle.twox.proofs.order.OneXYieldsTwoX.yields.Goals as goal

pub returns : goal.returns
returns c = record { apart = λ line p k. none_in_two c.args.to.now.depth c.args.self.now.levels.depth line p k }
