use Rattle.std.proofs.Common.{◌∙◌}
use Rattle.gather.proofs.Lists.{wrong_else}
use Rattle.gather.proofs.watch.is_wrong.Goals as goal

pub returns-else-watch-at-eq0 : goal.returns-else-watch-at-eq0
returns-else-watch-at-eq0 c = c.contains.ensures.value ∙ wrong_else c.args.watch.now c.args.at c.if-watch-at-eq0.false
