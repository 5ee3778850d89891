use Rattle.std.proofs.Common.{◌≡◌, rules}
use Rattle.system.proofs.Pairs.{same}
use Rattle.system.proofs.first_else.FirstElseClone.clone.Goals as goal

pub returns-in-Ok : goal.returns-in-Ok
returns-in-Ok g c =
    let pair = c.in-Ok.pair in
    let whole : pair.first ≡ c.args.self.now.first → pair.second ≡ c.args.self.now.second → pair ≡ c.args.self.now = same _ _ in
    search rules
