use Rattle.std.proofs.Common.{◌≡◌}
use Rattle.rounds.proofs.Making.{made}
use Rattle.rounds.proofs.systems.new_reader.Goals as goal

pub returns : goal.returns
returns c =
    let d = c.args.depth in
    made (λ s. s.first.levels.depth ≡ d) (λ s. s.second.depth ≡ d) c.one_else_two.result c.one_else_two.ensures.one.0 c.one_else_two.ensures.two c.new.result c.new.ensures.answer
