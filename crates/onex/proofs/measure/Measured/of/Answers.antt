use Rattle.std.proofs.Common.{rules, arith, ℕ, ◌*◌, ◌≤◌}
use Rattle.std.specs.List.{All}
use Rattle.std.proofs.lemmas.List.Elements.{All-from_get_or}
use Rattle.line.specs.Symbols.{level_at}
use Rattle.line.proofs.Levels.{level_small}
use Rattle.onex.specs.OneX.{zero_places, one_places}
use Rattle.onex.specs.Folds.{largest_le, smallest_le}
use Rattle.onex.proofs.measure.Measured.of.Goals as goal

pub invariant_of-result : goal.invariant_of-result
invariant_of-result c =
    let line = c.args.line.now in
    let all : All (λ x. x ≤ 65535) line = All-from_get_or (λ x. x ≤ 65535) line 0 (λ i h. let fits = c.type_inv.line i in search rules) in
    let each : (k : ℕ) → level_at line k ≤ 40 * 65535 = λ k. level_small line k all in
    record {
      small = (
        omega (arith, c.largest.ensures, largest_le (level_at line) 0 (40 * 65535) zero_places (omega arith) (λ i h. each _)),
        omega (arith, c.smallest.ensures, smallest_le (level_at line) (level_at line 0) one_places 0 (omega arith), each 0),
      );
    }
