use Rattle.std.proofs.Common.{◌≡◌, ◌*◌, ◌/◌, ◌^◌, ◌<◌, ◌≤◌, length, drop, take, sum}
use Rattle.line.specs.Symbols.{value_of, gathered}
use Rattle.line.proofs.reading.Scale.byte.Given as goal

abbrev pub invariant-loop-symbol : goal.invariant-loop-symbol
invariant-loop-symbol l =
    (l.symbol-iterator.size ≡ l.width) × (l.symbol-iterator.rest.now ≡ drop (length l.yielded * l.width) l.samples) × (length l.yielded ≤ 8 / l.self.bits)
    × (l.all ≡ gathered (2 ^ l.self.bits) (λ t. value_of l.self.cuts.now (2 * sum (take l.width (drop (t * l.width) l.samples)))) (length l.yielded))
    × (l.all < 2 ^ (l.self.bits * length l.yielded))
