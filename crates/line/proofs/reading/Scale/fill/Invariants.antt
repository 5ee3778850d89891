use Rattle.std.proofs.Common.{◌≡◌, ℕ, ◌+◌, ◌*◌, ◌/◌, ◌^◌, ◌<◌, slice_index}
use Rattle.line.specs.Symbols.{gathered, value_of, level_at}
use Rattle.line.proofs.reading.Scale.fill.Given as goal

abbrev pub invariant-loop-j : goal.invariant-loop-j
invariant-loop-j l =
    (k : ℕ) → k < l.j → slice_index l.payload k ≡ gathered (2 ^ l.self.bits) (λ t. value_of l.self.cuts.now (2 * level_at l.self.line.now (k * (8 / l.self.bits) + t))) (8 / l.self.bits)
