use Rattle.std.proofs.Common.{◌≡◌, ℕ, ◌<◌, length, slice_index}
use Rattle.line.specs.Symbols.{symbol_of, symbol_at}
use Rattle.line.specs.Scales.{palette_bits, palette_levels}
use Rattle.line.proofs.drawing.fill.Given as goal

abbrev pub invariant-loop-i : goal.invariant-loop-i
invariant-loop-i l =
    (k : ℕ) → k < l.i → slice_index l.line k ≡ slice_index (palette_levels l.palette) (symbol_of (palette_bits l.palette) l.payload (symbol_at (length l.initial.line) k))
