use Rattle.std.proofs.Common.{◌≡◌, ℕ, ◌+◌, ◌/◌, ◌<◌, length, get_or, set, sym, ap, ◌∙◌, subst, arith}
use Rattle.std.proofs.lemmas.List.Edits.{fill_by_more}
use Rattle.std.proofs.lemmas.List.FromFn.{fill_by_all}
use Rattle.line.specs.Scales.{palette_levels, palette_bits}
use Rattle.line.specs.Symbols.{symbol_of, symbol_at}
use Rattle.line.proofs.Sizes.{symbol_below, weight_pos}
use Rattle.line.proofs.drawing.fill.Goals as goal

pub symbol_of-requires-clause-place : goal.symbol_of-requires-clause-place
unfolding symbol_at
symbol_of-requires-clause-place c =
    let below = symbol_below (length c.args.line.now) c.loop-i.i c.requires.count c.loop-i-test.true in
    subst (λ (m : ℕ). c.loop-i.i / m < 240) (sym c.weight-width.ensures.answer) below

pub nonzero_div-i : goal.nonzero_div-i
nonzero_div-i c = let some = weight_pos (length c.args.line.now) c.requires.count in omega (arith, c.weight-width.ensures.answer)

pub loop-i-preserved : goal.loop-i-preserved
unfolding symbol_at
loop-i-preserved c =
    let levels = palette_levels c.args.palette.now in
    let f : ℕ → ℕ = λ k. get_or levels (symbol_of (palette_bits c.args.palette.now) c.args.payload.now (symbol_at (length c.args.line.now) k)) 0 in
    let is : f c.loop-i.i ≡ get_or c.levels-levels.result.now c.symbol_of.result 0 =
    ap (λ n. get_or levels (symbol_of (palette_bits c.args.palette.now) c.args.payload.now (c.loop-i.i / n)) 0) (sym c.weight-width.ensures.answer)
    ∙ ap (λ b. get_or levels (symbol_of b c.args.payload.now (c.loop-i.i / c.weight-width.result)) 0) (sym c.bits-bits.ensures.answer)
    ∙ ap (λ v. get_or levels v 0) (sym c.symbol_of.ensures.0) ∙ ap (λ l. get_or l c.symbol_of.result 0) (sym c.levels-levels.ensures.list) in
    subst (λ (x : ℕ). (k : ℕ) → k < c.loop-i.i + 1 → get_or (set c.loop-i.line c.loop-i.i x) k 0 ≡ f k) is
    (fill_by_more f c.loop-i.line c.loop-i.i 0 (omega arith) c.loop-i.invariant)

pub returns : goal.returns
returns c = fill_by_all _ c.loop-i.line (length c.args.line.now) 0 c.loop-i.auto.line (λ k h. c.loop-i.invariant k (omega arith))
