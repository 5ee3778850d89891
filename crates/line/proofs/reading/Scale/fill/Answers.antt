use Rattle.std.proofs.Common.{◌≡◌, ℕ, ◌+◌, ◌-◌, ◌*◌, ◌/◌, ◌^◌, ◌<◌, length, take, drop, set, get_or, sym, ap, ◌∙◌, subst, add-mul, arith}
use Rattle.std.proofs.lemmas.List.Edits.{fill_by_more}
use Rattle.std.proofs.lemmas.List.FromFn.{fill_by_all}
use Rattle.line.specs.Symbols.{gathered, value_of, level_at}
use Rattle.line.proofs.Chunks.{byte_inside, byte_read, byte_count}
use Rattle.line.proofs.Sizes.{weight_pos, weight_whole}
use Rattle.line.proofs.reading.Scale.fill.Goals as goal

pub slice_bounds-byte-end : goal.slice_bounds-byte-end
slice_bounds-byte-end c =
    let line = c.args.self.now.line.now in
    let scale = c.args.self.now in
    let w = c.weight-width.ensures.answer in
    omega (arith, byte_inside scale.bits scale.values.0 scale.values.1 c.loop-j.j c.weight-width.result (omega (arith, c.loop-j-test.true, c.requires.whole)), weight_whole (length line) c.args.self.now.count)

pub byte-requires-clause-width : goal.byte-requires-clause-width
byte-requires-clause-width c =
    let some = weight_pos (length c.args.self.now.line.now) c.args.self.now.count in
    (omega (arith, c.weight-width.ensures.answer), c.weight-width.ensures.small)

pub loop-j-preserved : goal.loop-j-preserved
loop-j-preserved c =
    let line = c.args.self.now.line.now in
    let b = c.args.self.now.bits in
    let cuts = c.args.self.now.cuts.now in
    let w = c.weight-width.result in
    let j = c.loop-j.j in
    let f : ℕ → ℕ = λ k. gathered (2 ^ b) (λ t. value_of cuts (2 * level_at line (k * (8 / b) + t))) (8 / b) in
    let size : ℕ = 8 / b * w in
    let long : (j + 1) * size - j * size ≡ size = omega (arith, add-mul j 1 size) in
    let piece : take ((j + 1) * size - j * size) (drop (j * size) line) ≡ take (8 / b * w) (drop (j * (8 / b * w)) line) =
    ap (λ n. take n (drop (j * size) line)) long in
    let is : c.byte.result ≡ f j = c.byte.ensures ∙ byte_read (2 ^ b) line _ cuts j w (8 / b) c.weight-width.ensures.answer piece in
    subst (λ (x : ℕ). (k : ℕ) → k < j + 1 → get_or (set c.loop-j.payload j x) k 0 ≡ f k) (sym is) (fill_by_more f c.loop-j.payload j 0 (omega arith) c.loop-j.invariant)

pub returns : goal.returns
returns c =
    let scale = c.args.self.now in
    let all : length c.loop-j.payload ≡ 240 / (8 / scale.bits) = c.loop-j.auto.payload ∙ c.requires.whole ∙ byte_count scale.bits scale.values.0 scale.values.1 in
    fill_by_all _ c.loop-j.payload (240 / (8 / scale.bits)) 0 all (λ k h. c.loop-j.invariant k (omega arith))
