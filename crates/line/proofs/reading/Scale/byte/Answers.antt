use Rattle.std.proofs.Common.{◌≡◌, ℕ, ◌+◌, ◌*◌, ◌/◌, ◌^◌, ◌<◌, ◌≤◌, length, drop, take, sum, sym, ap, ◌∙◌, subst, arith}
use Rattle.std.proofs.lemmas.List.{length_push}
use Rattle.line.specs.Symbols.{Alphabet, value_of, gathered}
use Rattle.line.proofs.Chunks.{piece_is, piece_left, piece_below, pieces_all}
use Rattle.line.proofs.Sizes.{more_fits, byte_more, byte_full}
use Rattle.line.proofs.reading.Scale.byte.Goals as goal

pub overflow_mul-all : goal.overflow_mul-all
overflow_mul-all c =
    let scale = c.args.self.now in
    let letters : Alphabet scale.bits (length scale.cuts.now + 1) = record { low = scale.values.0; high = scale.values.1; size = scale.values.2 } in
    let m = length c.loop-symbol.yielded in
    let inv = c.loop-symbol.invariant in
    let steps = c.in-Some.ensures.steps in
    let place = piece_below c.args.samples.now _ _ _ m c.args.width (8 / scale.bits) inv.1 steps.1.0 (steps.1.1 ∙ inv.0) c.requires.width.0 c.requires.whole in
    let fits = more_fits scale.bits _ c.loop-symbol.all m 0 letters place inv.4 (omega arith) in
    omega (arith, fits.1)

pub overflow_add-all : goal.overflow_add-all
overflow_add-all c =
    let scale = c.args.self.now in
    let letters : Alphabet scale.bits (length scale.cuts.now + 1) = record { low = scale.values.0; high = scale.values.1; size = scale.values.2 } in
    let m = length c.loop-symbol.yielded in
    let inv = c.loop-symbol.invariant in
    let steps = c.in-Some.ensures.steps in
    let place = piece_below c.args.samples.now _ _ _ m c.args.width (8 / scale.bits) inv.1 steps.1.0 (steps.1.1 ∙ inv.0) c.requires.width.0 c.requires.whole in
    let fits = more_fits scale.bits _ c.loop-symbol.all m c.value.result letters place inv.4 (omega (arith, c.value.ensures.few)) in
    omega (arith, fits.1)

pub overflow_cast-result : goal.overflow_cast-result
overflow_cast-result c =
    let scale = c.args.self.now in
    let inv = c.loop-symbol.invariant in
    omega (arith, inv.4, byte_full scale.bits (length c.loop-symbol.yielded) scale.values.0 scale.values.1 inv.2)

pub loop-symbol-preserved : goal.loop-symbol-preserved
loop-symbol-preserved c =
    let scale = c.args.self.now in
    let letters : Alphabet scale.bits (length scale.cuts.now + 1) = record { low = scale.values.0; high = scale.values.1; size = scale.values.2 } in
    let xs = c.args.samples.now in
    let w = c.args.width in
    let b = c.args.self.now.bits in
    let cuts = c.args.self.now.cuts.now in
    let m = length c.loop-symbol.yielded in
    let inv = c.loop-symbol.invariant in
    let steps = c.in-Some.ensures.steps in
    let size = steps.1.1 ∙ inv.0 in
    let f : ℕ → ℕ = λ t. value_of cuts (2 * sum (take w (drop (t * w) xs))) in
    let place = piece_below xs _ _ _ m w (8 / b) inv.1 steps.1.0 size c.requires.width.0 c.requires.whole in
    let v : c.value.result ≡ f m =
    c.value.ensures.answer ∙ ap (λ s. value_of cuts (2 * s)) (c.total.ensures.sum ∙ ap sum (piece_is xs _ _ _ m w inv.1 steps.1.0 size)) in
    let fits = more_fits b (length cuts + 1) c.loop-symbol.all m c.value.result letters place inv.4 (omega (arith, c.value.ensures.few)) in
    let more = byte_more f b (length cuts + 1) c.loop-symbol.all c.value.result m scale.values.2 inv.3 v in
    subst (λ (n : ℕ). (c.next.new.self.size ≡ w) × (c.next.new.self.rest.now ≡ drop (n * w) xs) × (n ≤ 8 / b) × (c.loop-symbol.all * (length cuts + 1) + c.value.result ≡ gathered (2 ^ b) f n)
    × (c.loop-symbol.all * (length cuts + 1) + c.value.result < 2 ^ (b * n)))
    (sym (length_push c.loop-symbol.yielded c.in-Some.symbol)) (steps.0 ∙ inv.0, piece_left xs _ _ _ m w inv.1 steps.1.0 size, omega arith, more, fits.0)

pub returns : goal.returns
returns c =
    let b = c.args.self.now.bits in
    let m = length c.loop-symbol.yielded in
    let inv = c.loop-symbol.invariant in
    let done = pieces_all c.args.samples.now _ m c.args.width (8 / b) inv.1 (omega (arith, c.in-None.ensures.steps.1.0, inv.0)) c.requires.whole inv.2 in
    inv.3 ∙ ap (gathered (2 ^ b) (λ t. value_of (c.args.self.now.cuts.now) (2 * sum (take c.args.width (drop (t * c.args.width) c.args.samples.now))))) done
