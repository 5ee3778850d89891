use Rattle.std.proofs.Common.{◌≡◌, ◌+◌, ◌-◌, ◌≤◌, length, Ok, Err, sym, refl, ap, ◌∙◌, arith, rules}
use Rattle.std.proofs.lemmas.List.{length-take-le, length-drop}
use Rattle.std.proofs.lemmas.Result.{err_from_is_err_and}
use Rattle.buffers.specs.Laid.{laid}
use Rattle.buffers.proofs.Lays.{laid_from_mid}
use Rattle.wire.specs.Wire.{block_bytes}
use Rattle.wire.proofs.Writings.{wanted_ok, wanted_err, size_is, size_some, size_found, write_short, write_above, write_fits}
use Rattle.wire.proofs.write.write_block.Goals as goal

pub returns-then-saturating_sub-size : goal.returns-then-saturating_sub-size
returns-then-saturating_sub-size c =
    let s = c.args.sending.now in
    let z = size_found s c.args.i c.block_length.result c.unwrap_or-size.result c.block_length.ensures.answer c.unwrap_or-size.ensures in
    let r = write_short s c.args.i c.args.at c.args.out.now (omega (arith, c.saturating_sub.ensures, size_some s c.args.i)) in
    record { answer = r.0; out = r.1; of_a_sending = tt; rule = c.block_length.ensures.rule }

pub returns-in_err-block : goal.returns-in_err-block
returns-in_err-block c =
    let s = c.args.sending.now in
    let z = size_found s c.args.i c.block_length.result c.unwrap_or-size.result c.block_length.ensures.answer c.unwrap_or-size.ensures in
    let w = wanted_err s c.args.i c.in_err-block.field-0.0 c.in_err-block.ensures.block in
    let r = err_from_is_err_and c.from_residual.result c.from_residual.ensures.1 in
    let a = write_above s c.args.i c.args.at c.args.out.now (omega (arith, c.saturating_sub.ensures, size_some s c.args.i)) w.0 in
    record { answer = r.1 ∙ ap Err (r.2 ∙ w.1) ∙ a.0; out = a.1; of_a_sending = rw r.1 tt; rule = c.block_length.ensures.rule }

pub slice_bounds-write-end : goal.slice_bounds-write-end
slice_bounds-write-end c =
    let s = c.args.sending.now in
    let z = size_found s c.args.i c.block_length.result c.unwrap_or-size.result c.block_length.ensures.answer c.unwrap_or-size.ensures in
    let some = size_some s c.args.i in
    let fits : c.args.at + c.unwrap_or-size.result ≤ length c.args.out.now = omega (arith, c.saturating_sub.ensures) in
    search rules

pub write-requires : goal.write-requires
write-requires c =
    let s = c.args.sending.now in
    let z = size_found s c.args.i c.block_length.result c.unwrap_or-size.result c.block_length.ensures.answer c.unwrap_or-size.ensures in
    let w = wanted_ok s c.args.i c.in_ok-block.block c.in_ok-block.ensures.block in
    let k : c.args.at + c.unwrap_or-size.result - c.args.at ≡ c.unwrap_or-size.result = omega arith in
    length-take-le _ _ (omega (arith, length-drop c.args.at c.args.out.now, c.saturating_sub.ensures, size_some s c.args.i))
    ∙ k ∙ z ∙ size_is s c.args.i ∙ ap (λ b. length (block_bytes b)) (sym w.1)

pub returns : goal.returns
returns c =
    let s = c.args.sending.now in
    let z = size_found s c.args.i c.block_length.result c.unwrap_or-size.result c.block_length.ensures.answer c.unwrap_or-size.ensures in
    let w = wanted_ok s c.args.i c.in_ok-block.block c.in_ok-block.ensures.block in
    let n : c.args.at + c.unwrap_or-size.result - c.args.at ≡ length (block_bytes c.in_ok-block.block) =
    omega (arith, z, size_is s c.args.i, ap (λ b. length (block_bytes b)) w.1) in
    let f = write_fits s c.args.i c.args.at c.args.out.now (omega (arith, c.saturating_sub.ensures, size_some s c.args.i)) w.0 in
    record {
      answer = ap (λ n. Ok (c.args.at + n)) z ∙ f.0;
      out = laid_from_mid c.args.at _ c.args.out.now c.write.new.place (block_bytes c.in_ok-block.block) c.write.ensures n ∙ ap (λ b. laid c.args.out.now c.args.at (block_bytes b)) w.1 ∙ f.1;
      of_a_sending = (c.in_ok-block.ensures.rule, (c.args.i, w.0, refl));
      rule = c.in_ok-block.ensures.rule;
    }
