use Rattle.std.proofs.Common.{◌++◌, length, ap, ◌∙◌, arith}
use Rattle.crc.specs.Crc.{crc}
use Rattle.wire.specs.Wire.{block_bytes, word_bytes}
use Rattle.wire.proofs.Wires.{length_block, length_covered}
use Rattle.wire.proofs.block.WireBlock.write.Goals as goal

pub overflow_sub-place : goal.overflow_sub-place
overflow_sub-place c = omega (arith, c.requires, length_block c.args.self.now)

pub write_covered-requires : goal.write_covered-requires
write_covered-requires c = omega (arith, c.requires, c.split_at_mut-covered.ensures.front_len, length_block c.args.self.now, length_covered c.args.self.now)

pub copy_from_slice-requires : goal.copy_from_slice-requires
copy_from_slice-requires c = omega (arith, c.requires, c.split_at_mut-covered.ensures.back_len, length_block c.args.self.now, ap length c.to_be_bytes.ensures)

pub returns : goal.returns
unfolding block_bytes
returns c =
    let word = c.copy_from_slice.ensures.after ∙ c.to_be_bytes.ensures ∙ ap word_bytes (c.crc32.ensures.answer ∙ ap crc c.write_covered.ensures) in
    (λ j. c.write_covered.ensures j ++ word j)
