-- How long the pieces of a block are.
use Rattle.std.proofs.Common.{◌≡◌, ℕ, ◌+◌, ◌-◌, ◌≤◌, length, Some, None, Option, arith}
use Rattle.std.proofs.lemmas.List.{length-append}
use Rattle.sending.specs.Sendings.{Block}
use Rattle.wire.specs.Wire.{check_bytes, count, head, covered, block_bytes}

pub length_check : (k : Option ℕ) → length (check_bytes k) ≤ 4
length_check None = omega arith
length_check (Some w) = omega arith

pub length_covered : (b : Block) → length (covered b) ≡ 3 + length b.body + length (check_bytes b.check)
unfolding covered head
length_covered b = simp length-append (omega arith)

pub length_block : (b : Block) → length (block_bytes b) ≡ 7 + length b.body + length (check_bytes b.check)
unfolding block_bytes covered head
length_block b = simp length-append (omega arith)

pub count_is : (b : Block) → count b ≡ length (block_bytes b) - 2
unfolding count
count_is b = omega (arith, length_block b)
