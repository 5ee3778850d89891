-- The table's rule, by one computed test of the whole table, and what it makes of one byte more.
use Rattle.std.proofs.Common.{◌≡◌, ℕ, ◌*◌, ◌/◌, ◌^◌, ◌<◌, map, get_or, refl, ap, ◌∙◌, arith}
use Rattle.std.specs.List.{range_with_len}
use Rattle.std.proofs.lemmas.List.FromFn.{get_or-map-range_with_len}
use lib.Bits.{bit_xor, xor_lt}
use Rattle.crc.specs.Crc.{times, shifted}
use Rattle.crc.specs.declared.TheConstants.{TABLE}
use Rattle.crc.proofs.Linear.{fed_split}
use Rattle.crc.proofs.feed.Goals as goal

-- what eight shifts make of k in the top byte
entry : ℕ → ℕ
entry k = times 8 shifted (k * 2 ^ 24)

table_right : TABLE ≡ map entry (range_with_len 0 256)
unfolding entry shifted
table_right = refl

pub returns : goal.returns
unfolding entry
returns c =
    let top = bit_xor (c.args.register / 2 ^ 24) c.args.byte in
    let h : top < 256 = xor_lt 8 (c.args.register / 2 ^ 24) c.args.byte (omega arith) (omega arith) in
    fed_split c.args.register c.args.byte _ (omega arith) (omega arith) (ap (λ xs. get_or xs top 0) table_right ∙ get_or-map-range_with_len entry 0 256 top top 0 h (omega arith))
