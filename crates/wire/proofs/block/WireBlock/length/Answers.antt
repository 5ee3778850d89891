use Rattle.std.proofs.Common.{length, ap, arith}
use Rattle.sending.specs.Model.{means}
use Rattle.wire.specs.Wire.{check_bytes, block_bytes}
use Rattle.wire.proofs.Wires.{length_block}
use Rattle.wire.proofs.block.WireBlock.length.Goals as goal

pub returns-in-None : goal.returns-in-None
returns-in-None c =
    omega (arith, length_block (means c.self.inside.block), ap (λ k. length (check_bytes k)) c.in-None.is, ap (λ b. length (block_bytes b)) c.self.view_is)

pub returns-in-Some : goal.returns-in-Some
returns-in-Some c =
    omega (arith, length_block (means c.self.inside.block), ap (λ k. length (check_bytes k)) c.in-Some.is, ap (λ b. length (block_bytes b)) c.self.view_is)
