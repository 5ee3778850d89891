use Rattle.std.proofs.Common.{◌≡◌, drop}
use Rattle.crc.specs.Crc.{feds}
use Rattle.crc.proofs.crc32_more.Given as goal

-- the bytes that are left lead from here to where all lead from the start
abbrev pub invariant-loop-byte : goal.invariant-loop-byte
invariant-loop-byte l = feds l.now (drop l.byte-index l.bytes) ≡ feds l.register l.bytes
