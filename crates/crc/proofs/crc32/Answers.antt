use Rattle.crc.specs.Crc.{crc}
use Rattle.crc.proofs.crc32.Goals as goal

pub returns : goal.returns
unfolding crc
returns c = record { answer = c.crc32_more.ensures.answer }
