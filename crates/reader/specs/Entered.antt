-- Entries that a payload of at most 60 bytes can have: places, numbers and causes in range, and blocks that a slot can take.
use Rattle.std.specs.Prelude.{◌≤◌, length}
use Rattle.sending.specs.Sendings.{Block}
use Rattle.walk.specs.Entries.{Item, read, fault}
use Rattle.gather.specs.Watching.{most_bytes}

-- a block that a slot can take
pub record Small (b : Block) : Type 0 where
  pub number_stands : (1 ≤ b.number) × (b.number ≤ 255)
  pub version_stands : b.version ≤ 15
  pub part_stands : b.part ≤ b.last
  pub last_stands : b.last ≤ 3
  pub length_stands : length b.body ≤ most_bytes b.part b.last

-- an entry in range
abbrev pub Good : Item → Type 0
Good (read place b) = (2 ≤ place) × (place ≤ 59) × Small b
Good (fault place cause number) = (2 ≤ place) × (place ≤ 59) × (1 ≤ cause) × (cause ≤ 4) × (1 ≤ number)
