-- What frames hold: EB 52, then blocks of sendings in a row, and zeros once the frame is sealed.
use Rattle.std.specs.Prelude.{◌≡◌, ℕ, ◌≤◌, List, ◌∷◌, ◌++◌, length}
use Rattle.std.specs.List.{flat_map, AllByRecursion}
use Rattle.sending.specs.Sendings.{Block}
use Rattle.wire.specs.Wire.{block_bytes}
use Rattle.walk.specs.Laws.{OfASending, payload_of}

-- the wire forms of blocks, one behind the other
abbrev pub wires : List Block → List ℕ
wires bs = flat_map block_bytes bs

-- the bytes up to a frame's mark are EB 52 and the wire forms of these blocks, each a block of a sending
pub record Holds (filled : List ℕ) (bs : List Block) : Type 0 where
  pub each : AllByRecursion OfASending bs
  pub bytes : filled ≡ 235 ∷ 82 ∷ wires bs

-- a payload of 2 to 60 bytes is EB 52, the wire forms of these blocks, each a block of a sending, and zeros
pub record Sealed (payload : List ℕ) (bs : List Block) : Type 0 where
  pub each : AllByRecursion OfASending bs
  pub zeros : ℕ
  pub bytes : payload ≡ payload_of 235 82 bs zeros
  pub least : 2 ≤ length payload
  pub most : length payload ≤ 60

-- whatever blocks were held before, they are held after, and these behind them
abbrev pub Grows : List ℕ → List ℕ → List Block → Type 0
Grows before after gs = (bs : List Block) → Holds before bs → Holds after (bs ++ gs)

-- a payload is sealed over whatever blocks were held
abbrev pub Seals : List ℕ → List ℕ → Type 0
Seals filled payload = (bs : List Block) → Holds filled bs → Sealed payload bs

-- the bytes up to a mark hold some blocks of sendings, and nothing else
abbrev pub Filled : List ℕ → Type 0
Filled filled = ∥ ((bs : List Block) × Holds filled bs) ∥₁

-- a payload that is sealed over some blocks of sendings
abbrev pub SealedOver : List ℕ → Type 0
SealedOver payload = ∥ ((bs : List Block) × Sealed payload bs) ∥₁
