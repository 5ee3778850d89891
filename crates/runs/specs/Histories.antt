-- One number: the history of its slot, and what is promised of every history.
use Rattle.std.specs.Prelude.{◌≡◌, ℕ, ◌+◌, ◌<◌, ◌≤◌, List, [], ◌∷◌, Some, ◌≢◌}
use Rattle.std.specs.List.{slice_get}
use Rattle.sending.specs.Sendings.{Block, Message, Sending, IsSending, last_part, message, block, IsBlockOf}
use Rattle.gather.specs.Gathering.{Slot, nothing, settled, Answer, silent, handed, faulty, answer}

-- a step in the history of one number: its parts were dropped, something passed that does not concern it, or a block of it
-- was read at a frame
pub data Step : Type 0 where
  cleared : Step
  passed : Step
  read : ℕ → Block → Step

-- the slot after a step
abbrev pub next : Step → Slot → Slot
next cleared slot = nothing
next passed slot = slot
next (read t b) slot = settled t b slot

abbrev pub reply : Step → Slot → Answer
reply cleared slot = silent
reply passed slot = silent
reply (read t b) slot = answer t b slot

-- what the slot answers, step by step
abbrev pub replies : List Step → Slot → List Answer
replies [] slot = []
replies (v ∷ vs) slot = reply v slot ∷ replies vs (next v slot)

-- the slot after some steps
abbrev pub after : List Step → Slot → Slot
after [] slot = slot
after (v ∷ vs) slot = after vs (next v slot)

-- step x reads block b at frame t
abbrev pub Reads : List Step → ℕ → ℕ → Block → Type 0
Reads steps x t b = slice_get steps x ≡ Some (read t b)

-- from step x to step y nothing was cleared
abbrev pub Unbroken : List Step → ℕ → ℕ → Type 0
Unbroken steps x y = (z : ℕ) → x ≤ z → z ≤ y → slice_get steps z ≢ Some cleared

-- frames never fall while nothing is cleared
abbrev pub Rising : List Step → Type 0
Rising steps =
    (x y t u : ℕ) (b c : Block) → x ≤ y → Unbroken steps x y → Reads steps x t b → Reads steps y u c → t ≤ u

-- given names for each block read a sending that it belongs to: the same one for two blocks of one version at most 255 frames
-- apart with nothing cleared between them
abbrev pub Belongs : List Step → (ℕ → Sending) → Type 0
Belongs steps given =
    ((x t : ℕ) (b : Block) → Reads steps x t b → IsBlockOf (given x) b)
    × ((x y t u : ℕ) (b c : Block) → x ≤ y → Unbroken steps x y → Reads steps x t b → Reads steps y u c
    → u ≤ t + 255 → b.version ≡ c.version → given x ≡ given y)

-- Message m, handed over at step x, is that of the sending given to x. Step source k read block k of that sending, one of them
-- is x itself, and all of them are recent at x, with nothing cleared since. None of them is at or before an earlier message.
pub record JoinedFrom (steps : List Step) (told : List Answer) (given : ℕ → Sending) (x : ℕ) (m : Message)
    (source : ℕ → ℕ) : Type 0 where
  pub is_sending : IsSending (given x)
  pub message_is : m ≡ message (given x)
  pub block_read : (k : ℕ) → k ≤ last_part (given x) → (t : ℕ) × Reads steps (source k) t (block (given x) k)
  pub given_same : (k : ℕ) → k ≤ last_part (given x) → given (source k) ≡ given x
  pub not_later : (k : ℕ) → k ≤ last_part (given x) → source k ≤ x
  pub unbroken : (k : ℕ) → k ≤ last_part (given x) → Unbroken steps (source k) x
  pub recent : (k t u : ℕ) (b c : Block) → k ≤ last_part (given x) → Reads steps (source k) t b → Reads steps x u c → u ≤ t + 255
  pub own : (k : ℕ) × (k ≤ last_part (given x)) × (source k ≡ x)
  pub unused : (k y : ℕ) (n : Message) → k ≤ last_part (given x) → y < x → slice_get told y ≡ Some (handed n) → y < source k

abbrev pub EachMessageIsJoinedFromOneSending : List Step → List Answer → (ℕ → Sending) → Type 0
EachMessageIsJoinedFromOneSending steps told given =
    (x : ℕ) (m : Message) → slice_get told x ≡ Some (handed m) → (source : ℕ → ℕ) × JoinedFrom steps told given x m source

abbrev pub NoJoinedPartsFailTheirCheck : List Answer → Type 0
NoJoinedPartsFailTheirCheck told = (x : ℕ) → slice_get told x ≢ Some faulty

-- Of the steps from lo up to, but without, hi: nothing is cleared, blocks lie at most 255 frames apart, all blocks of s are read,
-- and none of another version or last number. Then the message of s is handed over there.
abbrev pub EachSendingReadWholeIsHandedOver : List Step → List Answer → Type 0
EachSendingReadWholeIsHandedOver steps told =
    (s : Sending) → IsSending s → (lo hi : ℕ)
    → ((z : ℕ) → lo ≤ z → z < hi → slice_get steps z ≢ Some cleared)
    → ((x y t u : ℕ) (b c : Block) → lo ≤ x → x ≤ y → y < hi → Reads steps x t b → Reads steps y u c → u ≤ t + 255)
    → ((k : ℕ) → k ≤ last_part s → (x : ℕ) × (t : ℕ) × (lo ≤ x) × (x < hi) × Reads steps x t (block s k))
    → ((x t : ℕ) (b : Block) → lo ≤ x → x < hi → Reads steps x t b → (b.version ≡ s.version) × (b.last ≡ last_part s))
    → (x : ℕ) × (lo ≤ x) × (x < hi) × (slice_get told x ≡ Some (handed (message s)))
