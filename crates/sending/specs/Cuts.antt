-- Cutting a message into the parts of a sending, or why it is not cut.
use Rattle.std.specs.Prelude.{◌≡◌, ℕ, zero, suc, ◌+◌, ◌-◌, ◌*◌, ◌<◌, ◌≤◌, min, cond, List, [], ◌∷◌, length, take, drop, Ok, Err, Result, nat_le, nat_lt, slice_index_or, ◌==◌}
use Rattle.std.specs.List.{flat_map}
use Rattle.refusal.specs.declared.Refusal.{Refusal}
use Rattle.refusal.specs.declared.Refusal.TheVariants.{TooLong, NotOfASending}
use Rattle.sending.specs.declared.room.Room.{Room}
use Rattle.sending.specs.declared.room.Room.TheVariants.{OneX, TwoX}
use Rattle.sending.specs.Sendings.{Sending}
use Rattle.sending.specs.Given.{unsuited}

-- the bytes that a payload has for blocks
abbrev pub room_bytes : Room → ℕ
room_bytes OneX = 28
room_bytes TwoX = 58

-- how many bytes of a message go into n parts: c - 7 into each but the last, c - 11 into the last, which has the message CRC
abbrev pub capacity : ℕ → ℕ → ℕ
capacity c n = (n - 1) * (c - 7) + (c - 11)

-- the same, where a single part has no message CRC beside it
abbrev pub fitting : ℕ → ℕ → ℕ
fitting c n = cond (n == 1) (c - 7) (capacity c n)

-- into how many parts a message of m bytes is cut
abbrev pub part_count : ℕ → ℕ → ℕ
part_count c m = cond (nat_le m (c - 7)) 1 (cond (nat_le m (capacity c 2)) 2 (cond (nat_le m (capacity c 3)) 3 4))

-- n parts of at most w bytes, and then the rest
abbrev pub pieces : ℕ → ℕ → List ℕ → List (List ℕ)
pieces zero w m = m ∷ []
pieces (suc n) w m = take w m ∷ pieces n w (drop w m)

-- the parts of a message that is cut
abbrev pub cut_parts : ℕ → List ℕ → List (List ℕ)
cut_parts c m = pieces (part_count c (length m) - 1) (c - 7) m

-- the sending of a cut message: refused where the message is too long, then where number or version are none of a sending
unfoldable pub cutting : ℕ → ℕ → ℕ → List ℕ → Result Sending Refusal
cutting c number version m =
    cond (nat_lt (capacity c 4) (length m)) (Err (TooLong (length m)))
    (cond (unsuited number version 1) (Err NotOfASending)
    (Ok (record { number = number; version = version; parts = cut_parts c m })))

-- n is the smallest of 2 to 4 parts that are enough for m bytes
pub record Smallest (c m n : ℕ) : Type 0 where
  pub two_to_four : (2 ≤ n) × (n ≤ 4)
  pub enough : m ≤ capacity c n
  pub no_fewer : (k : ℕ) → 2 ≤ k → m ≤ capacity c k → n ≤ k

-- what every cut keeps, in the words of the rule
pub record IsCut (c : ℕ) (m : List ℕ) (parts : List (List ℕ)) : Type 0 where
  pub joins : flat_map (λ (p : List ℕ). p) parts ≡ m
  pub one : length m ≤ c - 7 → length parts ≡ 1
  pub several : c - 7 < length m → Smallest c (length m) (length parts)
  pub takes : (k : ℕ) → k + 1 < length parts → length (slice_index_or parts k []) ≡ min (length m - k * (c - 7)) (c - 7)

-- what is answered is a cut, or a refusal
abbrev pub CutRight : ℕ → List ℕ → Result Sending Refusal → Type 0
CutRight c m (Ok s) = IsCut c m s.parts
CutRight c m (Err e) = Unit {0}
