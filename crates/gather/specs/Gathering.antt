-- Gathering: what is kept of the blocks read of one watched number, and what is answered to each.
use Rattle.std.specs.Prelude.{ℕ, zero, suc, ◌+◌, Bool, false, cond, ◌&&◌, ◌||◌, List, [], is_some, Some, None, Option, ◌==◌, nat_lt}
use Rattle.std.specs.List.{range_with_len, flat_map}
use Rattle.crc.specs.Crc.{crc}
use Rattle.sending.specs.Sendings.{Block, Message}

-- a part that is held: its bytes, the message CRC where its block carries it, and the frame in which it was read
pub record Part : Type 0 where
  pub body : List ℕ
  pub check : Option ℕ
  pub frame : ℕ

-- what is kept for one number: version and last number of the parts held; nothing is held where every part is None
pub record Slot : Type 0 where
  pub version : ℕ
  pub last : ℕ
  pub held : ℕ → Option Part

-- nothing held
abbrev pub nothing : Slot
nothing = record { version = 0; last = 0; held = λ k. None }

-- 1: every part is dropped when version or last number differ
abbrev pub agreeing : Slot → Block → ℕ → Option Part
agreeing s b k = cond (s.version == b.version && s.last == b.last) (s.held k) None

-- 2: a part more than 255 frames old is dropped
abbrev pub recent : ℕ → Option Part → Option Part
recent t None = None
recent t (Some h) = cond (nat_lt (h.frame + 255) t) None (Some h)

-- 3: the block's part is kept
abbrev pub kept : ℕ → Block → Slot → ℕ → Option Part
kept t b s k =
    cond (k == b.part) (Some (record { body = b.body; check = b.check; frame = t })) (recent t (agreeing s b k))

-- parts 0 to n are all held
abbrev pub full : ℕ → (ℕ → Option Part) → Bool
full zero held = is_some (held zero)
full (suc n) held = is_some (held (suc n)) && full n held

-- the bytes of a part, none where it isn't held
abbrev pub body_of : Option Part → List ℕ
body_of None = []
body_of (Some h) = h.body

-- the bodies of parts 0 to n
abbrev pub whole : ℕ → (ℕ → Option Part) → List ℕ
whole n held = flat_map (λ (k : ℕ). body_of (held k)) (range_with_len 0 (suc n))

-- 4: where all parts are held, they are joined and dropped
abbrev pub settled : ℕ → Block → Slot → Slot
settled t b s =
    cond (full b.last (kept t b s)) nothing (record { version = b.version; last = b.last; held = kept t b s })

-- the check is there and is this one
abbrev pub agrees : Option ℕ → ℕ → Bool
agrees None c = false
agrees (Some d) c = d == c

-- the part carries this check
abbrev pub bears : Option Part → ℕ → Bool
bears None c = false
bears (Some h) c = agrees h.check c

-- what a slot answers to a block: nothing yet, a message, or that the joined parts fail their check
pub data Answer : Type 0 where
  silent : Answer
  handed : Message → Answer
  faulty : Answer

-- the joined parts pass their check; a single part needs none
abbrev pub right : ℕ → (ℕ → Option Part) → Bool
right n held = n == 0 || bears (held n) (crc (whole n held))

-- what a block at frame t is answered
abbrev pub answer : ℕ → Block → Slot → Answer
answer t b s =
    cond (full b.last (kept t b s))
    (cond (right b.last (kept t b s))
    (handed (record { number = b.number; version = b.version; bytes = whole b.last (kept t b s) }))
    faulty)
    silent
