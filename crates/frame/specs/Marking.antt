-- The frame that comes of a list of groups: the groups not refused, in order, and the refusal of each other one.
use Rattle.std.specs.Prelude.{ℕ, ◌+◌, ◌-◌, Bool, cond, ◌&&◌, List, [], ◌∷◌, ◌++◌, length, drop, replicate, Some, None, Ok, Err, Option, Result, nat_le, nat_lt}
use Rattle.std.specs.Result.{result_err}
use Rattle.refusal.specs.declared.Refusal.{Refusal}
use Rattle.refusal.specs.declared.Refusal.TheVariants.{OutputLength, Payload}
use Rattle.sending.specs.Sendings.{Block}
use Rattle.walk.specs.Laws.{payload_of}
use Rattle.frame.specs.Frames.{wires}
use Rattle.frame.specs.Groups.{Want, Open, blocks, put_answer, put_blocks}

-- the blocks of the groups that are not refused, in order, by the refusal of each
abbrev pub not_refused : List (List Want) → List (Option Refusal) → List Block
not_refused [] rs = []
not_refused (g ∷ gs) [] = []
not_refused (g ∷ gs) (None ∷ rs) = blocks g ++ not_refused gs rs
not_refused (g ∷ gs) (Some e ∷ rs) = not_refused gs rs

-- a length that a frame may have
unfoldable pub frame_length : ℕ → Bool
frame_length n = nat_le 2 n && nat_le n 60

-- a frame as it is opened: EB 52 and zeros, filled up to place 2; refused outside 2 to 60
unfoldable pub opening : ℕ → Result Open Refusal
opening n = cond (frame_length n) (Ok (record { bytes = 235 ∷ 82 ∷ replicate 58 0; size = n; mark = 2 })) (Err Payload)

-- the blocks that groups put into a frame of n bytes from a mark on: those of the groups not refused, in order
abbrev pub groups_blocks : ℕ → ℕ → List (List Want) → List Block
groups_blocks n mark [] = []
groups_blocks n mark (g ∷ gs) = put_blocks n mark g ++ groups_blocks n (mark + length (wires (put_blocks n mark g))) gs

-- the refusal of each group, none where it goes in
abbrev pub groups_refusals : ℕ → ℕ → List (List Want) → List (Option Refusal)
groups_refusals n mark [] = []
groups_refusals n mark (g ∷ gs) = result_err (put_answer n mark 0 g) ∷ groups_refusals n (mark + length (wires (put_blocks n mark g))) gs

-- the blocks of the frame of n bytes that is made of groups
abbrev pub frame_blocks : ℕ → List (List Want) → List Block
frame_blocks n gs = groups_blocks n 2 gs

-- its payload
abbrev pub frame_payload : ℕ → List (List Want) → List ℕ
frame_payload n gs = payload_of 235 82 (frame_blocks n gs) (n - (2 + length (wires (frame_blocks n gs))))

-- what marking a frame answers, with room for so many refusals: too little room, a length that no frame has, else the payload
unfoldable pub frame_of : ℕ → ℕ → List (List Want) → Result (List ℕ) Refusal
frame_of room n gs =
    cond (nat_lt room (length gs)) (Err (OutputLength room)) (cond (frame_length n) (Ok (frame_payload n gs)) (Err Payload))

-- the refusals afterwards: of each group, and behind them as they were; all as they were where no frame is made
abbrev pub refusals_of : {X : Type 0} → Result X Refusal → ℕ → List (List Want) → List (Option Refusal) → List (Option Refusal)
refusals_of (Ok x) n gs old = groups_refusals n 2 gs ++ drop (length gs) old
refusals_of (Err e) n gs old = old
