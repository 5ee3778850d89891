-- Lines and payloads: which are good, and what drawing and reading answer.
use Rattle.std.specs.Prelude.{◌≡◌, ℕ, ◌*◌, ◌%◌, ◌<◌, Bool, true, cond, ◌&&◌, ltb, List, ◌++◌, length, drop, Some, None, Ok, Err, Option, Result, ◌==◌, nat_le, nat_lt, slice_index}
use Rattle.std.specs.List.{prefix_len, AllByRecursion}
use Rattle.refusal.specs.declared.Refusal.{Refusal}
use Rattle.refusal.specs.declared.Refusal.TheVariants.{SampleCount, SampleSize, OutputLength, Payload}
use Rattle.line.specs.declared.depth.Depth.{Depth}
use Rattle.line.specs.Depths.{unit_of}

-- a sample count that a line may have: 240 n, n from 1 to 16
unfoldable pub good_count : ℕ → Bool
good_count c = c % 240 == 0 && (nat_le 240 c && nat_le c 3840)

-- how many samples from the first on are small enough for the depth
abbrev pub fitting : Depth → List ℕ → ℕ
fitting d line = prefix_len (λ x. ltb x (256 * unit_of d)) line

-- why a line is refused: its sample count, else its first sample that is too large
abbrev pub line_fault : Depth → List ℕ → Option Refusal
line_fault d line =
    cond (good_count (length line)) (cond (nat_lt (fitting d line) (length line)) (Some (SampleSize (fitting d line))) None) (Some (SampleCount (length line)))

-- a payload that begins with the run-in EB 52
abbrev pub begins : List ℕ → Bool
begins p = slice_index p 0 == 235 && slice_index p 1 == 82

-- a payload that can be drawn: bytes of a drawn length that begin with the run-in
pub record Drawable (draws : ℕ → Bool) (p : List ℕ) : Type 0 where
  pub size : draws (length p) ≡ true
  pub front : begins p ≡ true
  pub bytes : AllByRecursion (λ b. b < 256) p

-- what drawing answers: the sample count is tested first, then the payload
abbrev pub draw_answer : (ℕ → Bool) → List ℕ → ℕ → Result Unit Refusal
draw_answer draws p count =
    cond (good_count count) (cond (draws (length p) && begins p) (Ok tt) (Err Payload)) (Err (SampleCount count))

-- the line after a drawing: as it was where the drawing was refused
abbrev pub draw_line : Result Unit Refusal → List ℕ → List ℕ → List ℕ
draw_line (Ok x) drawn old = drawn
draw_line (Err e) drawn old = old

-- the tests before a reading: the line's own, then the room of 60 bytes for the payload
abbrev pub read_test : Option Refusal → ℕ → Result Unit Refusal
read_test (Some e) room = Err e
read_test None room = cond (nat_lt room 60) (Err (OutputLength room)) (Ok tt)

-- the length of what was found
abbrev pub size_of : Option (List ℕ) → Option ℕ
size_of None = None
size_of (Some p) = Some (length p)

-- what reading answers: a refusal, no run-in, or the length of the payload found
abbrev pub read_answer : Option Refusal → Option (List ℕ) → ℕ → Result (Option ℕ) Refusal
read_answer (Some e) found room = Err e
read_answer None found room = cond (nat_lt room 60) (Err (OutputLength room)) (Ok (size_of found))

-- a buffer once what was found is written to its front: every other byte stays
abbrev pub put : Option (List ℕ) → List ℕ → List ℕ
put None old = old
put (Some p) old = p ++ drop (length p) old

-- the payload buffer after a reading
abbrev pub read_buffer : Result (Option ℕ) Refusal → Option (List ℕ) → List ℕ → List ℕ
read_buffer (Ok x) found old = put found old
read_buffer (Err e) found old = old
