-- The reading of one line by 1X, else 2X, off bytes.
use Rattle.std.specs.Prelude.{◌≡◌, ℕ, ◌+◌, ◌*◌, ◌/◌, ◌%◌, cond, ◌⊎◌, List, map, length, Some, None, Ok, Err, Option, Result, ◌==◌, slice_index}
use Rattle.std.specs.List.{range_with_len}
use Rattle.refusal.specs.declared.Refusal.{Refusal}
use Rattle.refusal.specs.declared.Refusal.TheVariants.{SampleCount}
use Rattle.line.specs.declared.depth.Depth.{Depth}
use Rattle.line.specs.Depths.{depth_of}
use Rattle.line.specs.Lines.{line_fault, read_answer, read_buffer}
use Rattle.system.specs.Either.{found_else}
use Rattle.onex.specs.OneX.{one_found, OneCarries}
use Rattle.twox.specs.TwoX.{two_found, TwoCarries}

-- the samples that bytes hold, two bytes each, low byte first; an odd byte at the end is left out
abbrev pub samples_of : List ℕ → List ℕ
samples_of bytes = map (λ i. slice_index bytes (2 * i) + 256 * slice_index bytes (2 * i + 1)) (range_with_len 0 (length bytes / 2))

-- what 1X, else 2X, finds in a line
abbrev pub one_two_found : Depth → List ℕ → Option (List ℕ)
one_two_found d line = found_else (one_found d line) (two_found d line)

-- why bytes are refused: half a sample stands at their end, else as the line of their samples is
abbrev pub bytes_fault : Depth → List ℕ → Option Refusal
bytes_fault d bytes = cond (length bytes % 2 == 0) (line_fault d (samples_of bytes)) (Some (SampleCount (length bytes / 2)))

-- what the reading comes to, by the depth that was stated, which is tested before all else
abbrev pub bytes_answer : Result Depth Refusal → List ℕ → ℕ → Result (Option ℕ) Refusal
bytes_answer (Err e) bytes room = Err e
bytes_answer (Ok d) bytes room = read_answer (bytes_fault d bytes) (one_two_found d (samples_of bytes)) room

-- the payload that the samples of the bytes carry, if the depth exists and a run-in is found
abbrev pub bytes_found : Result Depth Refusal → List ℕ → Option (List ℕ)
bytes_found (Err e) bytes = None
bytes_found (Ok d) bytes = one_two_found d (samples_of bytes)

-- the payload buffer afterwards: the payload found at its front, every other byte as it was; all as it was where there is none
abbrev pub buffer_after : Result Depth Refusal → List ℕ → List ℕ → List ℕ
buffer_after d bytes old = read_buffer (bytes_answer d bytes (length old)) (bytes_found d bytes) old

-- at so many bits the bytes carry a payload: they are whole samples, which carry it in 1X or in 2X
pub record Carry (bits : ℕ) (bytes p : List ℕ) : Type 0 where
  pub depth : Depth
  pub depth_is : depth_of bits ≡ Ok depth
  pub whole : length bytes % 2 ≡ 0
  pub carried : OneCarries depth (samples_of bytes) p ⊎ TwoCarries depth (samples_of bytes) p
