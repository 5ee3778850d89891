-- The number and the place of each refusal. Every contract that speaks of a refusal's number goes through these two.
use Rattle.std.specs.Prelude.{ℕ, List, ◌++◌, codes}
use Rattle.std.specs.Fmt.{decimal}
use Rattle.refusal.specs.declared.Refusal.{Refusal}
use Rattle.refusal.specs.declared.Refusal.TheVariants.{SampleCount, SampleSize, FrameNumber, OutputLength, Levels, FrameEnd, TooLong, NotOfASending, Body, WatchList, Depth, Payload, Tray}

-- the number by which a refusal is known outside
abbrev pub refusal_number : Refusal → ℕ
refusal_number (SampleCount n) = 1
refusal_number (SampleSize n) = 2
refusal_number FrameNumber = 3
refusal_number (OutputLength n) = 4
refusal_number Levels = 5
refusal_number (FrameEnd n) = 6
refusal_number (TooLong n) = 7
refusal_number NotOfASending = 8
refusal_number (Body n) = 9
refusal_number (WatchList n) = 10
refusal_number Depth = 11
refusal_number Payload = 12
refusal_number (Tray n) = 13

-- the count, length or index that a refusal points to, 0 where it points to none
abbrev pub refusal_place : Refusal → ℕ
refusal_place (SampleCount n) = n
refusal_place (SampleSize n) = n
refusal_place FrameNumber = 0
refusal_place (OutputLength n) = n
refusal_place Levels = 0
refusal_place (FrameEnd n) = n
refusal_place (TooLong n) = n
refusal_place NotOfASending = 0
refusal_place (Body n) = n
refusal_place (WatchList n) = n
refusal_place Depth = 0
refusal_place Payload = 0
refusal_place (Tray n) = n

-- a refusal as it is printed: its number and its place
abbrev pub refusal_text : Refusal → List ℕ
refusal_text r = decimal (refusal_number r) ++ (codes " at " ++ decimal (refusal_place r))
