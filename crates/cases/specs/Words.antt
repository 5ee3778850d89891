-- Short words for the table of worked cases. Each only puts together what other crates' contracts cite.
use Rattle.std.specs.Prelude.{◌≡◌, ℕ, ◌*◌, false, List, [], ◌∷◌, map, length, Some, None, Ok, Err, Option, Result}
use Rattle.refusal.specs.declared.Refusal.{Refusal}
use Rattle.line.specs.declared.depth.Depth.TheVariants.{Eight}
use Rattle.line.specs.declared.reading.Cuts.{Cuts}
use Rattle.line.specs.Depths.{unit_of}
use Rattle.line.specs.Scales.{cut_list}
use Rattle.line.specs.Symbols.{weight, level_at, drawn_by, value_of}
use Rattle.onex.specs.OneX.{one_cuts}
use Rattle.twox.specs.Levels.{two_levels}
use Rattle.twox.specs.TwoX.{cuts_of}
use Rattle.sending.specs.Sendings.{Sending, block}
use Rattle.sending.specs.declared.room.Room.TheVariants.{OneX}
use Rattle.sending.specs.Given.{unsuited}
use Rattle.sending.specs.Cuts.{room_bytes, cutting}
use Rattle.body.specs.Format.{Reserved, ones}
use Rattle.body.specs.Messages.{Said}
use Rattle.body.specs.Reading.{reading}
use Rattle.gather.specs.Arriving.{Table}
use Rattle.gather.specs.Serving.{empty, next_table}

-- the cut that 1X measures on a drawing of p with levels z and o, at 8 bits and 8 samples to a symbol
abbrev pub measured_cuts : ℕ → ℕ → List ℕ → Option Cuts
measured_cuts z o p = one_cuts (unit_of Eight) (weight 1920) (level_at (drawn_by 1 (z ∷ o ∷ []) p 1920))

-- the value that a symbol of level S is read as by such cuts
abbrev pub value_by : Option Cuts → ℕ → Option ℕ
value_by None S = None
value_by (Some cuts) S = Some (value_of (cut_list cuts) (2 * S))

-- the value that a symbol of level S has in 2X, at 8 bits and 8 samples to a symbol
abbrev pub two_value : ℕ → ℕ
two_value S = value_of (cuts_of (weight 1920) (two_levels Eight)) (2 * S)

-- the lengths of a sending's parts, none where there is a refusal
abbrev pub part_lengths : Result Sending Refusal → List ℕ
part_lengths (Ok s) = map length s.parts
part_lengths (Err e) = []

-- in 1X every message of n bytes is cut to parts of these lengths, whatever its number and version
abbrev pub CutsTo : ℕ → List ℕ → Type 0
CutsTo n lengths =
    (number version : ℕ) (m : List ℕ) → unsuited number version 1 ≡ false → length m ≡ n
    → part_lengths (cutting (room_bytes OneX) number version m) ≡ lengths

-- by its kind a message has no wrong value, is written as these bytes, and they are read as it
pub record StandsAs (wrong : Said → Option ℕ) (bytes : Reserved → Said → List ℕ) (fault : List ℕ → Option ℕ) (says : List ℕ → Said) (m : Said) (b : List ℕ) : Type 0 where
  pub right : wrong m ≡ None
  pub written : bytes ones m ≡ b
  pub back : reading fault says b ≡ Ok m

-- what is gathered once part 0 of a sending was read at frame 1000
abbrev pub after_first : List ℕ → Sending → Table
after_first watch s = next_table watch 1000 (block s 0) empty
