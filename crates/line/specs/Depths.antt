-- Depths, by the number of bits of a sample.
use Rattle.std.specs.Prelude.{ℕ, cond, Ok, Err, Result, ◌==◌}
use Rattle.refusal.specs.declared.Refusal.{Refusal}
use Rattle.refusal.specs.declared.Refusal.TheVariants.{Depth as Unknown}
use Rattle.line.specs.declared.depth.Depth.{Depth}
use Rattle.line.specs.declared.depth.Depth.TheVariants.{Eight, Ten, Twelve}

-- how many bits a sample has
abbrev pub depth_bits : Depth → ℕ
depth_bits Eight = 8
depth_bits Ten = 10
depth_bits Twelve = 12

-- the depth of so many bits, refused where there is none
abbrev pub depth_of : ℕ → Result Depth Refusal
depth_of b =
    cond (b == depth_bits Eight) (Ok Eight) (cond (b == depth_bits Ten) (Ok Ten) (cond (b == depth_bits Twelve) (Ok Twelve) (Err Unknown)))

-- the unit q of levels: 1, 4 or 16
abbrev pub unit_of : Depth → ℕ
unit_of Eight = 1
unit_of Ten = 4
unit_of Twelve = 16
