-- The units of the depths.
use Rattle.std.proofs.Common.{◌≡◌, ◌<◌, refl, arith}
use Rattle.line.specs.declared.depth.Depth.{Depth}
use Rattle.line.specs.declared.depth.Depth.TheVariants.{Eight, Ten, Twelve}
use Rattle.line.specs.Depths.{unit_of}

pub unit_pos : (d : Depth) → 0 < unit_of d
unit_pos Eight = omega arith
unit_pos Ten = omega arith
unit_pos Twelve = omega arith

-- a unit tells its depth
pub unit_same : (d e : Depth) → unit_of d ≡ unit_of e → d ≡ e
unit_same Eight Eight h = refl
unit_same Ten Ten h = refl
unit_same Twelve Twelve h = refl
unit_same Eight Ten h = absurd (let none : ⊥ = omega arith in none)
unit_same Eight Twelve h = absurd (let none : ⊥ = omega arith in none)
unit_same Ten Eight h = absurd (let none : ⊥ = omega arith in none)
unit_same Ten Twelve h = absurd (let none : ⊥ = omega arith in none)
unit_same Twelve Eight h = absurd (let none : ⊥ = omega arith in none)
unit_same Twelve Ten h = absurd (let none : ⊥ = omega arith in none)
