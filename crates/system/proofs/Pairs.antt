-- When two pairs of systems are the same.
use Rattle.std.proofs.Common.{◌≡◌, ℕ, List, None}
use Rattle.std.proofs.Props.{props}
use mathlib.Core.HLevel.{is_prop→PathP}
use Rattle.system.specs.declared.first_else.FirstElse.{FirstElse}
use Rattle.system.specs.declared.system.LineSystem.{Ghosts}

-- two pairs of the same systems are the same: what is kept of them has one proof
pub same : {A B : Type 0} {a : Ghosts A} {b : Ghosts B} (x y : FirstElse A B a b) → y.first ≡ x.first → y.second ≡ x.second → y ≡ x
same {a = a} {b = b} x y p q i = record {
  first = p i;
  second = q i;
  depths = is_prop→PathP (λ j. a.depth (p j) ≡ b.depth (q j)) (λ j. hlevel props) y.depths x.depths i;
  apart = is_prop→PathP (λ j. (line l : List ℕ) → b.carries (q j) line l → a.found (p j) line ≡ None) (λ j. hlevel props) y.apart x.apart i;
}
