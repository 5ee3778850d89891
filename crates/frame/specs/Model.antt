-- What the types of the code mean, in the words of the subject.
use Rattle.std.specs.Borrow.{Bor}
use Rattle.std.specs.Prelude.{◌≡◌, ℕ, ◌+◌, ◌≤◌, List, map}
use Rattle.buffers.specs.Laid.{laid}
use Rattle.wire.specs.Wire.{block_bytes}
use Rattle.walk.specs.Laws.{OfASending}
use Rattle.frame.specs.Groups.{Want, block_of, size_of}
use Rattle.frame.specs.declared.wanted.Wanted.{Wanted}
use Rattle.frame.specs.declared.frame.Fill.{Fill}

-- the block that is wanted
abbrev pub want : Wanted → Want
want w = record { sending = w.sending.now; index = w.block }

-- the blocks that a group wants
abbrev pub wants : List (Bor Wanted) → List Want
wants ws = map (λ w. want w.now) ws

-- the blocks that each of several groups wants
abbrev pub groups_want : List (Bor (List (Bor Wanted))) → List (List Want)
groups_want gs = map (λ g. wants g.now) gs

-- a wanted block goes into a frame's memory at its mark: it is a block of a sending, and there is room for it
pub record Goes (before : Fill) (xs : List ℕ) (w : Want) (after : Fill) (ys : List ℕ) : Type 0 where
  pub bytes : ys ≡ laid xs before.mark (block_bytes (block_of w))
  pub mark : after.mark ≡ before.mark + size_of w
  pub size : after.size ≡ before.size
  pub within : after.mark ≤ before.size
  pub sent : OfASending (block_of w)

-- nothing changes
pub record Stays (before : Fill) (xs : List ℕ) (after : Fill) (ys : List ℕ) : Type 0 where
  pub bytes : ys ≡ xs
  pub fill : after ≡ before
