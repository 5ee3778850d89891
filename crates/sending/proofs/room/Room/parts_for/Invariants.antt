use Rattle.std.proofs.Common.{ℕ, ◌<◌, ◌≤◌}
use Rattle.sending.specs.Cuts.{room_bytes, fitting}
use Rattle.sending.proofs.room.Room.parts_for.Given as goal

-- the message goes into none of the counts so far
abbrev pub invariant-loop-n : goal.invariant-loop-n
invariant-loop-n l = (k : ℕ) → 1 ≤ k → k < l.n → fitting (room_bytes l.self) k < l.length
