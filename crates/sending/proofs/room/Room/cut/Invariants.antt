use Rattle.std.proofs.Common.{◌≡◌, ◌+◌, ◌-◌, ◌++◌, length}
use Rattle.sending.specs.Cuts.{room_bytes, pieces, cut_parts}
use Rattle.sending.specs.Storage.{joint, Plain}
use Rattle.sending.proofs.room.Room.cut.Given as goal

-- what is cut off so far, with the pieces of the rest
abbrev pub invariant-loop-i : goal.invariant-loop-i
invariant-loop-i l = record {
  cut : l.parts ++ pieces (l._i-end - l._i) (room_bytes l.self - 7) l.rest ≡ cut_parts (room_bytes l.self) l.message;
  count : length l.parts + 1 ≡ l._i;
  size : length (joint l.parts) + length l.rest ≡ length l.message;
  plain : Plain l.parts;
}
