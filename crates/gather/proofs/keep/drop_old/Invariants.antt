use Rattle.std.proofs.Common.{◌≡◌, ◌++◌, map, take, drop}
use Rattle.gather.specs.Keeping.{fresh_part}
use Rattle.gather.proofs.keep.drop_old.Given as goal

abbrev pub invariant-loop-part : goal.invariant-loop-part
invariant-loop-part l = l.parts ≡ map (fresh_part l.frame) (take l.part-index l.initial.parts) ++ drop l.part-index l.initial.parts
