-- What the types of the code mean, in the words of the subject.
use Rattle.std.specs.Borrow.{Bor}
use Rattle.std.specs.Prelude.{ℕ, List, Some, None, Ok, Err, Option, Result}
use Rattle.refusal.specs.declared.Refusal.{Refusal}
use Rattle.sending.specs.Sendings as value
use Rattle.sending.specs.declared.block.Block.{Block}

-- the block that was read or is to be written
abbrev pub means : Block → value.Block
means b = record { number = b.number; version = b.version; part = b.part; last = b.last; body = b.body.now; check = b.check }

-- an answer with its block as a value
abbrev pub shown : Result Block Refusal → Result value.Block Refusal
shown (Ok b) = Ok (means b)
shown (Err e) = Err e

-- a part that was asked for, as a value
abbrev pub part_shown : Option (Bor (List ℕ)) → Option (List ℕ)
part_shown None = None
part_shown (Some p) = Some p.now
