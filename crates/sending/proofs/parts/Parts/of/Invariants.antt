use Rattle.std.proofs.Common.{◌≡◌, take}
use Rattle.sending.specs.Given.{texts}
use Rattle.sending.specs.Storage.{Plain}
use Rattle.sending.proofs.parts.Parts.of.Given as goal

-- the parts so far are kept, and each was read as bytes
abbrev pub invariant-loop-part : goal.invariant-loop-part
invariant-loop-part l = record { same : l.kept ≡ take l.part-index (texts l.parts); plain : Plain l.kept }
