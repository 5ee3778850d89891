use Rattle.std.proofs.Common.{◌≡◌, ◌/◌, length, Some, sym, ap, inl, inr}
use Rattle.refusal.specs.declared.Refusal.TheVariants.{SampleCount}
use Rattle.line.specs.Lines.{read_answer}
use Rattle.capture.specs.Readings.{samples_of, one_two_found, bytes_fault}
use Rattle.capture.proofs.Faults.{odd_fault, long_fault}
use Rattle.capture.proofs.reading.read_bytes.Goals as goal

pub returns-then-bytes-ne0-clause-answer : goal.returns-then-bytes-ne0-clause-answer
returns-then-bytes-ne0-clause-answer c =
    let d = c.args.depth in
    let bytes = c.args.bytes.now in
    let fault : bytes_fault d bytes ≡ Some (SampleCount (length bytes / 2)) =
    elim c.then-bytes-ne0.either [ inl odd ↦ odd_fault d bytes odd | inr long ↦ long_fault d bytes long.1 ] in
    sym (ap (λ f. read_answer f (one_two_found d (samples_of bytes)) (length c.args.payload.now)) fault)
