use Rattle.std.proofs.Common.{◌≡◌, length, ap, ◌∙◌}
use Rattle.line.specs.Depths.{depth_of}
use Rattle.line.specs.Lines.{read_buffer, put}
use Rattle.capture.specs.Readings.{bytes_answer, bytes_found}
use Rattle.capture.specs.Numbers.{in_numbers}
use Rattle.capture.proofs.Carried.{found_carried, answer_carried}
use Rattle.capture.proofs.call.rueladle_read_line.Goals as goal

pub returns : goal.returns
returns c =
    let bits = c.args.depth in
    let bytes = c.args.samples.now in
    let old = c.args.payload.now in
    let answer : c.from.result ≡ in_numbers (bytes_answer (depth_of bits) bytes (length old)) = c.from.ensures ∙ ap in_numbers c.read.ensures.answer in
    let left : c.read.new.payload ≡ read_buffer (bytes_answer (depth_of bits) bytes (length old)) (bytes_found (depth_of bits) bytes) old =
    c.read.ensures.payload ∙ ap (λ r. read_buffer r (bytes_found (depth_of bits) bytes) old) c.read.ensures.answer in
    record {
      answer = answer;
      payload = left;
      carried = λ p carry enough. (
        answer ∙ ap in_numbers (answer_carried bits bytes p (length old) carry enough),
        left
            ∙ ap (λ r. read_buffer r (bytes_found (depth_of bits) bytes) old) (answer_carried bits bytes p (length old) carry enough)
            ∙ ap (λ f. put f old) (found_carried bits bytes p carry),
      );
    }
