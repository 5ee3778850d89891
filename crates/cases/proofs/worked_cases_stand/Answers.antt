use Rattle.std.proofs.Common.{◌/◌, ◌%◌, refl, ap, arith}
use Rattle.line.specs.Lines.{good_count}
use Rattle.line.specs.Symbols.{weight}
use Rattle.wire.specs.Wire.{head, covered, block_bytes}
use Rattle.walk.specs.Fields.{block_at}
use Rattle.body.specs.Format.{content_id_bytes, content_id_wrong}
use Rattle.body.specs.Reading.{content_id_fault, content_id_of}
use Rattle.cases.proofs.Drawn.{by_352}
use Rattle.cases.proofs.Lengths.{cut_to_one, cut_to_two, cut_to_three}
use Rattle.cases.proofs.Joining.{sending_joins, sending_drops}
use Rattle.cases.proofs.worked_cases_stand.Goals as goal

-- Each case by computing, or by a lemma over any number, so that another number in the table fails by its value.
pub returns : goal.returns
unfolding weight good_count block_bytes covered head block_at content_id_bytes content_id_wrong content_id_fault content_id_of
returns c = record {
  stand = record {
    one_x_symbol = λ p draw. (by_352 _ _ p draw refl, by_352 _ _ p draw refl);
    one_x_levels = (refl, refl, refl);
    two_x_values = refl;
    cuts = (cut_to_one _ (omega arith) refl, cut_to_two _ _ (omega arith) refl refl, cut_to_two _ _ (omega arith) refl refl, cut_to_three _ _ _ (omega arith) refl (omega arith) refl refl);
    third_byte = λ b version part last. omega arith;
    third_byte_read = λ bytes is. (ap (λ x. x / 16) is, ap (λ x. x / 4 % 4) is, ap (λ x. x % 4) is);
    time_body = record { right = refl; written = refl; back = refl };
    channel_body = record { right = refl; written = refl; back = refl };
    joins_at_1255 = sending_joins _ refl;
    drops_at_1256 = sending_drops _ refl;
  };
}
