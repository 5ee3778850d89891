use Rattle.std.proofs.Common.{◌≡◌, ◌+◌, length, Some, refl, ap, ◌∙◌, arith}
use Rattle.std.proofs.lemmas.List.{length_push}
use Rattle.sending.specs.Sendings.{Message}
use Rattle.tray.specs.Trays.{message_bytes}
use Rattle.reader.proofs.Handing.{behind_more, message_fits, holding_length}
use Rattle.reader.proofs.progress.Progress.hand_over.Goals as goal

pub returns-in-Some : goal.returns-in-Some
returns-in-Some c =
    let m : Message = record { number = c.args.number; version = c.args.version; bytes = c.args.bytes.now } in
    record {
      next = record {
        stands = λ old ms is at count few room short.
            let more = behind_more ms m in
            let long = ap length is ∙ holding_length old ms (omega arith) in
            let fits = message_fits m c.args.self.now.at (length c.args.tray.now) short (omega arith) in
            let said : Some c.in-Some.end ≡ Some (c.args.self.now.at + length (message_bytes m)) = c.in-Some.ensures.answer ∙ fits in
            let end : c.in-Some.end ≡ c.args.self.now.at + length (message_bytes m) = cc in
            let push = length_push ms m in
            let sum = c.saturating_add-self.ensures in
            (c.put_message.ensures.stands_behind old ms is at short room, omega arith, omega arith);
        faults_stay = refl;
        skipped_stays = refl;
      };
    }

pub returns-in_default : goal.returns-in_default
returns-in_default c =
    let m : Message = record { number = c.args.number; version = c.args.version; bytes = c.args.bytes.now } in
    record {
      next = record {
        stands = λ old ms is at count few room short.
            let more = behind_more ms m in
            let long = ap length is ∙ holding_length old ms (omega arith) in
            let fits = message_fits m c.args.self.now.at (length c.args.tray.now) short (omega arith) in
            absurd (c.in_default.not-Some _ (c.put_message.ensures.answer ∙ fits));
        faults_stay = refl;
        skipped_stays = refl;
      };
    }
