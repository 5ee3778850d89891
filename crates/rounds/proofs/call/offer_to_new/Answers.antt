use Rattle.std.proofs.Common.{◌≡◌, ap, ◌∙◌}
use Rattle.system.specs.Either.{found_else}
use Rattle.onex.specs.OneX.{one_found}
use Rattle.twox.specs.TwoX.{two_found}
use Rattle.reader.specs.Settings.{setting_of}
use Rattle.rounds.specs.Rounds.{Round, after}
use Rattle.rounds.proofs.call.offer_to_new.Goals as goal

pub returns : goal.returns
returns c =
    let told = c.in_ok-reader.ensures in
    let rounds : ◌≡◌ {A = Round} _ _ = λ i. after (setting_of (told.0 i) (λ line. found_else (one_found (told.0 i) line) (two_found (told.1 i) line)) (told.2 i)) (told.3 i) c.args.line.now c.args.tray.now c.args.rounds in
    record {
      answer = c.offer_all.ensures.answer ∙ ap (λ (r : Round). r.last) rounds;
      tray = c.offer_all.ensures.tray ∙ ap (λ (r : Round). r.tray) rounds;
    }
