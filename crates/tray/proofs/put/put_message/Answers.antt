use Rattle.std.proofs.Common.{◌≡◌, ◌+◌, ◌≤◌, true, false, [], ◌∷◌, length, Some, sym, ap, ◌∙◌, arith}
use Rattle.std.proofs.lemmas.Bool.Decides.{nat_tests}
use Rattle.std.proofs.lemmas.Bool.{cond-true, cond-false}
use Rattle.buffers.proofs.Lays.{laid_more, length_laid}
use Rattle.sending.specs.Sendings.{Message}
use Rattle.tray.specs.Trays.{message_bytes}
use Rattle.tray.specs.Writing.{message_unfit, message_end, message_put}
use Rattle.tray.proofs.Writings.{lays, adds}
use Rattle.tray.proofs.put.put_message.Goals as goal

pub returns-then-size : goal.returns-then-size
unfolding message_end message_put
returns-then-size c =
    let m : Message = record { number = c.args.number; version = c.args.version; bytes = c.args.bytes.now } in
    let none : message_unfit m c.args.at (length c.args.tray.now) ≡ true = grind (arith, nat_tests) in
    let tray = sym (cond-true _ _ _ none) in
    record { answer = sym (cond-true _ _ _ none); tray = tray; stands_behind = adds c.args.tray.now c.args.at m _ tray }

pub returns : goal.returns
unfolding message_end message_put
returns c =
    let m : Message = record { number = c.args.number; version = c.args.version; bytes = c.args.bytes.now } in
    let t = c.args.tray.now in
    let at = c.args.at in
    let head = c.args.number ∷ c.args.version ∷ length c.args.bytes.now ∷ [] in
    let room : message_unfit m at (length t) ≡ false = grind (arith, nat_tests) in
    let fits : at + (3 + length c.args.bytes.now) ≤ length t = grind (arith, nat_tests) in
    let first = lays t head at (omega arith) in
    let is : Some c.in_ok-own.own ≡ Some (at + 3) = sym c.in_ok-own.was ∙ c.lay.ensures.end ∙ first.0 in
    let own : c.in_ok-own.own ≡ at + 3 = cc in
    let one = c.lay.ensures.out ∙ first.1 in
    let long : length c.lay.new.out ≡ length t = ap length one ∙ length_laid t at head (omega arith) in
    let second = lays c.lay.new.out c.args.bytes.now c.in_ok-own.own (omega arith) in
    let whole = laid_more t _ _ at _ head c.args.bytes.now one own (omega arith) (c.lay-2.ensures.out ∙ second.1) in
    let tray = whole ∙ sym (cond-false _ _ _ room) in
    let end : c.in_ok-own.own + length c.args.bytes.now ≡ at + length (message_bytes m) = omega arith in
    record { answer = c.lay-2.ensures.end ∙ second.0 ∙ ap Some end ∙ sym (cond-false _ _ _ room); tray = tray; stands_behind = adds t at m _ tray }
