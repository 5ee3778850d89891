use Rattle.std.proofs.Common.{◌≡◌, ◌+◌, ◌-◌, ◌<◌, ◌≤◌, length, get_or, take, drop, ap, ◌∙◌, arith}
use Rattle.std.proofs.lemmas.Result.{err_from_is_err_and}
use Rattle.refusal.specs.declared.Refusal.TheVariants.{Tray}
use Rattle.buffers.proofs.Steps.{refused, refuses, clear, done}
use Rattle.tray.specs.Entries.{item}
use Rattle.tray.specs.Reading.{message}
use Rattle.tray.proofs.Bytewise.{number_stop, version_stop, length_stop, bytes_stop, message_right, message_is}
use Rattle.tray.proofs.read.MessageKindKind.read.Goals as goal

pub returns-in_err-number-clause-answer : goal.returns-in_err-number-clause-answer
returns-in_err-number-clause-answer c =
    let r = err_from_is_err_and c.from_residual.result c.from_residual.ensures.1 in
    refused Tray item c.from_residual.result r.0 c.in_err-number.field-0.0 _ _ _ _ r.1 r.2 c.in_err-number.ensures (number_stop c.args.place c.args.tray.now (c.type_inv.tray c.args.place).fits)

pub returns-in_err-version-clause-answer : goal.returns-in_err-version-clause-answer
returns-in_err-version-clause-answer c =
    let number = clear Tray _ _ _ c.in_ok-number.ensures in
    let r = err_from_is_err_and c.from_residual-in_err-version.result c.from_residual-in_err-version.ensures.1 in
    refused Tray item c.from_residual-in_err-version.result r.0 c.in_err-version.field-0.0 _ _ _ _ r.1 r.2 c.in_err-version.ensures (version_stop c.args.place c.args.tray.now number.0)

pub returns-in_err-size-clause-answer : goal.returns-in_err-size-clause-answer
returns-in_err-size-clause-answer c =
    let number = clear Tray _ _ _ c.in_ok-number.ensures in
    let version = clear Tray _ _ _ c.in_ok-version.ensures in
    let r = err_from_is_err_and c.from_residual-in_err-size.result c.from_residual-in_err-size.ensures.1 in
    refused Tray item c.from_residual-in_err-size.result r.0 c.in_err-size.field-0.0 _ _ _ _ r.1 r.2 c.in_err-size.ensures (length_stop c.args.place c.args.tray.now number.0 version.0)

pub returns-in-Some-clause-answer : goal.returns-in-Some-clause-answer
returns-in-Some-clause-answer c =
    let number = clear Tray _ _ _ c.in_ok-number.ensures in
    let version = clear Tray _ _ _ c.in_ok-version.ensures in
    let size = clear Tray _ _ _ c.in_ok-size.ensures in
    let get = c.in-Some.ensures.lookup in
    let room : c.args.place + 3 + get_or c.args.tray.now (c.args.place + 2) 0 ≤ length c.args.tray.now = omega (arith, get.0.1, size.1) in
    let long : c.args.place + 3 + c.in_ok-size.field-0 - (c.args.place + 3) ≡ c.in_ok-size.field-0 = omega arith in
    let bytes = get.0.2 ∙ ap (λ n. take n (drop (c.args.place + 3) c.args.tray.now)) long in
    done Tray _ _ _ (message_right c.args.place c.args.tray.now number.0 version.0 size.0 room)
    (ap (message c.args.place) (message_is c.args.place c.args.tray.now _ _ _ c.in-Some.bytes.now number.1 version.1 size.1 bytes))

pub returns-in-None-clause-answer : goal.returns-in-None-clause-answer
returns-in-None-clause-answer c =
    let number = clear Tray _ _ _ c.in_ok-number.ensures in
    let version = clear Tray _ _ _ c.in_ok-version.ensures in
    let size = clear Tray _ _ _ c.in_ok-size.ensures in
    let get = c.in-None.ensures.lookup in
    let lacks : length c.args.tray.now < c.args.place + 3 + get_or c.args.tray.now (c.args.place + 2) 0 = grind (arith, get.0, size.1) in
    refuses Tray _ _ _ (bytes_stop c.args.place c.args.tray.now number.0 version.0 size.0 lacks)
