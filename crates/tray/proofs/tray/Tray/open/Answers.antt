use Rattle.std.proofs.Common.{◌≡◌, ◌+◌, ◌*◌, length, get_or, drop, Some, None, Ok, sym, ap, ◌∙◌, refl, arith}
use Rattle.std.proofs.lemmas.Result.{err_from_is_err_and}
use Rattle.std.proofs.lemmas.Bool.{cond-true, cond-false, lt-ltb, le-ltb}
use Rattle.refusal.specs.declared.Refusal.TheVariants.{Tray}
use Rattle.buffers.proofs.Steps.{clear, refused, refuses, done}
use Rattle.tray.specs.Reading.{messages_end, section_place, fault_count, rest_fault, tray_fault}
use Rattle.tray.specs.Model.{bytes_said}
use Rattle.tray.proofs.Openings.{stop_1, stop_2, stop_3, stop_4, last_5, none_to, count_test, section_test, counted, told_faults, ended}
use Rattle.tray.proofs.Backs.{reads_back, has_one_reading, entries_are}
use Rattle.tray.proofs.tray.Tray.open.Goals as goal
use Rattle.tray.proofs.tray.Tray.open.Goals.{Else-end-bytes}

pub returns-in_err-count : goal.returns-in_err-count
returns-in_err-count c =
    let t = c.args.bytes.now in
    let r = err_from_is_err_and c.from_residual.result c.from_residual.ensures.1 in
    let a = refused Tray bytes_said c.from_residual.result r.0 c.in_err-count.field-0.0 _ (tray_fault t) _ t r.1 r.2 c.in_err-count.ensures (λ p e. stop_1 t p (sym (count_test t) ∙ e)) in
    record { answer = a; reads_back = reads_back t _ a; has_one_reading = has_one_reading t _ a }

pub returns-in_err-section : goal.returns-in_err-section
returns-in_err-section c =
    let t = c.args.bytes.now in
    let n = counted t c.in_ok-count.count c.in_ok-count.ensures in
    let r = err_from_is_err_and c.from_residual-in_err-section.result c.from_residual-in_err-section.ensures.1 in
    let a = refused Tray bytes_said c.from_residual-in_err-section.result r.0 c.in_err-section.field-0.0 _ (tray_fault t) _ t r.1 r.2 c.in_err-section.ensures.answer (stop_2 t c.in_ok-count.count n.0 n.1) in
    record { answer = a; reads_back = reads_back t _ a; has_one_reading = has_one_reading t _ a }

pub returns-in_err-left : goal.returns-in_err-left
returns-in_err-left c =
    let t = c.args.bytes.now in
    let n = counted t c.in_ok-count.count c.in_ok-count.ensures in
    let q = clear Tray _ _ _ c.in_ok-section.ensures.answer in
    let r = err_from_is_err_and c.from_residual-in_err-left.result c.from_residual-in_err-left.ensures.1 in
    let a = refused Tray bytes_said c.from_residual-in_err-left.result r.0 c.in_err-left.field-0.0 _ (tray_fault t) _ t r.1 r.2 c.in_err-left.ensures (λ p e. stop_3 t c.in_ok-count.count n.0 n.1 c.in_ok-section.section q.1 q.0 p (sym (section_test _ _ t n.2) ∙ e)) in
    record { answer = a; reads_back = reads_back t _ a; has_one_reading = has_one_reading t _ a }

pub returns-in_err-end : goal.returns-in_err-end
returns-in_err-end c =
    let t = c.args.bytes.now in
    let n = counted t c.in_ok-count.count c.in_ok-count.ensures in
    let q = clear Tray _ _ _ c.in_ok-section.ensures.answer in
    let k = told_faults t _ _ c.in_ok-left.left n.2 c.in_ok-left.ensures in
    let r = err_from_is_err_and c.from_residual-in_err-end.result c.from_residual-in_err-end.ensures.1 in
    let a = refused Tray bytes_said c.from_residual-in_err-end.result r.0 c.in_err-end.field-0.0 _ (tray_fault t) _ t r.1 r.2 c.in_err-end.ensures.answer (stop_4 t c.in_ok-count.count n.0 n.1 c.in_ok-section.section q.1 q.0 c.in_ok-left.left k.0 k.1) in
    record { answer = a; reads_back = reads_back t _ a; has_one_reading = has_one_reading t _ a }

pub returns-then-end-bytes : goal.returns-then-end-bytes
returns-then-end-bytes c =
    let t = c.args.bytes.now in
    let n = counted t c.in_ok-count.count c.in_ok-count.ensures in
    let q = clear Tray _ _ _ c.in_ok-section.ensures.answer in
    let k = told_faults t _ _ c.in_ok-left.left n.2 c.in_ok-left.ensures in
    let e = ended _ _ c.in_ok-end.end _ c.in_ok-end.ensures.answer in
    let place = e.0 in
    let rest : rest_fault (c.in_ok-section.section + 1 + 4 * c.in_ok-left.left) t ≡ Some c.in_ok-end.end = cond-true _ _ _ (lt-ltb _ (length t) (omega arith)) ∙ ap Some (sym place) in
    let a = refuses Tray (tray_fault t) c.in_ok-end.end t (last_5 t c.in_ok-count.count n.0 n.1 c.in_ok-section.section q.1 q.0 c.in_ok-left.left k.0 k.1 _ e.1 rest) in
    record { answer = a; reads_back = reads_back t _ a; has_one_reading = has_one_reading t _ a }

right : (c : Else-end-bytes) → tray_fault c.args.bytes.now ≡ None
right c =
    let t = c.args.bytes.now in
    let n = counted t c.in_ok-count.count c.in_ok-count.ensures in
    let q = clear Tray _ _ _ c.in_ok-section.ensures.answer in
    let k = told_faults t _ _ c.in_ok-left.left n.2 c.in_ok-left.ensures in
    let e = ended _ _ c.in_ok-end.end _ c.in_ok-end.ensures.answer in
    let place = e.0 in
    let rest : rest_fault (c.in_ok-section.section + 1 + 4 * c.in_ok-left.left) t ≡ None = cond-false _ _ _ (le-ltb _ (length t) (omega arith)) in
    last_5 t c.in_ok-count.count n.0 n.1 c.in_ok-section.section q.1 q.0 c.in_ok-left.left k.0 k.1 None e.1 rest

pub invariant_of-result : goal.invariant_of-result
invariant_of-result c =
    let t = c.args.bytes.now in
    let n = counted t c.in_ok-count.count c.in_ok-count.ensures in
    let q = clear Tray _ _ _ c.in_ok-section.ensures.answer in
    let k = told_faults t _ _ c.in_ok-left.left n.2 c.in_ok-left.ensures in
    let e = ended _ _ c.in_ok-end.end _ c.in_ok-end.ensures.answer in
    let place : c.in_ok-section.section ≡ section_place t = q.1 ∙ ap (λ m. messages_end m 1 (drop 1 t)) n.0 in
    let count : c.in_ok-left.left ≡ fault_count t = k.0 ∙ ap (λ m. get_or t m 0) place in
    record { messages_right = none_to _ q.0; faults_right = none_to _ e.1; whole = entries_are t (right (goal.at.invariant_of-result c).Else-end-bytes) _ _ _ n.0 place count }

pub returns : goal.returns
returns c =
    let t = c.args.bytes.now in
    let a = done Tray (tray_fault t) t t (right (goal.at.returns c).Else-end-bytes) refl in
    record { answer = a; reads_back = reads_back t (Ok t) a; has_one_reading = has_one_reading t (Ok t) a }
