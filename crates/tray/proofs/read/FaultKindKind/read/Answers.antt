use Rattle.std.proofs.Common.{◌≡◌, ℕ, ◌+◌, Option, Some, None, Err, Result, ap, subst, ◌∙◌, arith}
use Rattle.std.specs.Prelude.{MatchOption}
use Rattle.std.specs.Option.{ok_or}
use Rattle.std.proofs.lemmas.Result.{err_from_is_err_and}
use Rattle.refusal.specs.declared.Refusal.{Refusal}
use Rattle.refusal.specs.declared.Refusal.TheVariants.{Tray}
use Rattle.buffers.proofs.Steps.{refused, refuses, clear, done}
use Rattle.buffers.specs.Places.{told}
use Rattle.tray.specs.declared.cause.Cause.{Cause}
use Rattle.tray.specs.Causes.{numbers}
use Rattle.tray.specs.Entries.{item}
use Rattle.tray.specs.Reading.{fault}
use Rattle.tray.proofs.Bytewise.{few_read, layer_stop, cause_lacks, cause_stop, number_lacks, place_stop, fault_right, fault_is}
use Rattle.tray.proofs.read.FaultKindKind.read.Goals as goal

-- what is told of the cause at a layer, where there is one and where there is none
cause_read : (N : Type 0) (q : ℕ × ℕ) (d : Cause) (o : Option Cause) → o ≡ Some d → MatchOption o N (λ e. numbers e ≡ q) → numbers d ≡ q
cause_read N q d o e m = subst (λ x. MatchOption x N (λ f. numbers f ≡ q)) e m

none_read : (N : Type 0) (q : ℕ × ℕ) (o : Option Cause) → o ≡ None → MatchOption o N (λ e. numbers e ≡ q) → N
none_read N q o e m = subst (λ x. MatchOption x N (λ f. numbers f ≡ q)) e m

pub returns-in_err-layer-clause-answer : goal.returns-in_err-layer-clause-answer
returns-in_err-layer-clause-answer c =
    let r = err_from_is_err_and c.from_residual.result c.from_residual.ensures.1 in
    refused Tray item c.from_residual.result r.0 c.in_err-layer.field-0.0 _ _ _ _ r.1 r.2 c.in_err-layer.ensures (layer_stop c.args.place c.args.tray.now)

pub returns-in_err-cause-clause-answer : goal.returns-in_err-cause-clause-answer
returns-in_err-cause-clause-answer c =
    let layer = clear Tray _ _ _ c.in_ok-layer.ensures in
    let r = err_from_is_err_and c.from_residual-in_err-cause.result c.from_residual-in_err-cause.ensures.1 in
    refused Tray item c.from_residual-in_err-cause.result r.0 c.in_err-cause.field-0.0 _ _ _ _ r.1 r.2 c.in_err-cause.ensures (cause_lacks c.args.place c.args.tray.now layer.0 (c.type_inv.tray (c.args.place + 1)).fits)

pub returns-in_err-cause-2-clause-answer : goal.returns-in_err-cause-2-clause-answer
returns-in_err-cause-2-clause-answer c =
    let r = err_from_is_err_and c.from_residual-in_err-cause-2.result c.from_residual-in_err-cause-2.ensures.1 in
    let q = c.in_err-cause-2.ensures in
    let none = none_read _ _ c.at.result q.ok_part c.at.ensures.answer in
    let e : ◌≡◌ {A = Result Cause Refusal} (Err c.in_err-cause-2.field-0.0) (Err (Tray (c.args.place + 1))) = q.value ∙ ap (λ o. ok_or o (Tray (c.args.place + 1))) q.ok_part in
    let why : c.in_err-cause-2.field-0.0 ≡ Tray (c.args.place + 1) = cc in
    let layer = clear Tray _ _ _ c.in_ok-layer.ensures in
    let cause = clear Tray _ _ _ c.in_ok-cause.ensures in
    ap (told item) r.1 ∙ ap Err (r.2 ∙ why) ∙ refuses Tray _ _ _ (cause_stop c.args.place c.args.tray.now layer.0 cause.0 (grind (arith, none, layer.1, cause.1)))

pub returns-in_err-number-clause-answer : goal.returns-in_err-number-clause-answer
returns-in_err-number-clause-answer c =
    let layer = clear Tray _ _ _ c.in_ok-layer.ensures in
    let cause = clear Tray _ _ _ c.in_ok-cause.ensures in
    let few = few_read c.in_ok-cause-2.cause _ _ _ _ (cause_read _ _ _ c.at.result c.in_ok-cause-2.ensures.ok_part c.at.ensures.answer) layer.1 cause.1 in
    let r = err_from_is_err_and c.from_residual-in_err-number.result c.from_residual-in_err-number.ensures.1 in
    refused Tray item c.from_residual-in_err-number.result r.0 c.in_err-number.field-0.0 _ _ _ _ r.1 r.2 c.in_err-number.ensures (number_lacks c.args.place c.args.tray.now layer.0 cause.0 few (c.type_inv.tray (c.args.place + 2)).fits)

pub returns-in_err-at-clause-answer : goal.returns-in_err-at-clause-answer
returns-in_err-at-clause-answer c =
    let layer = clear Tray _ _ _ c.in_ok-layer.ensures in
    let cause = clear Tray _ _ _ c.in_ok-cause.ensures in
    let number = clear Tray _ _ _ c.in_ok-number.ensures in
    let few = few_read c.in_ok-cause-2.cause _ _ _ _ (cause_read _ _ _ c.at.result c.in_ok-cause-2.ensures.ok_part c.at.ensures.answer) layer.1 cause.1 in
    let r = err_from_is_err_and c.from_residual-in_err-at.result c.from_residual-in_err-at.ensures.1 in
    refused Tray item c.from_residual-in_err-at.result r.0 c.in_err-at.field-0.0 _ _ _ _ r.1 r.2 c.in_err-at.ensures (place_stop c.args.place c.args.tray.now layer.0 cause.0 few number.0)

pub returns-clause-answer : goal.returns-clause-answer
returns-clause-answer c =
    let p = c.args.place in
    let t = c.args.tray.now in
    let layer = clear Tray _ _ _ c.in_ok-layer.ensures in
    let cause = clear Tray _ _ _ c.in_ok-cause.ensures in
    let number = clear Tray _ _ _ c.in_ok-number.ensures in
    let at = clear Tray _ _ _ c.in_ok-at.ensures in
    let is = cause_read _ _ _ c.at.result c.in_ok-cause-2.ensures.ok_part c.at.ensures.answer in
    let few = few_read c.in_ok-cause-2.cause _ _ _ _ is layer.1 cause.1 in
    done Tray _ _ _ (fault_right p t layer.0 cause.0 few number.0 at.0)
    (ap (fault p) (fault_is p t _ _ _ _ (ap (λ (q : ℕ × ℕ). q.0) is ∙ layer.1) (ap (λ (q : ℕ × ℕ). q.1) is ∙ cause.1) number.1 at.1))
