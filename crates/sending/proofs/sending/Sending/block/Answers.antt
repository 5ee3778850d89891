use Rattle.std.proofs.Common.{◌≡◌, ℕ, List, Ok, Err, Result, Bor, sym, ap, ◌∙◌}
use Rattle.std.specs.List.{slice_get}
use Rattle.std.specs.Option.{ok_or}
use Rattle.std.proofs.lemmas.Result.{err_from_is_err_and}
use Rattle.refusal.specs.declared.Refusal.{Refusal}
use Rattle.refusal.specs.declared.Refusal.TheVariants.{NotOfASending}
use Rattle.sending.specs.Model.{part_shown, shown}
use Rattle.sending.proofs.Wants.{block_none, block_some}
use Rattle.sending.proofs.sending.Sending.block.Goals as goal

pub returns-in_err-body-clause-answer : goal.returns-in_err-body-clause-answer
returns-in_err-body-clause-answer c =
    let none = sym (ap part_shown c.in_err-body.ensures.ok_part) ∙ c.get.ensures ∙ (λ j. slice_get (c.self.view_is j).parts (c.from.ensures j)) in
    let r = err_from_is_err_and c.from_residual.result c.from_residual.ensures.1 in
    let e : ◌≡◌ {A = Result (Bor (List ℕ)) Refusal} (Err c.in_err-body.field-0.0) (Err NotOfASending) = c.in_err-body.ensures.value ∙ ap (λ o. ok_or o NotOfASending) c.in_err-body.ensures.ok_part in
    let why : c.in_err-body.field-0.0 ≡ NotOfASending = cc in
    ap shown (r.1 ∙ ap Err (r.2 ∙ why)) ∙ block_none c.args.self.now c.args.i none

pub returns-clause-answer : goal.returns-clause-answer
returns-clause-answer c =
    let v = c.self.view_is in
    let some = sym (ap part_shown c.in_ok-body.ensures.ok_part) ∙ c.get.ensures ∙ (λ j. slice_get (v j).parts (c.from.ensures j)) in
    let b = block_some c.args.self.now c.args.i c.in_ok-body.body.now some in
    (λ j. Ok (record { number = (v j).number; version = (v j).version; part = c.args.i; last = c.last.ensures j; body = b.0 j; check = c.check.ensures j })) ∙ b.1
