use Rattle.std.proofs.Common.{◌+◌, ◌<◌, ◌∙◌, tests, rules, length, ap, arith}
use Rattle.std.proofs.lemmas.List.{length-take, length-drop}
use Rattle.std.proofs.lemmas.Bool.{lt-ltb}
use Rattle.std.specs.Prelude.{slice_index}
use Rattle.refusal.specs.declared.Refusal.TheVariants.{Body}
use Rattle.buffers.specs.Places.{shifted}
use Rattle.buffers.proofs.Steps.{refuses, stop, skip, fails}
use Rattle.body.specs.Identifiers.{is_alphanumeric}
use Rattle.body.specs.Reading.{time_at, time_fault}
use Rattle.body.proofs.Head.{id_tests}
use Rattle.body.proofs.Parts.{part_read}
use Rattle.body.proofs.content.content_in.Goals as goal

pub returns-in-Some : goal.returns-in-Some
returns-in-Some c =
    let b = c.args.body.now in
    let until = c.in_ok-valid_until.ensures ∙ part_read _ c.then.result (time_fault 3 b) (time_at 3 b) _ c.then.ensures.variant c.then.ensures.some (λ r k. search (rules, tests)) in
    let left = id_tests is_alphanumeric b c.in_ok-head.field-0 c.in_ok-valid_until.valid_until c.id_place-at.result c.min.result c.wrong_character.result c.in_ok-head.ensures c.if-not-fits_length.ensures.answer until c.id_place-at.ensures.place c.min.ensures c.wrong_character.ensures.answer in
    refuses Body _ _ _ (left ∙ stop _ _ _ (ap (shifted c.id_place-at.result) c.in-Some.is))

pub returns-then-id-size : goal.returns-then-id-size
returns-then-id-size c =
    let b = c.args.body.now in
    let until = c.in_ok-valid_until.ensures ∙ part_read _ c.then.result (time_fault 3 b) (time_at 3 b) _ c.then.ensures.variant c.then.ensures.some (λ r k. search (rules, tests)) in
    let left = id_tests is_alphanumeric b c.in_ok-head.field-0 c.in_ok-valid_until.valid_until c.id_place-at.result c.min.result c.wrong_character.result c.in_ok-head.ensures c.if-not-fits_length.ensures.answer until c.id_place-at.ensures.place c.min.ensures c.wrong_character.ensures.answer in
    let short : length b < c.id_place-at.result + slice_index c.in_ok-head.field-0 1 = omega (arith, simp (length-take, length-drop) at c.if-id-size.true) in
    refuses Body _ _ _ (left ∙ (skip _ _ (ap (shifted c.id_place-at.result) c.in_default.is) ∙ stop _ _ _ (fails _ _ (lt-ltb _ _ short))))
