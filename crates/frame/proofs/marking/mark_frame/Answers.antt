use Rattle.std.proofs.Common.{◌≡◌, List, ◌++◌, length, drop, Ok, Err, sym, refl, ap, ◌∙◌, subst, arith, Bor}
use Rattle.std.proofs.lemmas.List.{length-map}
use Rattle.std.proofs.lemmas.Result.{err_from_is_err_and}
use Rattle.frame.specs.Frames.{Holds, Sealed}
use Rattle.frame.specs.Marking.{not_refused, groups_refusals, frame_blocks, frame_payload}
use Rattle.frame.specs.Groups.{filled}
use Rattle.frame.specs.Model.{wants, groups_want}
use Rattle.frame.specs.declared.wanted.Wanted.{Wanted}
use Rattle.frame.proofs.Openings.{opening_ok, opening_err}
use Rattle.frame.proofs.Markings.{frame_short, frame_wrong, frame_right, made_holds, made_payload, made_noted, blocks_kept}
use Rattle.frame.proofs.marking.mark_frame.Goals as goal

many : (gs : List (Bor (List (Bor Wanted)))) → length (groups_want gs) ≡ length gs
many gs = length-map gs (λ g. wants g.now)

pub returns-then-refused-groups : goal.returns-then-refused-groups
returns-then-refused-groups c =
    let gs = c.args.groups.now in
    let n = many gs in
    record { answer = frame_short (length c.args.refused.now) c.args.size (groups_want gs) (omega (arith, c.if-refused-groups.true)); holds_the_groups_not_refused = tt; refused = refl }

pub returns-in_err-frame : goal.returns-in_err-frame
returns-in_err-frame c =
    let gs = c.args.groups.now in
    let n = many gs in
    let p = err_from_is_err_and c.from_residual.result c.from_residual.ensures.1 in
    let o = opening_err c.args.size c.in_err-frame.field-0.0 c.in_err-frame.ensures.answer in
    record {
      answer = p.1 ∙ ap Err (p.2 ∙ o.1) ∙ frame_wrong (length c.args.refused.now) c.args.size (groups_want gs) (omega (arith, c.if-refused-groups.false)) o.0;
      holds_the_groups_not_refused = rw p.1 tt;
      refused = rw p.1 refl;
    }

pub returns : goal.returns
returns c =
    let gs = groups_want c.args.groups.now in
    let n = many c.args.groups.now in
    let f0 = c.in_ok-frame.frame in
    let f1 = c.put_each.new.self in
    let o = opening_ok c.args.size f0 c.in_ok-frame.ensures.answer in
    let holds : Holds (filled f1) (frame_blocks c.args.size gs) = made_holds c.args.size gs f0 f1 o.1 c.put_each.ensures.blocks in
    let e : c.seal.result ≡ frame_payload c.args.size gs =
    made_payload c.args.size gs f0 f1 o.1 holds c.put_each.ensures.size c.put_each.ensures.mark c.seal.result c.seal.ensures.payload in
    let noted : c.put_each.new.refused ≡ groups_refusals c.args.size 2 gs ++ drop (length gs) c.args.refused.now =
    made_noted c.args.size gs f0 f1 o.1 (length c.args.groups.now) c.args.refused.now c.put_each.new.refused (sym n) c.put_each.ensures.refused in
    let same : not_refused gs c.put_each.new.refused ≡ frame_blocks c.args.size gs = ap (not_refused gs) noted ∙ blocks_kept c.args.size 2 gs (drop (length gs) c.args.refused.now) in
    record {
      answer = ap Ok e ∙ frame_right (length c.args.refused.now) c.args.size gs (omega (arith, c.if-refused-groups.false)) o.0;
      holds_the_groups_not_refused = subst (Sealed c.seal.result) (sym same) (c.seal.ensures.blocks (frame_blocks c.args.size gs) holds);
      refused = noted;
    }
