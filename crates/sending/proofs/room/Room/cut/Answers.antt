use Rattle.std.proofs.Common.{◌≡◌, ◌+◌, ◌-◌, min, List, ℕ, [], ◌∷◌, ◌++◌, length, take, drop, sym, ap, ◌∙◌, subst, append_assoc, arith}
use Rattle.std.proofs.lemmas.List.{length-append, flat_map_more}
use Rattle.sending.specs.Cuts.{room_bytes, pieces}
use Rattle.sending.specs.Storage.{joint, Plain}
use Rattle.sending.proofs.Givens.{plain_more}
use Rattle.sending.proofs.Pieces.{take_up_to, drop_up_to, pieces_next}
use Rattle.sending.proofs.room.Room.cut.Goals as goal

pub loop-i-preserved : goal.loop-i-preserved
loop-i-preserved c =
    let w = room_bytes c.args.self - 7 in
    let ps = c.loop-i.parts in
    let m = c.loop-i.rest.now in
    let n = c.parts_for-i-end.result - c.loop-i._i in
    let t : c.min.result ≡ min w (length m) = omega (arith, c.min.ensures, c.width.ensures) in
    let a : c.split_at.result.0.now ≡ take w m = c.split_at.ensures.front ∙ take_up_to m w c.min.result t in
    let b : c.split_at.result.1.now ≡ drop w m = c.split_at.ensures.back ∙ drop_up_to m w c.min.result t in
    let less : n - 1 ≡ c.parts_for-i-end.result - (c.loop-i._i + 1) = omega arith in
    record {
      cut = ap (λ qs. qs ++ pieces (c.parts_for-i-end.result - (c.loop-i._i + 1)) w c.split_at.result.1.now) c.push.ensures.parts ∙ append_assoc ps (c.split_at.result.0.now ∷ []) _
          ∙ (λ j. ps ++ (a j ∷ pieces (sym less j) w (b j))) ∙ ap (λ qs. ps ++ qs) (sym (pieces_next n w m (omega arith))) ∙ c.loop-i.invariant.cut;
      count = omega (arith, ap length c.push.ensures.parts, length-append ps (c.split_at.result.0.now ∷ []), c.loop-i.invariant.count);
      size = omega (
        arith,
        ap (λ qs. length (joint qs)) c.push.ensures.parts,
        ap length (sym (flat_map_more (λ (p : List ℕ). p) [] ps c.split_at.result.0.now)),
        length-append (joint ps) c.split_at.result.0.now,
        c.split_at.ensures.back_len,
        c.split_at.ensures.front_len,
        c.loop-i.invariant.size,
      );
      plain = subst Plain (sym c.push.ensures.parts) (plain_more ps c.split_at.result.0.now c.loop-i.invariant.plain c.push.ensures.plain);
    }

pub returns-clause-plain : goal.returns-clause-plain
returns-clause-plain c = subst Plain (sym c.push-2.ensures.parts) (plain_more c.loop-i.parts c.loop-i.rest.now c.loop-i.invariant.plain c.push-2.ensures.plain)
