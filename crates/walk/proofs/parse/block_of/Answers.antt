use Rattle.std.proofs.Common.{◌≡◌, ◌-◌, ◌/◌, ◌%◌, ◌≤◌, true, cond, not, ◌&&◌, eqb, Some, None, take, drop, sym, ap, ◌∙◌, subst, arith}
use Rattle.std.proofs.lemmas.Result.{err_from_is_err_and}
use Rattle.walk.specs.Fields.{word, count_of, has_check, least_count, cause_number, block_at}
use Rattle.walk.proofs.Causes.{part_above, check_short, sound, byte_there, tail_length, body_there, check_all, least_all}
use Rattle.walk.proofs.parse.block_of.Goals as goal

pub returns-then-part-last : goal.returns-then-part-last
returns-then-part-last c =
    let bs = c.args.rest.now in
    let s = c.in_ok-covered.ensures in
    let h = rw c.in_ok-number.ensures.ok_part at c.split_first_chunk.ensures.cases in
    let b = byte_there bs s.0 c.in_ok-number.field-0-0.now c.in_ok-number.bytes.now (h.0 ∙ ap (take 3) s.1) (h.1 ∙ ap (drop 3) s.1) 2 (omega arith) in
    part_above bs s.0 (omega (arith, b))

pub returns-in_err-body : goal.returns-in_err-body
returns-in_err-body c =
    let bs = c.args.rest.now in
    let s = c.in_ok-covered.ensures in
    let h = rw c.in_ok-number.ensures.ok_part at c.split_first_chunk.ensures.cases in
    let front = h.0 ∙ ap (take 3) s.1 in
    let tail = h.1 ∙ ap (drop 3) s.1 in
    let b = byte_there bs s.0 c.in_ok-number.field-0-0.now c.in_ok-number.bytes.now front tail 2 (omega arith) in
    let n = tail_length bs s.0 c.in_ok-number.field-0-0.now c.in_ok-number.bytes.now front tail in
    let short = c.in_err-body.ensures in
    let has : has_check bs ≡ true = (λ i. eqb (sym b i / 4 % 4) (sym b i % 4) && not (eqb (sym b i % 4) 0)) ∙ sym c.last_of_several.ensures ∙ short.1 in
    let r = err_from_is_err_and c.from_residual-in_err-body.result c.from_residual-in_err-body.ensures.1 in
    rw r.1 (ap cause_number (r.2 ∙ short.0) ∙ check_short bs s.0 (omega (arith, b, c.if-part-last.false)) has (omega (arith, n, short.2)))

pub returns : goal.returns
unfolding block_at
returns c =
    let bs = c.args.rest.now in
    let s = c.in_ok-covered.ensures in
    let h = rw c.in_ok-number.ensures.ok_part at c.split_first_chunk.ensures.cases in
    let f = c.in_ok-number.field-0-0.now in
    let t = c.in_ok-number.bytes.now in
    let front = h.0 ∙ ap (take 3) s.1 in
    let tail = h.1 ∙ ap (drop 3) s.1 in
    let a = byte_there bs s.0 f t front tail 0 (omega arith) in
    let b = byte_there bs s.0 f t front tail 2 (omega arith) in
    let n = tail_length bs s.0 f t front tail in
    let has : c.last_of_several.result ≡ has_check bs = c.last_of_several.ensures ∙ (λ i. eqb (b i / 4 % 4) (b i % 4) && not (eqb (b i % 4) 0)) in
    let r = c.in_ok-body.ensures in
    let body = r.0 ∙ body_there bs s.0 f t front tail c.last_of_several.result ∙ ap (λ k. take (cond k (count_of bs - 9) (count_of bs - 5)) (drop 3 bs)) has in
    let check = r.1 ∙ check_all bs s.0 f t front tail c.last_of_several.result r.2 ∙ ap (λ k. cond k (Some (word (drop (count_of bs - 6) bs))) None) has in
    let least : least_count bs ≤ count_of bs = subst (λ k. cond k 9 5 ≤ count_of bs) has (least_all bs s.0 f t front tail c.last_of_several.result r.2) in (
      sound bs s.0 (omega (arith, b, c.if-part-last.false)) least,
      λ i. record { number = a i; version = b i / 16; part = b i / 4 % 4; last = b i % 4; body = body i; check = check i },
    )
