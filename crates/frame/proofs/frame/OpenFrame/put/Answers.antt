use Rattle.std.proofs.Common.{◌≡◌, ◌<◌, ◌≤◌, List, [], ◌++◌, length, get_or, take, Ok, Err, ℕ, sym, refl, ap, ◌∙◌, subst, arith, rules, Bor}
use Rattle.std.proofs.lemmas.List.{length-map, get_or-map}
use Rattle.std.proofs.lemmas.Result.{err_from_is_err_and}
use Rattle.frame.specs.Frames.{Filled, Holds}
use Rattle.frame.specs.Groups.{Open, IsOpen, block_answer, put_answer, put_blocks, After}
use Rattle.frame.specs.Model.{want, wants}
use Rattle.frame.specs.declared.wanted.Wanted.{Wanted}
use Rattle.frame.specs.declared.frame.Fill.{Fill}
use Rattle.frame.proofs.Puts.{filled_same, holds_same, going_none, going_more, going_back, going_length, going_filled, refused_answer, refused_frame, refused_blocks, whole_answer, whole_frame, whole_holds}
use Rattle.frame.proofs.Reasons.{whole_or_not}
use Rattle.frame.proofs.frame.OpenFrame.put.Goals as goal
use Rattle.frame.proofs.frame.OpenFrame.put.Goals.{After-drop-guard, After-keep}

-- the block at a place of the group
at_place : (ws : List (Bor Wanted)) (i : ℕ) (w : Bor Wanted) → i < length ws → w ≡ get_or ws i w → want w.now ≡ get_or (wants ws) i (want w.now)
at_place ws i w h e = ap (λ v. want v.now) e ∙ sym (get_or-map (λ v. want v.now) ws i w (want w.now) h)

within_group : (ws : List (Bor Wanted)) (i : ℕ) → i < length ws → i < length (wants ws)
within_group ws i h = rw (length-map ws (λ v. want v.now)) h

past_group : (ws : List (Bor Wanted)) (i : ℕ) → length ws ≤ i → length (wants ws) ≤ i
past_group ws i h = rw (length-map ws (λ v. want v.now)) h

-- a frame of the code as it is seen
abbrev seen : List ℕ → Fill → Open
seen bytes fill = record { bytes = bytes; size = fill.size; mark = fill.mark }

-- where a block is refused, the guard leaves the frame as it was
put_back : (c : After-drop-guard) → c.drop-guard.new.self.0 ≡ c.self.inside.fill
put_back c =
    let size = ap (λ (q : Fill). q.size) c.in_err-put_block.ensures.effect.fill ∙ c.loop-i.invariant.size_same in
    c.drop-guard.ensures ∙ (λ i. record { size = size i; mark = c.self.inside.fill.mark })

-- and where all go in, it leaves the mark where it has come to
kept : (c : After-keep) → c.keep.new.self.0 ≡ record { size = c.self.inside.fill.size; mark = c.loop-i.guard.fill.now.mark }
kept c = c.keep.ensures ∙ (λ i. record { size = c.loop-i.invariant.size_same i; mark = c.loop-i.guard.fill.now.mark })

pub loop-i-init : goal.loop-i-init
loop-i-init c =
    let s = c.self.inside in
    let o = c.self.invariant in
    record { going = going_none (omega (arith, o.room, c.self.told)) o.within; size_same = refl }

pub put_block-requires : goal.put_block-requires
put_block-requires c = record {
  room = omega (arith, c.self.invariant.room, c.loop-i.invariant.size_same);
  within = omega (arith, c.loop-i.invariant.going.within, c.loop-i.invariant.size_same);
}

pub loop-i-preserved : goal.loop-i-preserved
loop-i-preserved c =
    let s = c.self.inside in
    let w = want c.index-group-i.result.now in
    let mark = c.loop-i.guard.fill.now.mark in
    let size = c.loop-i.invariant.size_same in
    let goes = c.in_ok-put_block.ensures.effect in
    let ok = c.in_ok-put_block.ensures.answer ∙ ap (λ n. block_answer n mark c.loop-i.i w) size in
    record {
      going = going_more (omega (arith, c.self.invariant.room, c.self.told)) c.loop-i.invariant.going
          (within_group c.args.group.now c.loop-i.i c.loop-i-test.true) w (at_place c.args.group.now c.loop-i.i c.index-group-i.result c.loop-i-test.true c.index-group-i.is)
          c.in_ok-put_block.field-0 ok goes.sent c.put_block.new.self.mark c.put_block.new.bytes goes.bytes goes.mark (omega (arith, goes.within, size));
      size_same = goes.size ∙ size;
    }

-- ---- a block is refused
-- below the mark all is as it was
same_below : (c : After-drop-guard) → take c.self.inside.fill.mark c.put_block.new.bytes ≡ take c.self.inside.fill.mark c.self.inside.bytes
same_below c =
    let s = c.self.inside in
    ap (take s.fill.mark) c.in_err-put_block.ensures.effect.bytes
    ∙ going_back (omega (arith, c.self.invariant.room, c.self.told)) c.loop-i.invariant.going

still_open : (c : After-drop-guard) → IsOpen (seen c.put_block.new.bytes c.drop-guard.new.self.0)
still_open c =
    let s = c.self.inside in
    let o = c.self.invariant in
    let memory : length c.put_block.new.bytes ≡ 60 = search rules in
    subst (λ (q : Fill). IsOpen (seen c.put_block.new.bytes q)) (sym (put_back c))
    (record { memory = memory; begun = o.begun; within = o.within; room = o.room; holds = filled_same (take s.fill.mark s.bytes) (take s.fill.mark c.put_block.new.bytes) (same_below c) o.holds })

pub invariant_of-self : goal.invariant_of-self
invariant_of-self c = still_open c

pub returns-in_err-put_block : goal.returns-in_err-put_block
returns-in_err-put_block c =
    let s = c.self.inside in
    let n = s.fill.size in
    let old = s.fill.mark in
    let ws = wants c.args.group.now in
    let p = err_from_is_err_and c.from_residual.result c.from_residual.ensures.1 in
    let r : c.from_residual.result ≡ Err c.in_err-put_block.field-0.0 = p.1 ∙ ap Err p.2 in
    let room : n ≤ length s.bytes = omega (arith, c.self.invariant.room, c.self.told) in
    let going = c.loop-i.invariant.going in
    let mark = c.loop-i.guard.fill.now.mark in
    let lt = within_group c.args.group.now c.loop-i.i c.loop-i-test.true in
    let w = want c.index-group-i.result.now in
    let at = at_place c.args.group.now c.loop-i.i c.index-group-i.result c.loop-i-test.true c.index-group-i.is in
    let no = c.in_err-put_block.ensures.answer ∙ ap (λ m. block_answer m mark c.loop-i.i w) c.loop-i.invariant.size_same in
    let none : put_blocks n old ws ≡ [] = refused_blocks room going lt w at c.in_err-put_block.field-0.0 no in
    let a : c.from_residual.result ≡ put_answer n old 0 ws = r ∙ refused_answer room going lt w at c.in_err-put_block.field-0.0 no in
    let back = sym (put_back c) in
    rw (← c.self.view_is)
    (record {
      answer = a;
      whole_or_not_at_all = whole_or_not (seen s.bytes s.fill) ws c.self.invariant.within c.from_residual.result a;
      frame = subst (λ (q : Fill). After (seen s.bytes s.fill) ws c.from_residual.result (seen c.put_block.new.bytes q)) back
          (rw r (refused_frame room going lt w at c.in_err-put_block.field-0.0 no c.put_block.new.bytes c.in_err-put_block.ensures.effect.bytes));
      blocks = λ bs h. subst (λ (q : Fill). Holds (take q.mark c.put_block.new.bytes) (bs ++ put_blocks n old ws)) back
          (subst (λ q. Holds (take old c.put_block.new.bytes) (bs ++ q)) (sym none) (holds_same (take old s.bytes) (take old c.put_block.new.bytes) bs (same_below c) h));
      is_open = (c.self.invariant, still_open c);
    })

-- ---- all blocks are in
goes_on : (c : After-keep) → IsOpen (seen c.loop-i.bytes c.keep.new.self.0)
goes_on c =
    let s = c.self.inside in
    let o = c.self.invariant in
    let going = c.loop-i.invariant.going in
    let f : Filled (take c.loop-i.guard.fill.now.mark c.loop-i.bytes) =
    going_filled (omega (arith, o.room, c.self.told)) going o.holds in
    let memory : length c.loop-i.bytes ≡ 60 = going_length (omega (arith, o.room, c.self.told)) going ∙ o.memory in
    subst (λ (q : Fill). IsOpen (seen c.loop-i.bytes q)) (sym (kept c)) (record { memory = memory; begun = omega (arith, o.begun, going.place); within = going.within; room = o.room; holds = f })

pub invariant_of-self-2 : goal.invariant_of-self-2
invariant_of-self-2 c = goes_on c

pub returns : goal.returns
returns c =
    let s = c.self.inside in
    let n = s.fill.size in
    let old = s.fill.mark in
    let ws = wants c.args.group.now in
    let room : n ≤ length s.bytes = omega (arith, c.self.invariant.room, c.self.told) in
    let going = c.loop-i.invariant.going in
    let mark = c.loop-i.guard.fill.now.mark in
    let past = past_group c.args.group.now c.loop-i.i c.loop-i-test.false in
    let a : Ok tt ≡ put_answer n old 0 ws = whole_answer room going past in
    let is = sym (kept c) in
    rw (← c.self.view_is)
    (record {
      answer = a;
      whole_or_not_at_all = whole_or_not (seen s.bytes s.fill) ws c.self.invariant.within (Ok tt) a;
      frame = subst (λ (q : Fill). After (seen s.bytes s.fill) ws (Ok tt) (seen c.loop-i.bytes q)) is (whole_frame room going past);
      blocks = λ bs h. subst (λ (q : Fill). Holds (take q.mark c.loop-i.bytes) (bs ++ put_blocks n old ws)) is (whole_holds room going past bs h);
      is_open = (c.self.invariant, goes_on c);
    })
