use Rattle.std.proofs.Common.{◌≡◌, ℕ, ◌<◌, ◌≤◌, List, ◌++◌, length, get_or, drop, set, sym, ap, ◌∙◌, arith, Bor}
use Rattle.std.proofs.lemmas.List.{length-map, get_or-map}
use Rattle.frame.specs.Marking.{groups_refusals}
use Rattle.frame.specs.Groups.{filled}
use Rattle.frame.specs.Model.{wants, groups_want}
use Rattle.frame.specs.declared.wanted.Wanted.{Wanted}
use Rattle.frame.proofs.Markings.{after_mark, marking_none, marking_more, marked_mark, marked_holds, marked_noted}
use Rattle.frame.proofs.frame.OpenFrame.put_each.Goals as goal

many : (gs : List (Bor (List (Bor Wanted)))) → length (groups_want gs) ≡ length gs
many gs = length-map gs (λ g. wants g.now)

at_place : (gs : List (Bor (List (Bor Wanted)))) (i : ℕ) (g : Bor (List (Bor Wanted))) → i < length gs → g ≡ get_or gs i g → wants g.now ≡ get_or (groups_want gs) i (wants g.now)
at_place gs i g h e = ap (λ v. wants v.now) e ∙ sym (get_or-map (λ v. wants v.now) gs i g (wants g.now) h)

pub loop-i-init : goal.loop-i-init
loop-i-init c =
    let s = c.args.self.now in
    let n = many c.args.groups.now in
    marking_none (omega (arith, c.requires.room))

pub loop-i-preserved : goal.loop-i-preserved
loop-i-preserved c =
    let s = c.args.self.now in
    let n = many c.args.groups.now in
    let f = c.loop-i.self in
    let g = wants c.index-groups-i.result.now in
    let a = after_mark f c.put.new.self g c.put.result c.put.ensures.answer c.put.ensures.frame in
    marking_more (omega (arith, c.requires.room)) c.loop-i.invariant
    (omega (arith, c.loop-i-test.true)) g (at_place c.args.groups.now c.loop-i.i c.index-groups-i.result c.loop-i-test.true c.index-groups-i.is)
    c.put.result c.put.ensures.answer c.put.new.self.size c.put.new.self.mark (filled c.put.new.self) a.1 a.0 c.put.ensures.blocks
    (set c.loop-i.refused c.loop-i.i c.err.result) (ap (λ r. set c.loop-i.refused c.loop-i.i r) c.err.ensures.value)

pub returns : goal.returns
returns c =
    let s = c.args.self.now in
    let gs = groups_want c.args.groups.now in
    let n = many c.args.groups.now in
    let f = c.loop-i.self in
    let room : length gs ≤ length c.args.refused.now = omega (arith, c.requires.room) in
    let past : length gs ≤ c.loop-i.i = omega (arith, c.loop-i-test.false) in
    let end : c.loop-i.i ≤ length gs = omega (arith, c.loop-i.auto.i-end) in
    record {
      size = c.loop-i.invariant.size_same;
      mark = marked_mark room c.loop-i.invariant past end;
      blocks = marked_holds room c.loop-i.invariant past end;
      refused = marked_noted room c.loop-i.invariant past end
          ∙ ap (λ k. groups_refusals s.size s.mark gs ++ drop k c.args.refused.now) n;
    }
