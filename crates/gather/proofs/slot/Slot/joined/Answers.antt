use Rattle.std.proofs.Common.{◌+◌, ◌<◌, length, take, ap, ◌∙◌, arith, rules, length-append, length-take}
use Rattle.gather.specs.States.{last_in}
use Rattle.gather.proofs.Joins.{turn, room_left, some_more, none_more}
use Rattle.gather.proofs.slot.Slot.joined.Goals as goal

pub push-requires : goal.push-requires
push-requires c =
    let g = c.in-Gathering in
    let self = c.args.self.now in
    let x = c.in-Some in
    let xs = c.loop-k.yielded in
    let at = turn (take (g.last + 1) g.parts) self.bytes c.into_iter-k-iterator.result (search rules) (search rules) (search rules) xs c.loop-k.k-iterator c.next.new.self c.next.result (x.k, (x.part, x.bytes)) c.loop-k.yielded_by x.is c.next.ensures.steps in
    let l = ap last_in g.is in
    let few : length xs < 4 = omega (arith, at.1, self.few, l, length-take (g.last + 1) g.parts) in
    let fits = room_left (length xs) (length c.body.result.now) self.state self.bytes few (rw (← at.0) c.body.ensures.short) in
    rw c.loop-k.invariant fits

pub loop-k-preserved-in-Some-part : goal.loop-k-preserved-in-Some-part
loop-k-preserved-in-Some-part c =
    let g = c.in-Gathering in
    let self = c.args.self.now in
    let x = c.in-Some in
    let xs = c.loop-k.yielded in
    let at = turn (take (g.last + 1) g.parts) self.bytes c.into_iter-k-iterator.result (search rules) (search rules) (search rules) xs c.loop-k.k-iterator c.next.new.self c.next.result (x.k, (x.part, x.bytes)) c.loop-k.yielded_by x.is c.next.ensures.steps in
    let within : length xs < g.last + 1 = omega (arith, at.1, length-take (g.last + 1) g.parts) in
    let more = some_more self.state self.bytes g.version g.last g.parts g.is (length xs) x.part.now c.loop-k.joined within c.loop-k.invariant at.2 c.in-Some-part.part x.bytes.now c.body.result.now c.in-Some-part.is at.3 (rw (← at.0) c.body.ensures.value) in
    rw length-append (c.push.ensures ∙ more)

pub loop-k-preserved : goal.loop-k-preserved
loop-k-preserved c =
    let g = c.in-Gathering in
    let self = c.args.self.now in
    let x = c.in-Some in
    let xs = c.loop-k.yielded in
    let at = turn (take (g.last + 1) g.parts) self.bytes c.into_iter-k-iterator.result (search rules) (search rules) (search rules) xs c.loop-k.k-iterator c.next.new.self c.next.result (x.k, (x.part, x.bytes)) c.loop-k.yielded_by x.is c.next.ensures.steps in
    let within : length xs < g.last + 1 = omega (arith, at.1, length-take (g.last + 1) g.parts) in
    rw length-append (none_more self.state self.bytes g.version g.last g.parts g.is (length xs) x.part.now c.loop-k.joined within c.loop-k.invariant at.2 c.in_default-part.not-Some)
