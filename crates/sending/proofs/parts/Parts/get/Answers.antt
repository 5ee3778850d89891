use Rattle.std.proofs.Common.{◌-◌, [], take, drop, Some, sym, ap, ◌∙◌, arith, rules}
use Rattle.std.proofs.lemmas.Option.{slice_get_past, slice_get-get_or}
use Rattle.sending.proofs.Stores.{long, part_room, part_there}
use Rattle.sending.proofs.parts.Parts.get.Goals as goal

pub returns-then-i-self : goal.returns-then-i-self
returns-then-i-self c =
    sym (slice_get_past c.args.self.now c.args.i (omega (arith, long c.self.inside c.self.invariant c.args.self.now c.self.view_is)))

pub start-to-requires : goal.start-to-requires
start-to-requires c = omega (arith, long c.self.inside c.self.invariant c.args.self.now c.self.view_is)

pub slice_bounds-result-count : goal.slice_bounds-result-count
slice_bounds-result-count c =
    let l = long c.self.inside c.self.invariant c.args.self.now c.self.view_is in
    let r = part_room c.self.inside c.self.invariant c.args.self.now c.self.view_is c.args.i (omega arith) in
    omega (arith, c.start-from.ensures, c.start-to.ensures)

pub slice_bounds-result-start : goal.slice_bounds-result-start
slice_bounds-result-start c =
    let l = long c.self.inside c.self.invariant c.args.self.now c.self.view_is in
    let r = part_room c.self.inside c.self.invariant c.args.self.now c.self.view_is c.args.i (omega arith) in
    search rules

pub slice_bounds-result-end : goal.slice_bounds-result-end
slice_bounds-result-end c =
    let l = long c.self.inside c.self.invariant c.args.self.now c.self.view_is in
    let r = part_room c.self.inside c.self.invariant c.args.self.now c.self.view_is c.args.i (omega arith) in
    search rules

pub returns : goal.returns
returns c =
    let ps = c.args.self.now in
    let i = c.args.i in
    let l = long c.self.inside c.self.invariant ps c.self.view_is in
    let a = c.start-from.ensures in
    let b = c.start-to.ensures in
    (λ j. Some (take (b j - a j) (drop (a j) c.self.inside.bytes)))
    ∙ ap Some (part_there c.self.inside c.self.invariant ps c.self.view_is i (omega arith)) ∙ sym (slice_get-get_or ps i [] (omega arith))
