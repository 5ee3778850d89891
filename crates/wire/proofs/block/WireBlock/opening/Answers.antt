use Rattle.std.proofs.Common.{◌≡◌, ◌+◌, ◌-◌, ◌*◌, [], ◌∷◌, sym, ap, ◌∙◌, subst, arith}
use Rattle.wire.specs.Wire.{head, count, Fits}
use Rattle.wire.proofs.Wires.{length_block, length_check, count_is}
use Rattle.wire.proofs.block.WireBlock.opening.Goals as goal

pub overflow_sub-follows : goal.overflow_sub-follows
overflow_sub-follows c = omega (arith, length_block c.args.self.now, c.length.ensures)

pub overflow_cast-follows : goal.overflow_cast-follows
overflow_cast-follows c =
    let b = c.args.self.now in
    let f = subst Fits c.self.view_is c.self.invariant in
    record { fits = omega (arith, length_block b, length_check b.check, c.length.ensures, f.body) }

pub returns : goal.returns
unfolding head
returns c =
    let v = c.self.view_is in
    let n : c.length.result - 2 ≡ count c.args.self.now = ap (λ m. m - 2) c.length.ensures ∙ sym (count_is c.args.self.now) in
    (λ j. (v j).number ∷ n j ∷ ((v j).version * 16 + (v j).part * 4 + (v j).last) ∷ [])
