use Rattle.std.proofs.Common.{◌≡◌, ℕ, ◌+◌, ◌-◌, ◌*◌, ◌<◌, length, ◌∙◌, subst, inl, inr, arith}
use Rattle.line.proofs.Sizes.{symbol_some, symbol_none}
use Rattle.line.proofs.symbols.level.Goals as goal

pub returns-in-Some : goal.returns-in-Some
returns-in-Some c =
    let w = c.weight-width.result in
    let at = c.args.k * w in
    let n : (at + w) - at ≡ w = omega arith in
    record {
      answer = c.total.ensures.sum ∙ symbol_some c.args.line.now c.in-Some.samples.now c.args.k w ((at + w) - at) c.weight-width.ensures.answer n c.in-Some.ensures.lookup.0.2;
      small = c.total.ensures.small;
    }

pub returns-in-None : goal.returns-in-None
returns-in-None c =
    let is = c.weight-width.ensures.answer in
    let line = c.args.line.now in
    let out : length line < c.args.k * c.weight-width.result + c.weight-width.result =
    elim c.in-None.ensures.lookup.0 [ inl less ↦ omega arith | inr past ↦ past ] in
    record {
      answer = symbol_none line c.args.k (subst (λ (w : ℕ). length line < c.args.k * w + w) is out);
      small = omega arith;
    }
