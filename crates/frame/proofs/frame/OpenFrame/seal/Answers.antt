use Rattle.std.proofs.Common.{◌≡◌, ◌≤◌, length, arith, rules}
use Rattle.frame.proofs.Seals.{sealed_payload, sealed_blocks, sealed_over}
use Rattle.frame.proofs.frame.OpenFrame.seal.Goals as goal

pub invariant_of-result : goal.invariant_of-result
invariant_of-result c =
    let s = c.self.inside in
    let o = c.self.invariant in
    let l : length s.bytes ≡ 60 = search rules in
    let e = c.fill.ensures.after (λ y h. search rules) in
    let low : 2 ≤ s.fill.size = omega (arith, o.begun, o.within) in
    (low, o.room, sealed_over s.fill.mark s.fill.size s.bytes c.fill.new.self l low o.within o.room e o.holds)

pub returns : goal.returns
returns c =
    let s = c.self.inside in
    let o = c.self.invariant in
    let l : length s.bytes ≡ 60 = search rules in
    let e = c.fill.ensures.after (λ y h. search rules) in
    let low : 2 ≤ s.fill.size = omega (arith, o.begun, o.within) in
    rw (← c.self.view_is)
    (record {
      payload = sealed_payload s.fill.mark s.fill.size s.bytes c.fill.new.self l low o.within o.room e;
      blocks = sealed_blocks s.fill.mark s.fill.size s.bytes c.fill.new.self l low o.within o.room e;
      was_open = o;
      sealed = sealed_over s.fill.mark s.fill.size s.bytes c.fill.new.self l low o.within o.room e o.holds;
    })
