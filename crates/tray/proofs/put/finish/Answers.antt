use Rattle.std.proofs.Common.{◌≡◌, ◌+◌, ◌≤◌, true, length, sym, ◌∙◌, arith}
use Rattle.std.proofs.lemmas.Bool.{cond-true}
use Rattle.std.proofs.lemmas.Bool.Decides.{nat_tests}
use Rattle.tray.specs.Trays.{fault_section}
use Rattle.tray.specs.Writing.{finish_unfit, finish_end, finish_put}
use Rattle.tray.proofs.Writings.{finishes, finish_fits}
use Rattle.tray.proofs.put.finish.Goals as goal
use Rattle.tray.proofs.put.finish.Goals.{then-at-eq0-via-then-at-eq0, then-at-eq0-via-else-at-eq0+then-not-has_room}

unfit : (c : goal.Joined-then-at-eq0) → finish_unfit c.args.faults.now c.args.at (length c.args.tray.now) ≡ true
unfit c = elim c.then-at-eq0.branch [
  | then-at-eq0-via-then-at-eq0 w ↦ (let zero = w.if-at-eq0.true in grind (arith, nat_tests))
  | then-at-eq0-via-else-at-eq0+then-not-has_room w ↦ (let size = c.section_size-size.ensures.size in grind (arith, nat_tests))
]

pub returns-then-at-eq0 : goal.returns-then-at-eq0
unfolding finish_end finish_put
returns-then-at-eq0 c =
    let answer = sym (cond-true _ _ _ (unfit c)) in
    let tray = sym (cond-true _ _ _ (unfit c)) in
    record { answer = answer; tray = tray; is_whole = finishes c.args.tray.now c.args.messages c.args.at c.args.faults.now _ _ answer tray; few = c.section_size-size.ensures.few }

pub returns : goal.returns
returns c =
    let t = c.args.tray.now in
    let fs = c.args.faults.now in
    let room : c.args.at + length (fault_section fs) ≤ length t = grind (arith, nat_tests) in
    let both = finish_fits t c.args.messages c.args.at fs (λ e. omega arith) room in
    let answer = c.put_faults.ensures.answer ∙ both.0 in
    let tray = c.put_faults.ensures.tray ∙ both.1 in
    record { answer = answer; tray = tray; is_whole = finishes t c.args.messages c.args.at fs _ _ answer tray; few = c.section_size-size.ensures.few }
