use Rattle.std.proofs.Common.{◌≡◌, [], map, Ok, vec_items, Option, sym, ◌∙◌, subst}
use Rattle.gather.specs.Watching.{watch_fault}
use Rattle.runs.specs.Pasts.{Setting}
use Rattle.runs.specs.Reaching.{new, Reached}
use Rattle.reader.specs.Calls.{setting, state}
use Rattle.reader.specs.Settings.{setting_of}
use Rattle.reader.proofs.Keeping.{whole}
use Rattle.reader.proofs.Wired.{lines_carry}
use Rattle.replay.specs.Replaying.{plain, run, past_of, Refuses}
use Rattle.replay.proofs.Ends.{made, alike}
use Rattle.replay.proofs.run.replay.Goals as goal

pub returns : goal.returns
returns g c =
    let L = g.L.LineSystem in
    let law = g.met.L.LineSystem in
    let system = c.args.system in
    let watch = c.args.watch.now in
    let calls = c.args.calls.now in
    let reader = c.in_ok-reader.reader in
    let out = c.in_ok-apply_all.field-0 in
    let m = made system watch (watch_fault watch) reader c.in_ok-reader.ensures.answer in
    let s = setting_of (L.depth system) (L.found system) watch in
    let same : setting L reader ≡ s = λ i. setting_of (L.depth (m.system_is i)) (L.found (m.system_is i)) (m.watch_is i) in
    let outcomes : map plain (vec_items out) ≡ run s new calls = c.in_ok-apply_all.ensures.outcomes ∙ (λ i. run (same i) (m.state_is i) calls) in
    let led = c.in_ok-apply_all.ensures.prolongs [] m.state_is in
    let reached = subst (λ (z : Setting). Reached z (past_of calls (map plain (vec_items out))) (state c.apply_all.new.reader)) same led in
    record {
      refused_just_when_due = subst (λ (o : Option _). Refuses o (Ok out)) (sym m.no_fault) tt;
      each_call_has_its_outcome = alike s new calls (vec_items out) outcomes;
      each_answer_and_tray_byte_follows_from_the_calls = outcomes;
      keeps_the_promise =
          whole (L.depth system) (L.found system) watch (L.draws system) (L.drawn system) (L.tolerates system) (L.carries system) (law.reading system)
          (lines_carry (L.draws system) (L.drawn system) (L.tolerates system) (L.carries system) (law.drawing system) (law.tolerance system)) (past_of calls (map plain (vec_items out))) _ reached;
    }
