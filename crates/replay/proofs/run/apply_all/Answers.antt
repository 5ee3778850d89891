use Rattle.std.proofs.Common.{is_ok, ap, ◌∙◌}
use Rattle.std.proofs.ResultArms.{chosen}
use Rattle.reader.specs.Calls.{setting, state}
use Rattle.replay.proofs.Turns.{sofar_on}
use Rattle.replay.proofs.run.apply_all.Goals as goal

pub loop-call-preserved : goal.loop-call-preserved
loop-call-preserved g c =
    let L = g.L.LineSystem in
    let first = c.args.reader.now in
    let inv = c.loop-call.invariant in
    let told = c.in_ok-outcome.ensures in
    let pushed = chosen _ _ _ _ c.push.ensures.items (ap is_ok c.in_ok-push.was) in (
      told.same ∙ inv.0,
      sofar_on (setting L first) (state first) c.args.calls.now (setting L c.loop-call.reader) inv.0 (state c.loop-call.reader) (state c.apply.new.reader) _ _ c.loop-call.call-index _ c.in_ok-outcome.outcome
          c.loop-call-test.true pushed told.outcome told.next told.prolongs inv.1,
    )
