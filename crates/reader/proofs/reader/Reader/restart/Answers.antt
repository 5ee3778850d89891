use Rattle.std.proofs.Common.{◌≡◌, refl}
use Rattle.gather.specs.Model.{watching, gathered}
use Rattle.runs.specs.Pasts.{restart, restarts}
use Rattle.runs.specs.Reaching.{State, new}
use Rattle.reader.specs.Calls.{state}
use Rattle.reader.proofs.Keeping.{keeps}
use Rattle.reader.proofs.Wired.{lines_carry}
use Rattle.reader.proofs.reader.Reader.restart.Goals as goal

pub returns : goal.returns
returns g c =
    let r = c.args.self.now in
    let s = r.system in
    let L = g.L.LineSystem in
    let law = g.met.L.LineSystem in
    let after : State = record { gathered = gathered c.clear.new.self; floor = 0 } in
    let is : after ≡ new = λ i. record { gathered = c.clear.ensures.next i; floor = 0 } in
    let carry = lines_carry (L.draws s) (L.drawn s) (L.tolerates s) (L.carries s) (law.drawing s) (law.tolerance s) in
    record {
      next = is;
      same = (refl {a = s}, c.clear.ensures.same);
      keeps_the_promise = keeps (L.depth s) (L.found s) (watching r.memory.table) (L.draws s) (L.drawn s) (L.tolerates s) (L.carries s) (law.reading s) carry (state r) restart restarts after is;
    }
