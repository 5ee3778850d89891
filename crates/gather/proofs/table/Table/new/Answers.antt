use Rattle.std.proofs.Common.{sym, rules}
use Rattle.gather.proofs.Lists.{fault_few, fault_watchable}
use Rattle.gather.proofs.table.Table.new.Goals as goal

pub of-requires : goal.of-requires
of-requires c = fault_few c.args.watch.now (sym c.in-None.ensures)

pub returns-in-None : goal.returns-in-None
returns-in-None c =
    record { answer = search rules; list_can_be_watched = fault_watchable c.args.watch.now (sym c.in-None.ensures) }
