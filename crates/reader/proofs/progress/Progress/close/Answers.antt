use Rattle.std.proofs.Common.{refl}
use Rattle.reader.proofs.Closing.{closed}
use Rattle.reader.proofs.progress.Progress.close.Goals as goal

pub returns : goal.returns
returns c seen old T p l wide found =
    closed seen old c.args.tray.now _ c.args.self T p c.finish.result _ c.finish.ensures.is_whole l wide found c.unwrap_or.ensures refl
