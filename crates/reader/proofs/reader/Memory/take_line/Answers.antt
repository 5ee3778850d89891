use Rattle.std.proofs.Common.{◌≡◌, ℕ, ◌≤◌, length, take, IfSome, Some, None, Option, sym, refl, subst, arith, rules}
use Rattle.std.proofs.lemmas.List.{length-take-le}
use Rattle.gather.specs.Model.{watching, gathered}
use Rattle.reader.specs.Following.{followed, at_start}
use Rattle.reader.specs.Stands.{LineStands}
use Rattle.reader.specs.Answers.{seen, Taken}
use Rattle.reader.proofs.Lines.{begins, ended}
use Rattle.reader.proofs.reader.Memory.take_line.Goals as goal

pub returns-in-Some : goal.returns-in-Some
returns-in-Some c =
    let n = c.in-Some.n in
    let payload = c.args.payload.now in
    let old = c.args.tray.now in
    let w = watching c.args.self.now.table in
    let T = gathered c.args.self.now.table in
    let T' = gathered c.follow_line-progress.new.self.table in
    let within : n ≤ 60 = subst (λ (o : Option ℕ). IfSome o (λ n. n ≤ 60)) c.in-Some.is c.requires.within in
    let full : length payload ≡ 60 = search rules in
    let stands = c.follow_line-progress.ensures.stands in
    let size : n ≡ length (take n payload) = sym (length-take-le n payload (omega arith)) in
    let taken = c.close.ensures (Some (take n payload)) old T' (followed w c.args.self.now.floor (Some (take n payload)) T) stands c.requires.room size in
    record {
      taken = subst (λ (o : Option ℕ). Taken (seen o payload) old c.close.new.tray c.close.result T' (followed w c.args.self.now.floor (seen o payload) T)) (sym c.in-Some.is) taken;
      same = c.follow_line-progress.ensures.same;
    }

pub returns-in-None : goal.returns-in-None
returns-in-None c =
    let payload = c.args.payload.now in
    let old = c.args.tray.now in
    let w = watching c.args.self.now.table in
    let T = gathered c.args.self.now.table in
    let g = c.new.ensures in
    let stands : LineStands old old c.new.result T (at_start T) = ended old old c.new.result T (at_start T) (at_start T) (begins old c.new.result T g.0 g.1 g.2 g.3) (record { eight = omega arith; nine = omega arith; skips = omega arith }) refl in
    let taken = c.close-in-None.ensures None old T (at_start T) stands c.requires.room refl in
    record {
      taken = subst (λ (o : Option ℕ). Taken (seen o payload) old c.close-in-None.new.tray c.close-in-None.result T (followed w c.args.self.now.floor (seen o payload) T)) (sym c.in-None.is) taken;
      same = (refl, refl);
    }
