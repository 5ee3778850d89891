use Rattle.std.proofs.Common.{◌≡◌, sym, refl, ap, ◌∙◌, subst}
use Rattle.walk.specs.Entries.{Item, fault, item}
use Rattle.walk.specs.Fields.{cause_number}
use Rattle.gather.specs.Model.{watching, gathered}
use Rattle.tray.specs.Writing.{fault_more}
use Rattle.reader.specs.Entered.{Good}
use Rattle.reader.specs.Following.{follow}
use Rattle.reader.specs.Stands.{Stands, Room}
use Rattle.reader.specs.declared.progress.Progress.{Progress}
use Rattle.reader.proofs.Tells.{told_entry_fault}
use Rattle.reader.proofs.reader.Memory.follow_entry.Goals as goal

pub returns-in-Fault : goal.returns-in-Fault
returns-in-Fault c =
    let w = watching c.args.self.now.table in
    let t = c.args.self.now.floor in
    let T = gathered c.args.self.now.table in
    let place = c.in-Fault.place in
    let n = cause_number c.in-Fault.cause in
    let number = c.in-Fault.number in
    let is : item c.args.entry.now ≡ fault place n number = ap item c.in-Fault.is in
    let good : Good (fault place n number) = subst Good is c.requires.good in
    let told = ap (fault_more c.args.progress.now.faults) c.new.ensures.fault in
    let g = c.args.progress.now in
    let g' : Progress = record { at = g.at; messages = g.messages; skipped = g.skipped; faults = c.push.new.self } in
    record {
      next = λ old p room s.
          let wide : Room old (fault place n number) p = subst (λ (i : Item). Room old i p) is room in
          subst (λ (i : Item). Stands old c.args.tray.now g' T (follow w t i p)) (sym is)
          (told_entry_fault w t place n number old c.args.tray.now g g' T p good wide s refl refl (c.push.ensures.faults ∙ told) refl);
      same = (refl, refl);
    }
