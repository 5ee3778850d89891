use Rattle.std.proofs.Common.{◌≡◌, ℕ, ◌≤◌, true, cond, List, length, take, sym, refl, ap, ◌∙◌, arith, rules}
use Rattle.std.proofs.lemmas.List.{length-take-le}
use Rattle.sending.specs.Sendings.{Block, Message}
use Rattle.sending.specs.Model.{means}
use Rattle.gather.specs.Gathering.{silent, handed, faulty, answer}
use Rattle.gather.specs.Arriving.{Table, watched, answer_to}
use Rattle.gather.specs.Watching.{fits_slot}
use Rattle.gather.specs.Model.{watching, gathered}
use Rattle.gather.specs.Serving.{said, arrival}
use Rattle.gather.specs.declared.slot.Arrival.{Arrival}
use Rattle.gather.specs.declared.slot.Arrival.TheVariants.{NotWatched, Unfit, Silent, Message as Handed, Faulty}
use Rattle.tray.specs.Writing.{fault_more}
use Rattle.reader.proofs.Arrived.{small_fits, not_watched, never_unfit, is_silent, is_faulty, is_message}
use Rattle.reader.proofs.Tells.{told_nothing, told_fault, told_message}
use Rattle.reader.proofs.reader.Memory.follow_block.Goals as goal

-- the table's answer to a block that can be gathered
known : (w : List ℕ) (t : ℕ) (b : Block) (T : Table) (r : Arrival) → fits_slot b ≡ true → r ≡ arrival w t b T → r ≡ cond (watched w b.number) (said (answer_to w t b T)) NotWatched
known w t b T r fits e = e ∙ ap (λ f. cond (watched w b.number) (cond f (said (answer_to w t b T)) Unfit) NotWatched) fits

pub returns-in-NotWatched : goal.returns-in-NotWatched
returns-in-NotWatched c =
    let w = watching c.args.self.now.table in
    let t = c.args.self.now.floor in
    let b = means c.args.block.now in
    let T = gathered c.args.self.now.table in
    let fits = small_fits b c.requires.good.2 in
    let off = not_watched (watched w b.number) (answer_to w t b T) (known w t b T NotWatched fits c.in-NotWatched.ensures.answer) in
    record {
      next = λ old p room s.
          let quiet : answer_to w t b p.table ≡ silent = ap (λ h. cond h (answer t b (p.table b.number)) silent) off in
          let one : ◌≡◌ {A = ℕ} (cond (watched w b.number) 0 1) 1 = ap (λ h. cond h 0 1) off in
          let sum = c.saturating_add-progress.ensures in
          let few = room.few_skips in
          let is = s.skipped_is in
          told_nothing w t c.args.place b old c.args.tray.now c.args.progress.now _ T _ p s fits c.arrive.ensures.next quiet refl refl refl (omega arith);
      same = (c.arrive.ensures.same, refl);
    }

pub returns-in-Message : goal.returns-in-Message
returns-in-Message c =
    let w = watching c.args.self.now.table in
    let t = c.args.self.now.floor in
    let b = means c.args.block.now in
    let T = gathered c.args.self.now.table in
    let n = c.in-Message.length in
    let out = c.arrive.new.out in
    let m : Message = record { number = b.number; version = b.version; bytes = take n out } in
    let fits = small_fits b c.requires.good.2 in
    let heard = is_message (watched w b.number) (answer_to w t b T) n (known w t b T (Handed n) fits c.in-Message.ensures.answer) in
    let said_m : handed m ≡ answer_to w t b T = c.in-Message.ensures.message ∙ ap (λ f. cond f (answer_to w t b T) silent) fits in
    let long : length out ≡ 200 = search rules in
    let most : n ≤ 200 = c.in-Message.ensures.short in
    let short : length (take n out) ≤ 200 = (let l = length-take-le n out (omega arith) in omega arith) in
    record {
      next = λ old p room s.
          let given : answer_to w t b p.table ≡ handed m = ap (answer_to w t b) (sym s.table_is) ∙ sym said_m in
          told_message w t c.args.place b old c.args.tray.now _ c.args.progress.now _ T _ p m c.requires.good room s fits c.arrive.ensures.next given heard refl refl short
          c.hand_over.ensures.next;
      same = (c.arrive.ensures.same, refl);
    }

pub returns-in-Faulty : goal.returns-in-Faulty
returns-in-Faulty c =
    let w = watching c.args.self.now.table in
    let t = c.args.self.now.floor in
    let b = means c.args.block.now in
    let T = gathered c.args.self.now.table in
    let fits = small_fits b c.requires.good.2 in
    let both = is_faulty (watched w b.number) (answer_to w t b T) (known w t b T Faulty fits c.in-Faulty.ensures.answer) in
    record {
      next = λ old p room s.
          let failed : answer_to w t b p.table ≡ faulty = ap (answer_to w t b) (sym s.table_is) ∙ both.1 in
          told_fault w t c.args.place b old c.args.tray.now c.args.progress.now _ T _ p c.requires.good room s fits c.arrive.ensures.next failed both.0 refl refl (c.push.ensures.faults ∙ ap (fault_more c.args.progress.now.faults) c.new.ensures.fault) refl;
      same = (c.arrive.ensures.same, refl);
    }

pub returns-in-Unfit : goal.returns-in-Unfit
returns-in-Unfit c =
    let w = watching c.args.self.now.table in
    let t = c.args.self.now.floor in
    let b = means c.args.block.now in
    let T = gathered c.args.self.now.table in
    let fits = small_fits b c.requires.good.2 in
    absurd (never_unfit (watched w b.number) (answer_to w t b T) (known w t b T Unfit fits c.in-Unfit.ensures.answer))

pub returns-in-Silent : goal.returns-in-Silent
returns-in-Silent c =
    let w = watching c.args.self.now.table in
    let t = c.args.self.now.floor in
    let b = means c.args.block.now in
    let T = gathered c.args.self.now.table in
    let fits = small_fits b c.requires.good.2 in
    let both = is_silent (watched w b.number) (answer_to w t b T) (known w t b T Silent fits c.in-Silent.ensures.answer) in
    record {
      next = λ old p room s.
          let quiet : answer_to w t b p.table ≡ silent = ap (answer_to w t b) (sym s.table_is) ∙ both.1 in
          let none : ◌≡◌ {A = ℕ} (cond (watched w b.number) 0 1) 0 = ap (λ h. cond h 0 1) both.0 in
          told_nothing w t c.args.place b old c.args.tray.now c.args.progress.now _ T _ p s fits c.arrive.ensures.next quiet refl refl refl (omega arith);
      same = (c.arrive.ensures.same, refl);
    }
