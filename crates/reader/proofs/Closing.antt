-- A line that was followed: its tray is finished, and what is answered for it.
use Rattle.std.proofs.Common.{◌≡◌, ℕ, ◌≤◌, List, length, Some, None, Option, ◌∙◌, subst, arith}
use Rattle.std.specs.Option.{unwrap_or}
use Rattle.gather.specs.Arriving.{Table}
use Rattle.tray.specs.Trays.{Fault, IsTray}
use Rattle.tray.specs.Writing.{Finishes, Whole}
use Rattle.tray.proofs.Backs.{short}
use Rattle.reader.specs.Following as value
use Rattle.reader.specs.Offers.{found_length, used_part}
use Rattle.reader.specs.Stands.{LineStands}
use Rattle.reader.specs.Answers.{Taken}
use Rattle.reader.specs.declared.progress.Progress.{Progress}
use Rattle.reader.specs.declared.reader.Answer.{Answer}

-- what was followed makes a tray
pub makes_tray : (old tray : List ℕ) (g : Progress) (T : Table) (p : value.Progress) → LineStands old tray g T p → IsTray p.messages p.faults
makes_tray old tray g T p l =
    record { eight_messages = l.eight_messages; nine_entries = l.nine_entries; messages_stand = l.stands.messages_stand; faults_stand = l.stands.faults_stand }

-- and is finished to it
pub finished : (old tray tray' : List ℕ) (g : Progress) (T : Table) (p : value.Progress) (end : Option ℕ) →
    Finishes tray g.messages g.at g.faults end tray' → LineStands old tray g T p → 1630 ≤ length old →
    Whole old p.messages p.faults end tray'
finished old tray tray' g T p end whole l wide =
    let s = l.stands in
    let few = short p.messages p.faults (makes_tray old tray g T p l) in
    let at_faults = subst (λ (fs : List Fault). Finishes tray g.messages g.at fs end tray') s.faults_are whole in
    at_faults old p.messages s.tray_is s.count_is s.at_is (omega arith)

closes : (seen : Option (List ℕ)) (old tray tray' : List ℕ) (g : Progress) (T : Table) (p : value.Progress) (used : ℕ) (a : Answer) →
    Finishes tray g.messages g.at g.faults (Some used) tray' → LineStands old tray g T p → 1630 ≤ length old →
    a.length ≡ found_length seen → a.used ≡ used → a.skipped ≡ g.skipped →
    Taken seen old tray' a T p
closes seen old tray tray' g T p used a whole l wide long used_is skipped_is =
    let w = finished old tray tray' g T p (Some used) whole l wide in
    let all : used ≡ length (used_part p) = (let e = w.used in cc) in
    record {
      answer = λ i. record { length_found = long i; used = (used_is ∙ all) i; skipped = (skipped_is ∙ l.stands.skipped_is) i };
      tray_is = w.tray;
      table_is = l.stands.table_is;
      is_tray = makes_tray old tray g T p l;
    }

-- there is always room
never_short : (old tray tray' : List ℕ) (g : Progress) (T : Table) (p : value.Progress) →
    Finishes tray g.messages g.at g.faults None tray' → LineStands old tray g T p → 1630 ≤ length old → ⊥
never_short old tray tray' g T p whole l wide =
    let w = finished old tray tray' g T p None whole l wide in
    let e = w.used in
    let z : ◌≡◌ {A = ℕ} 0 1 = cc in
    omega arith

-- so whatever the writing answered, that much is used
pub closed : (seen : Option (List ℕ)) (old tray tray' : List ℕ) (g : Progress) (T : Table) (p : value.Progress) (end : Option ℕ) (a : Answer) →
    Finishes tray g.messages g.at g.faults end tray' → LineStands old tray g T p → 1630 ≤ length old →
    a.length ≡ found_length seen → a.used ≡ unwrap_or end 0 → a.skipped ≡ g.skipped →
    Taken seen old tray' a T p
closed seen old tray tray' g T p (Some used) a whole l wide long used_is skipped_is = closes seen old tray tray' g T p used a whole l wide long used_is skipped_is
closed seen old tray tray' g T p None a whole l wide long used_is skipped_is = absurd (never_short old tray tray' g T p whole l wide)
