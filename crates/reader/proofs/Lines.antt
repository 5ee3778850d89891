-- One entry after the other: what is counted, and what room is left.
use Rattle.std.proofs.Common.{◌≡◌, ℕ, ◌+◌, ◌<◌, ◌≤◌, Bool, true, false, cond, List, [], ◌∷◌, length, sym, refl, subst, arith}
use Rattle.std.proofs.lemmas.List.{length-append}
use Rattle.buffers.proofs.Lays.{laid_none}
use Rattle.walk.specs.Entries.{Item, read, fault, blocks_read}
use Rattle.gather.specs.Gathering.{Answer, silent, handed, faulty}
use Rattle.gather.specs.Arriving.{Table, watched, answer_to}
use Rattle.reader.specs.Following as value
use Rattle.reader.specs.Following.{message_in, fault_in, block_fault, follow, follow_all, at_start}
use Rattle.reader.specs.Stands.{Stands, Room, LineStands}
use Rattle.reader.specs.declared.progress.Progress.{Progress}

-- before the first entry
pub begins : (old : List ℕ) (g : Progress) (T : Table) → g.at ≡ 1 → g.messages ≡ 0 → g.skipped ≡ 0 → g.faults ≡ [] → Stands old old g T (at_start T)
begins old g T at count skipped faults =
    record { table_is = refl; tray_is = sym (laid_none old 1); at_is = at; count_is = count; faults_are = faults; skipped_is = skipped; messages_stand = tt; faults_stand = tt }

-- how many entries and blocks may still come
pub record Left (p : value.Progress) (is : List Item) : Type 0 where
  pub eight : length p.messages + length (blocks_read is) ≤ 8
  pub nine : length p.messages + length p.faults + length is ≤ 9
  pub skips : p.skipped + length (blocks_read is) ≤ 8

pub room_for : (old : List ℕ) (i : Item) (is : List Item) (p : value.Progress) → 1630 ≤ length old → Left p (i ∷ is) → Room old i p
room_for old (read place b) is p wide l = let e = l.eight in let n = l.nine in let k = l.skips in record { tray_room = wide; eight = (let h : length p.messages < 8 = omega arith in h); nine = omega arith; few_skips = omega arith }
room_for old (fault place cause number) is p wide l = let n = l.nine in let k = l.skips in record { tray_room = wide; eight = tt; nine = omega arith; few_skips = omega arith }

-- an answer is at most one message or one fault
one_each : (place n : ℕ) (a : Answer) → (length (message_in a) ≤ 1) × (length (message_in a) + length (fault_in place n a) ≤ 1)
one_each place n silent = (omega arith, omega arith)
one_each place n (handed m) = (omega arith, omega arith)
one_each place n faulty = (omega arith, omega arith)

one_skip : (h : Bool) → cond h 0 1 ≤ 1
one_skip true = omega arith
one_skip false = omega arith

pub left_after : (w : List ℕ) (t : ℕ) (i : Item) (is : List Item) (p : value.Progress) → Left p (i ∷ is) → Left (follow w t i p) is
left_after w t (fault place cause number) is p l =
    let e = l.eight in let n = l.nine in let k = l.skips in
    let f = length-append p.faults (block_fault place cause number ∷ []) in
    record { eight = omega arith; nine = omega arith; skips = omega arith }
left_after w t (read place b) is p l =
    let e = l.eight in let n = l.nine in let k = l.skips in
    let a = answer_to w t b p.table in
    let one = one_each place b.number a in
    let m = length-append p.messages (message_in a) in
    let f = length-append p.faults (fault_in place b.number a) in
    let s = one_skip (watched w b.number) in
    record { eight = omega arith; nine = omega arith; skips = omega arith }

-- all entries have been followed
pub ended : (old tray : List ℕ) (g : Progress) (T : Table) (p q : value.Progress) → Stands old tray g T p → Left p [] → p ≡ q → LineStands old tray g T q
ended old tray g T p q s l e =
    let a = l.eight in let b = l.nine in
    subst (LineStands old tray g T) e (record { stands = s; eight_messages = omega arith; nine_entries = omega arith })
