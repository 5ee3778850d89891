-- An offer that is answered and fills its tray as the definitions say keeps to the rules of a run.
use Rattle.std.proofs.Common.{◌≡◌, ℕ, ◌≤◌, cond, ltb, List, length, take, drop, Some, None, Option, sym, refl, ap, ◌∙◌, inl, inr, zero-add, arith}
use Rattle.std.proofs.lemmas.List.{take_at}
use Rattle.std.proofs.lemmas.Bool.{cases_lt, lt-ltb, le-ltb, cond-true, cond-false}
use Rattle.refusal.specs.declared.Refusal.{Refusal}
use Rattle.refusal.specs.declared.Refusal.TheVariants.{FrameNumber, OutputLength}
use Rattle.line.specs.declared.depth.Depth.{Depth}
use Rattle.line.specs.Lines.{line_fault}
use Rattle.sending.specs.Sendings.{Message}
use Rattle.walk.specs.Entries.{blocks_read}
use Rattle.gather.specs.Arriving.{after_line, line_answers, messages_of, faults_of, skipped_of}
use Rattle.tray.specs.Trays.{Fault, IsTray, tray_bytes}
use Rattle.tray.specs.Reading.{messages_in, faults_in}
use Rattle.runs.specs.Pasts.{blocks_in, spoilt_in, length_in}
use Rattle.runs.specs.Reaching.{State, Takes}
use Rattle.reader.specs.Following.{items_in, at_start, spoilt_of}
use Rattle.reader.specs.Settings.{or_due, offer_due, in_layer, setting_of}
use Rattle.reader.specs.Offers.{used_part, figures, tray_after, found_length, line_progress, state_after}
use Rattle.reader.proofs.Following.{table_is, messages_are, skipped_are, block_faults_are, message_faults_are}

-- no refusal is due: the line has no fault, the frame number doesn't fall, the tray has room
pub record Free (d : Depth) (floor t : ℕ) (line tray : List ℕ) : Type 0 where
  pub line_right : line_fault d line ≡ None
  pub not_below : floor ≤ t
  pub room : 1630 ≤ length tray

none_some : (r : Refusal) → Some r ≡ None → ⊥
none_some r e = let z : ◌≡◌ {A = ℕ} 0 1 = cc in omega arith

free_by : (d : Depth) (floor t : ℕ) (line tray : List ℕ) (o : Option Refusal) → o ≡ line_fault d line
    → or_due o (cond (ltb t floor) (Some FrameNumber) (cond (ltb (length tray) 1630) (Some (OutputLength (length tray))) None)) ≡ None → Free d floor t line tray
free_by d floor t line tray (Some r) is e = absurd (none_some r e)
free_by d floor t line tray None is e =
    elim (cases_lt t floor) [
      | inl low ↦ absurd (none_some FrameNumber (sym (cond-true _ _ _ (lt-ltb t floor low)) ∙ e))
      | inr ok ↦
          elim (cases_lt (length tray) 1630) [
            | inl short ↦ absurd (none_some (OutputLength (length tray)) (sym (cond-true _ _ _ (lt-ltb (length tray) 1630 short)) ∙ sym (cond-false _ _ _ (le-ltb t floor ok)) ∙ e))
            | inr wide ↦ record { line_right = sym is; not_below = ok; room = wide }
          ]
    ]

pub free : (d : Depth) (floor t : ℕ) (line tray : List ℕ) → offer_due d floor t line tray ≡ None → Free d floor t line tray
free d floor t line tray e = free_by d floor t line tray (line_fault d line) refl e

-- the blocks among the entries of what was found
blocks_same : (d : Depth) (found : List ℕ → Option (List ℕ)) (watch : List ℕ) (o : Option (List ℕ)) → blocks_read (items_in o) ≡ blocks_in (setting_of d found watch) o
blocks_same d found watch None = refl
blocks_same d found watch (Some p) = refl

spoilt_same : (d : Depth) (found : List ℕ → Option (List ℕ)) (watch : List ℕ) (o : Option (List ℕ)) → spoilt_of (items_in o) ≡ spoilt_in (setting_of d found watch) o
spoilt_same d found watch None = refl
spoilt_same d found watch (Some p) = refl

length_same : (d : Depth) (found : List ℕ → Option (List ℕ)) (watch : List ℕ) (o : Option (List ℕ)) → found_length o ≡ length_in (setting_of d found watch) o
length_same d found watch None = refl
length_same d found watch (Some p) = refl

-- what is written as a tray is read back
abbrev pub ReadsBack : Type 0
ReadsBack = (ms : List Message) (fs : List Fault) → IsTray ms fs → (messages_in (tray_bytes ms fs) ≡ ms) × (faults_in (tray_bytes ms fs) ≡ fs)

pub takes : ReadsBack → (d : Depth) (found : List ℕ → Option (List ℕ)) (watch : List ℕ) (before : State) (t : ℕ) (line old : List ℕ) →
    offer_due d before.floor t line old ≡ None →
    IsTray (line_progress watch t (found line) before).messages (line_progress watch t (found line) before).faults →
    Takes (setting_of d found watch) before t line old (figures (found line) (line_progress watch t (found line) before)) (tray_after (line_progress watch t (found line) before) old) (state_after watch t (found line) before)
takes back d found watch before t line old due stands =
    let s = setting_of d found watch in
    let p = line_progress watch t (found line) before in
    let is = items_in (found line) in
    let same = blocks_same d found watch (found line) in
    let front : take (length (used_part p)) (tray_after p old) ≡ used_part p = take_at (used_part p) (drop (length (used_part p)) old) (length (used_part p)) refl in
    let read = back p.messages p.faults stands in
    record {
      not_due = due;
      not_below = (free d before.floor t line old due).not_below;
      goes_on = λ i. record { gathered = (table_is watch t is (at_start before.gathered) ∙ ap (λ bs. after_line watch t bs before.gathered) same) i; floor = t };
      length_is = length_same d found watch (found line);
      skipped_is = skipped_are watch t is (at_start before.gathered) ∙ zero-add _ ∙ ap (skipped_of watch) same;
      messages_are = ap messages_in front ∙ read.0 ∙ messages_are watch t is (at_start before.gathered) ∙ ap (λ bs. messages_of (line_answers watch t bs before.gathered)) same;
      block_faults_are = ap (λ u. in_layer 1 (faults_in u)) front ∙ ap (in_layer 1) read.1 ∙ block_faults_are watch t is (at_start before.gathered) ∙ zero-add _ ∙ spoilt_same d found watch (found line);
      message_faults_are = ap (λ u. in_layer 2 (faults_in u)) front ∙ ap (in_layer 2) read.1 ∙ message_faults_are watch t is (at_start before.gathered) ∙ zero-add _ ∙ ap (λ bs. faults_of (line_answers watch t bs before.gathered)) same;
    }
