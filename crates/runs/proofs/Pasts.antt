-- A call that keeps to the rules prolongs every past of its reader, and of the longer past everything is promised.
use Rattle.std.proofs.Common.{◌≡◌, ℕ, zero, suc, List, [], ◌∷◌, ◌++◌, map, take, Some, Option, sym, refl, ap, ◌∙◌, subst, ap₂}
use Rattle.std.specs.List.{slice_get}
use Rattle.refusal.specs.declared.Refusal.{Refusal}
use Rattle.sending.specs.Sendings.{Message}
use Rattle.gather.specs.Gathering.{Slot, nothing}
use Rattle.runs.specs.Histories.{Step, next, after}
use Rattle.runs.specs.Sightings.{Event}
use Rattle.gather.specs.Arriving.{Table, messages_of, faults_of}
use Rattle.runs.specs.Pasts.{Call, offer, restart, Outcome, refuses, answers, restarts, Entry, Past, Setting, event_of, messages_in, faults_in, events, trays, fault_counts, floor_next, floor_after}
use Rattle.runs.specs.Reaching.{State, new, Comes, Leads, Reached}
use Rattle.runs.specs.Promises.{Says, EachOfferIsRefusedJustWhenDue, EachTakenLineIsReadAsFound, Promised, OneNumberStands, EachCallProlongsThePast}
use Rattle.runs.proofs.Basics.{none≢some, some_same}
use Rattle.runs.proofs.Histories.{messages_joined, sendings_handed, none_fail}
use Rattle.runs.proofs.Order.{Ordered, WellOrdered, well_ordered}
use Rattle.runs.proofs.Rows.{flat}
use Rattle.runs.proofs.Replies as run
use Rattle.runs.proofs.Serving.{messages_sighted}
use Rattle.runs.proofs.Wholes.{whole_handed, none_faulty}

after_append : (xs ys : List Step) (slot : Slot) → after (xs ++ ys) slot ≡ after ys (after xs slot)
after_append [] ys slot = refl
after_append (x ∷ xs) ys slot = after_append xs ys (next x slot)

module _ (s : Setting) where
  -- what a call comes to, as an event of the run
  record Agrees (before : State) (x : Entry) (later : State) : Type 0 where
    gathered_is : later.gathered ≡ run.after_event s.watch (event_of s x.call x.outcome) before.gathered
    messages_are : messages_in s x.outcome ≡ messages_of (run.event_answers s.watch (event_of s x.call x.outcome) before.gathered)
    faults_are : faults_in s x.outcome ≡ faults_of (run.event_answers s.watch (event_of s x.call x.outcome) before.gathered)
    ordered : (es : List Event) → Ordered later.floor es → Ordered before.floor (event_of s x.call x.outcome ∷ es)

  agrees : (before : State) (call : Call) (outcome : Outcome) (later : State) → Comes s before call outcome later
      → Agrees before (record { call = call; outcome = outcome }) later
  agrees before restart (refuses r) later c = absurd c
  agrees before restart (answers a bytes) later c = absurd c
  agrees before restart restarts later c =
      record {
        gathered_is = ap (λ (z : State). z.gathered) c;
        messages_are = refl;
        faults_are = refl;
        ordered = λ es o. subst (λ (z : State). Ordered z.floor es) c o;
      }
  agrees before (offer t line tray) (refuses r) later c =
      record {
        gathered_is = ap (λ (z : State). z.gathered) c.1;
        messages_are = refl;
        faults_are = refl;
        ordered = λ es o. subst (λ (z : State). Ordered z.floor es) c.1 o;
      }
  agrees before (offer t line tray) (answers a bytes) later c =
      record {
        gathered_is = ap (λ (z : State). z.gathered) c.goes_on;
        messages_are = c.messages_are;
        faults_are = c.message_faults_are;
        ordered = λ es o. (c.not_below, subst (λ (z : State). Ordered z.floor es) c.goes_on o);
      }
  agrees before (offer t line tray) restarts later c = absurd c

  -- a past is a run of the reader
  record Ran (start : State) (past : Past) : Type 0 where
    trays_are : trays s past ≡ map messages_of (run.answers s.watch (events s past) start.gathered)
    faults_are : fault_counts s past ≡ map faults_of (run.answers s.watch (events s past) start.gathered)
    ordered : Ordered start.floor (events s past)

  ran : (start : State) (past : Past) (end : State) → Leads s start past end → Ran start past
  ran start [] end l = record { trays_are = refl; faults_are = refl; ordered = tt }
  ran start (x ∷ past) end l =
      let a = agrees start x.call x.outcome l.0 l.1 in
      let r = ran l.0 past end l.2 in
      record {
        trays_are =
            ap₂ (λ (m : List Message) (ms : List (List Message)). m ∷ ms) a.messages_are
            (r.trays_are ∙ ap (λ (t : Table). map messages_of (run.answers s.watch (events s past) t)) a.gathered_is);
        faults_are =
            ap₂ (λ (m : ℕ) (ms : List ℕ). m ∷ ms) a.faults_are
            (r.faults_are ∙ ap (λ (t : Table). map faults_of (run.answers s.watch (events s past) t)) a.gathered_is);
        ordered = a.ordered (events s past) r.ordered;
      }

  pub past_ordered : (past : Past) (state : State) → Reached s past state → WellOrdered (events s past)
  past_ordered past state r = well_ordered (events s past) 0 (ran new past state r).ordered

  -- what is gathered for a number is what its history leaves
  pub gathered_after : (start : State) (past : Past) (end : State) → Leads s start past end → (n : ℕ)
      → end.gathered n ≡ after (flat (run.rows s.watch n (events s past))) (start.gathered n)
  gathered_after start [] end l n = ap (λ (z : State). z.gathered n) l
  gathered_after start (x ∷ past) end l n =
      let v = event_of s x.call x.outcome in
      let a = agrees start x.call x.outcome l.0 l.1 in
      gathered_after l.0 past end l.2 n
      ∙ ap (after (flat (run.rows s.watch n (events s past)))) (ap (λ (t : Table). t n) a.gathered_is ∙ run.after_event_is s.watch n v start.gathered)
      ∙ sym (after_append (run.steps_of s.watch n v) (flat (run.rows s.watch n (events s past))) (start.gathered n))

  floor_comes : (before : State) (call : Call) (outcome : Outcome) (later : State) → Comes s before call outcome later
      → later.floor ≡ floor_next before.floor call outcome
  floor_comes before restart (refuses r) later c = absurd c
  floor_comes before restart (answers a bytes) later c = absurd c
  floor_comes before restart restarts later c = ap (λ (z : State). z.floor) c
  floor_comes before (offer t line tray) (refuses r) later c = ap (λ (z : State). z.floor) c.1
  floor_comes before (offer t line tray) (answers a bytes) later c = ap (λ (z : State). z.floor) c.goes_on
  floor_comes before (offer t line tray) restarts later c = absurd c

  -- one call of a past
  came : (start : State) (past : Past) (end : State) → Leads s start past end → (e : ℕ) (x : Entry) → slice_get past e ≡ Some x
      → (before : State) × (later : State) × Comes s before x.call x.outcome later × (before.floor ≡ floor_after start.floor (take e past))
  came start [] end l e x c = absurd (none≢some c)
  came start (y ∷ past) end l zero x c =
      (start, l.0, subst (λ (z : Entry). Comes s start z.call z.outcome l.0) (some_same c) l.1, refl)
  came start (y ∷ past) end l (suc e) x c =
      let r = came l.0 past end l.2 e x c in
      (r.0, r.1, r.2, r.3 ∙ ap (λ (f : ℕ). floor_after f (take e past)) (floor_comes start y.call y.outcome l.0 l.1))

  lines_read : (past : Past) (state : State) → Reached s past state → EachTakenLineIsReadAsFound s past
  lines_read past state r e t line tray a bytes c =
      let w = (came new past state r e _ c).2 in
      (w.length_is, w.skipped_is, w.block_faults_are)

  refused_when_due : (past : Past) (state : State) → Reached s past state → EachOfferIsRefusedJustWhenDue s past
  refused_when_due past state r e t line tray outcome c =
      let w = came new past state r e _ c in
      subst (λ (f : ℕ). Says (s.due f t line tray) outcome) w.3 (go outcome w.0 w.1 w.2)
    where
      go : (o : Outcome) (before later : State) → Comes s before (offer t line tray) o later → Says (s.due before.floor t line tray) o
      go (refuses q) before later w = subst (λ (d : Option Refusal). Says d (refuses q)) (sym w.0) refl
      go (answers a bytes) before later w = subst (λ (d : Option Refusal). Says d (answers a bytes)) (sym w.not_due) tt
      go restarts before later w = absurd w

  -- one call more
  leads_more : (start : State) (past : Past) (before : State) (x : Entry) (later : State) → Leads s start past before
      → Comes s before x.call x.outcome later → Leads s start (past ++ x ∷ []) later
  leads_more start [] before x later l c = (later, subst (λ (z : State). Comes s z x.call x.outcome later) l c, refl)
  leads_more start (y ∷ past) before x later l c = (l.0, l.1, leads_more l.0 past before x later l.2 c)

  pub promised : (past : Past) (state : State) → Reached s past state → Promised s past
  promised past state r =
      let a = ran new past state r in
      let es = events s past in
      let wo = well_ordered es 0 a.ordered in
      let out = run.answers s.watch es (λ n. nothing) in
      let rs = λ (n : ℕ). run.rows s.watch n es in
      let by = run.by_number s.watch es in (
        refused_when_due past state r,
        lines_read past state r,
        λ given gives. (
          messages_sighted es out rs by wo given gives (trays s past) a.trays_are,
          λ z is wat i j str all only.
              whole_handed es out rs by wo given gives (trays s past) a.trays_are z is i j
              (run.followed s.watch es z.number i j (run.is_watched s.watch wat.0 z.number wat.1) str) str all only,
          none_faulty es out rs by wo given gives (fault_counts s past) a.faults_are,
        ),
      )

pub calls_prolong : EachCallProlongsThePast
calls_prolong s before call outcome later c past r =
    let more = leads_more s new past before (record { call = call; outcome = outcome }) later r c in
    (more, promised s (past ++ record { call = call; outcome = outcome } ∷ []) later more)

pub number_stands : OneNumberStands
number_stands steps given rising belongs =
    (messages_joined steps given belongs, sendings_handed steps given belongs rising, none_fail steps given belongs)
