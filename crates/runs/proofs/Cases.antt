-- A run that meets the premise, with lost and repeated frames, a refusal and a message of three parts; and readers that the promises
-- shut out.
use Rattle.std.proofs.Common.{◌≡◌, ℕ, zero, suc, ◌+◌, ◌<◌, ◌≤◌, cond, ltb, List, [], ◌∷◌, map, get_or, take, Some, None, Option, sym, refl, ap, ◌∙◌, subst, arith}
use Rattle.std.specs.List.{slice_get}
use Rattle.std.proofs.lemmas.Bool.{cond-false, le-ltb}
use Rattle.refusal.specs.declared.Refusal.{Refusal}
use Rattle.refusal.specs.declared.Refusal.TheVariants.{FrameNumber}
use Rattle.crc.specs.Crc.{crc, fed, shifted}
use Rattle.sending.specs.Sendings.{Block, Message, Sending, last_part, message, block, IsBlockOf}
use Rattle.runs.specs.Sightings.{Event, restarted, refused, taken, Place, Sighted, Within, Stretch, Gives, Handed, EachMessageIsOneSendingSightedWhole, EachWholeSendingIsHandedOver}
use Rattle.gather.specs.Arriving.{after_line, messages_of, faults_of, skipped_of}
use Rattle.runs.specs.Pasts.{Call, offer, restart, Figures, Outcome, refuses, answers, restarts, Entry, Past, Setting, blocks_in, spoilt_in, length_in, event_of, events, trays}
use Rattle.runs.specs.Reaching.{State, new, line_of, told as told_in, Takes, Reached}
use Rattle.runs.specs.Witness.{SomeRunMeetsThePremise}
use Rattle.runs.specs.Promises.{Promised, EachOfferIsRefusedJustWhenDue, EachTakenLineIsReadAsFound}
use Rattle.runs.proofs.Basics.{none≢some, some_same}
use Rattle.runs.proofs.Sendings.{three, three_is}
use Rattle.runs.proofs.Order.{IsTaken, blocks_same}
use Rattle.runs.proofs.Replies.{map_nth}
use Rattle.runs.proofs.Pasts.{promised}

-- a line is its payload, each sample names a part, and a tray's bytes each stand for one message
abbrev found : List ℕ → Option (List ℕ)
found [] = None
found (x ∷ xs) = Some (x ∷ xs)

abbrev part_block : ℕ → Block
part_block k = block three (cond (ltb k 3) k 0)

abbrev blocks : List ℕ → List Block
blocks = map part_block

abbrev messages : List ℕ → List Message
messages = map (λ (x : ℕ). message three)

abbrev watch : List ℕ
watch = 5 ∷ 7 ∷ []

abbrev setting : Setting
setting =
    record {
      found = found;
      watch = watch;
      due = λ floor t line tray. cond (ltb t floor) (Some FrameNumber) None;
      blocks = blocks;
      spoilt = λ payload. 0;
      messages = messages;
      block_faults = λ bytes. 0;
      message_faults = λ bytes. 0;
    }

abbrev offered : ℕ → List ℕ → Outcome → Entry
offered t line outcome = record { call = offer t line (0 ∷ []); outcome = outcome }

abbrev quiet : Outcome
quiet = answers (record { length_found = 1; used = 0; skipped = 0 }) (0 ∷ [])

abbrev lost : Outcome
lost = answers (record { length_found = 0; used = 0; skipped = 0 }) (0 ∷ [])

abbrev speaks : ℕ → Outcome
speaks n = answers (record { length_found = n; used = 1; skipped = 0 }) (1 ∷ [])

-- part 0, part 2, part 2 again in a repeated frame, a frame number that goes back, a line without run-in, part 1; then all in one line
abbrev past : Past
past =
    offered 1000 (0 ∷ []) quiet ∷ offered 1010 (2 ∷ []) quiet ∷ offered 1010 (2 ∷ []) quiet ∷ offered 1005 (1 ∷ []) (refuses FrameNumber)
    ∷ offered 1020 [] lost ∷ offered 1255 (1 ∷ []) (speaks 1) ∷ offered 1256 (2 ∷ 1 ∷ 0 ∷ []) (speaks 3) ∷ []

abbrev steps : State → ℕ → List ℕ → State
steps s t line = record { gathered = after_line watch t (blocks_in setting (found line)) s.gathered; floor = t }

abbrev s1 : State
s1 = steps new 1000 (0 ∷ [])

abbrev s2 : State
s2 = steps s1 1010 (2 ∷ [])

abbrev s3 : State
s3 = steps s2 1010 (2 ∷ [])

abbrev s4 : State
s4 = steps s3 1020 []

abbrev s5 : State
s5 = steps s4 1255 (1 ∷ [])

abbrev s6 : State
s6 = steps s5 1256 (2 ∷ 1 ∷ 0 ∷ [])

-- an offer that hands over nothing, or the message
takes : (s : State) (t : ℕ) (line : List ℕ) (a : Figures) (bytes : List ℕ) → s.floor ≤ t → setting.due s.floor t line (0 ∷ []) ≡ None → a.length_found ≡ length_in setting (found line)
    → a.skipped ≡ skipped_of watch (line_of setting line) → messages (take a.used bytes) ≡ messages_of (told_in setting s t line)
    → 0 ≡ faults_of (told_in setting s t line) → 0 ≡ spoilt_in setting (found line) → Takes setting s t line (0 ∷ []) a bytes (steps s t line)
takes s t line a bytes low free len skip said fine whole =
    record {
      not_due = free;
      not_below = low;
      goes_on = refl;
      length_is = len;
      skipped_is = skip;
      messages_are = said;
      block_faults_are = whole;
      message_faults_are = fine;
    }

-- it is a past of a reader
reached : Reached setting past s6
unfolding crc fed shifted
reached = (
  s1,
  takes new 1000 _ _ _ (omega arith) refl refl refl refl refl refl,
  (
    s2,
    takes s1 1010 _ _ _ (omega arith) refl refl refl refl refl refl,
    (
      s3,
      takes s2 1010 _ _ _ (omega arith) refl refl refl refl refl refl,
      (
        s3,
        (refl, refl),
        (
          s4,
          takes s3 1020 _ _ _ (omega arith) refl refl refl refl refl refl,
          (s5, takes s4 1255 _ _ _ (omega arith) refl refl refl refl refl refl, (s6, takes s5 1256 _ _ _ (omega arith) refl refl refl refl refl refl, refl)),
        ),
      ),
    ),
  ),
)

abbrev run : List Event
run = events setting past

abbrev told : List (List Message)
told = trays setting past

-- the message is handed over, in the sixth call and in the seventh
handed_over : told ≡ [] ∷ [] ∷ [] ∷ [] ∷ [] ∷ (message three ∷ []) ∷ (message three ∷ []) ∷ []
handed_over = refl

-- every block is one of the sending, in this and in every other past
of_three : (calls : Past) (p : Place) (t : ℕ) (b : Block) → Sighted (events setting calls) p t b → IsBlockOf three b
of_three calls p t b see =
    let m = map_nth (λ (x : Entry). event_of setting x.call x.outcome) calls p.event _ see.1 in
    go m.0.call m.0.outcome m.2
  where
    in_line : (payload : Option (List ℕ)) → blocks_in setting payload ≡ see.0 → IsBlockOf three b
    in_line None c = absurd (none≢some (ap (λ (l : List Block). slice_get l p.index) c ∙ see.2))
    in_line (Some payload) c =
        let m = map_nth part_block payload p.index b (ap (λ (l : List Block). slice_get l p.index) c ∙ see.2) in
        (three_is, (cond (ltb m.0 3) m.0 0, below m.0, sym m.2))
      where
        below : (k : ℕ) → cond (ltb k 3) k 0 < 3
        below zero = omega arith
        below (suc zero) = omega arith
        below (suc (suc zero)) = omega arith
        below (suc (suc (suc k))) =
            let far : 3 ≤ suc (suc (suc k)) = omega arith in
            subst (λ (x : ℕ). x < 3) (sym (cond-false _ (suc (suc (suc k))) 0 (le-ltb _ _ far))) (omega arith)

    go : (call : Call) (outcome : Outcome) → event_of setting call outcome ≡ taken t see.0 → IsBlockOf three b
    go restart o c = absurd (subst IsTaken (sym (ap Some c)) tt)
    go (offer u line tray) (refuses r) c = absurd (subst IsTaken (sym (ap Some c)) tt)
    go (offer u line tray) (answers a bytes) c = in_line (found line) (blocks_same (ap Some c))
    go (offer u line tray) restarts c = absurd (subst IsTaken (sym (ap Some c)) tt)

-- the premise is met
gives : Gives run (λ (p : Place). three)
gives = (of_three past, λ i j str p q t u b c x y v w m n. refl)

-- so all is promised of it
all_promised : Promised setting past
all_promised = promised setting past s6 reached

-- no restart, and frames from low to low + 255
abbrev Calm : ℕ → List Event → Type 0
Calm low [] = Unit {0}
Calm low (restarted ∷ es) = ⊥
Calm low (refused ∷ es) = Calm low es
Calm low (taken t bs ∷ es) = (low ≤ t) × (t ≤ low + 255) × Calm low es

calm_at : (low : ℕ) (es : List Event) (x : ℕ) (v : Event) → Calm low es → slice_get es x ≡ Some v → Calm low (v ∷ [])
calm_at low [] x v c h = absurd (none≢some h)
calm_at low (restarted ∷ es) x v c h = absurd c
calm_at low (refused ∷ es) zero v c h = subst (λ (u : Event). Calm low (u ∷ [])) (some_same h) tt
calm_at low (taken t bs ∷ es) zero v c h = subst (λ (u : Event). Calm low (u ∷ [])) (some_same h) (c.0, c.1, tt)
calm_at low (refused ∷ es) (suc x) v c h = calm_at low es x v c h
calm_at low (taken t bs ∷ es) (suc x) v c h = calm_at low es x v c.2 h

-- events i to j of a longer list
abbrev Piece : List Event → ℕ → ℕ → List Event → Type 0
Piece es i j few = (x : ℕ) → Within i j x → (y : ℕ) × (slice_get es x ≡ slice_get few y)

calm_stretch : (low : ℕ) (es few : List Event) (i j : ℕ) → Piece es i j few → Calm low few → Stretch es i j
calm_stretch low es few i j part calm = (
  λ z w r. calm_at low few (part z w).0 restarted calm (sym (part z w).1 ∙ r),
  λ x y t u a b k l.
      let c = calm_at low few (part x a).0 (taken t k.0) calm (sym (part x a).1 ∙ k.1) in
      let d = calm_at low few (part y b).0 (taken u l.0) calm (sym (part y b).1 ∙ l.1) in
      omega arith,
)

abbrev first_six : List Event
first_six = taken 1000 (part_block 0 ∷ []) ∷ taken 1010 (part_block 2 ∷ []) ∷ taken 1010 (part_block 2 ∷ []) ∷ refused ∷ taken 1020 [] ∷ taken 1255 (part_block 1 ∷ []) ∷ []

six_part : Piece run 0 5 first_six
six_part zero w = (0, refl)
six_part (suc zero) w = (1, refl)
six_part (suc (suc zero)) w = (2, refl)
six_part (suc (suc (suc zero))) w = (3, refl)
six_part (suc (suc (suc (suc zero)))) w = (4, refl)
six_part (suc (suc (suc (suc (suc zero))))) w = (5, refl)
six_part (suc (suc (suc (suc (suc (suc x)))))) w = absurd (omega arith)

-- the first six calls are a stretch that sights the whole sending
six : Stretch run 0 5
six = calm_stretch 1000 run first_six 0 5 six_part (omega arith)

six_whole : (k : ℕ) → k ≤ 2 → (p : Place) × (t : ℕ) × Within 0 5 p.event × Sighted run p t (block three k)
six_whole zero l = (record { event = 0; index = 0 }, 1000, omega arith, (_, refl, refl))
six_whole (suc zero) l = (record { event = 5; index = 0 }, 1255, omega arith, (_, refl, refl))
six_whole (suc (suc zero)) l = (record { event = 1; index = 0 }, 1010, omega arith, (_, refl, refl))
six_whole (suc (suc (suc k))) l = absurd (omega arith)

-- nothing disagrees with it anywhere
only_three : (i j : ℕ) (p : Place) (t : ℕ) (b : Block) → Within i j p.event → Sighted run p t b → b.number ≡ 7 → (b.version ≡ 2) × (b.last ≡ 2)
only_three i j p t b w see n =
    let o = (of_three past p t b see).1.2 in
    (ap (λ (x : Block). x.version) o, ap (λ (x : Block). x.last) o)

-- the promise gives what the computation shows
six_handed : (e : ℕ) × (x : ℕ) × Within 0 5 e × Handed told e x (message three)
six_handed = (all_promised.2 (λ p. three) gives).1 three three_is (1, refl) 0 5 six six_whole (only_three 0 5)

-- the seventh call is a stretch of its own, which sights it whole again
seventh : Stretch run 6 6
seventh = calm_stretch 1256 run (taken 1256 (part_block 2 ∷ part_block 1 ∷ part_block 0 ∷ []) ∷ []) 6 6 part (omega arith)
  where
    part : Piece run 6 6 (taken 1256 (part_block 2 ∷ part_block 1 ∷ part_block 0 ∷ []) ∷ [])
    part x w = let e : x ≡ 6 = omega arith in (0, ap (slice_get run) e)

seventh_whole : (k : ℕ) → k ≤ 2 → (p : Place) × (t : ℕ) × Within 6 6 p.event × Sighted run p t (block three k)
seventh_whole zero l = (record { event = 6; index = 2 }, 1256, omega arith, (_, refl, refl))
seventh_whole (suc zero) l = (record { event = 6; index = 1 }, 1256, omega arith, (_, refl, refl))
seventh_whole (suc (suc zero)) l = (record { event = 6; index = 0 }, 1256, omega arith, (_, refl, refl))
seventh_whole (suc (suc (suc k))) l = absurd (omega arith)

-- a reader that hands over nothing is shut out
hands_nothing : (out : List (List Message)) → ((e : ℕ) → get_or out e [] ≡ []) → EachWholeSendingIsHandedOver watch run out → ⊥
hands_nothing out empty whole =
    let h = whole three three_is (1, refl) 0 5 six six_whole (only_three 0 5) in
    none≢some (sym (ap (λ (l : List Message). slice_get l h.1) (empty h.0)) ∙ h.3)

-- one that hands over in its first line only is shut out
speaks_once : (out : List (List Message)) → ((e : ℕ) → 1 ≤ e → get_or out e [] ≡ []) → EachWholeSendingIsHandedOver watch run out → ⊥
speaks_once out empty whole =
    let h = whole three three_is (1, refl) 6 6 seventh seventh_whole (only_three 6 6) in
    let late = h.2 in
    none≢some (sym (ap (λ (l : List Message). slice_get l h.1) (empty h.0 (omega arith))) ∙ h.3)

-- part 1 is sighted once in the first six calls
abbrev IsOther : Block → Type 0
IsOther b = b.part ≡ 1 → ⊥

one_place : (e j t : ℕ) → e ≤ 5 → Sighted run (record { event = e; index = j }) t (block three 1) → (e ≡ 5) × (j ≡ 0)
one_place e j t l see = at e see.1 l
  where
    none : (bs : List Block) → bs ≡ see.0 → slice_get bs j ≡ Some (block three 1)
    none bs c = ap (λ (l : List Block). slice_get l j) c ∙ see.2

    other : (j : ℕ) (b : Block) → IsOther b → slice_get (b ∷ []) j ≡ Some (block three 1) → ⊥
    other zero b o c = o (ap (λ (x : Block). x.part) (some_same c))
    other (suc j) b o c = none≢some c

    own : (j : ℕ) → slice_get (part_block 1 ∷ []) j ≡ Some (block three 1) → j ≡ 0
    own zero c = refl
    own (suc j) c = absurd (none≢some c)

    at : (e : ℕ) → slice_get run e ≡ Some (taken t see.0) → e ≤ 5 → (e ≡ 5) × (j ≡ 0)
    at zero c l = absurd (other j (part_block 0) (λ d. omega (arith, d)) (none _ (blocks_same c)))
    at (suc zero) c l = absurd (other j (part_block 2) (λ d. omega (arith, d)) (none _ (blocks_same c)))
    at (suc (suc zero)) c l = absurd (other j (part_block 2) (λ d. omega (arith, d)) (none _ (blocks_same c)))
    at (suc (suc (suc zero))) c l = absurd (subst IsTaken (sym c) tt)
    at (suc (suc (suc (suc zero)))) c l = absurd (none≢some (none [] (blocks_same c)))
    at (suc (suc (suc (suc (suc zero))))) c l = (refl, own j (none _ (blocks_same c)))
    at (suc (suc (suc (suc (suc (suc e)))))) c l = absurd (omega arith)

-- one that hands the message over twice is shut out
hands_twice : (out : List (List Message)) → Handed out 5 0 (message three) → Handed out 5 1 (message three)
    → EachMessageIsOneSendingSightedWhole run out (λ (p : Place). three) → ⊥
hands_twice out one two whole = omega (arith, same)
  where
    source : ℕ → ℕ → ℕ → Place
    source = whole.1

    is_three : (i : ℕ) → Handed out 5 i (message three) → three ≡ whole.0 5 i
    is_three i h = (whole.2 5 i (message three) h).given_is 0 (omega arith)

    at : (i : ℕ) → Handed out 5 i (message three) → source 5 i 1 ≡ record { event = 5; index = 0 }
    at i h =
        let s = whole.2 5 i (message three) h in
        let l : 1 ≤ last_part (whole.0 5 i) = subst (λ (x : Sending). 1 ≤ last_part x) (is_three i h) (omega arith) in
        let see = s.sighted 1 l in
        let see' = subst (λ (x : Sending). Sighted run (source 5 i 1) see.0 (block x 1)) (sym (is_three i h)) see.1 in
        let late = (s.stretch.2 1 l).1 in
        let p = one_place (source 5 i 1).event (source 5 i 1).index see.0 late see' in
        λ z. record { event = p.0 z; index = p.1 z }

    same : ◌≡◌ {A = ℕ} 0 1
    same =
        (whole.3 5 0 5 1 (message three) (message three) one two 1 1
        (subst (λ (x : Sending). 1 ≤ last_part x) (is_three 0 one) (omega arith)) (subst (λ (x : Sending). 1 ≤ last_part x) (is_three 1 two) (omega arith))
        (at 0 one ∙ sym (at 1 two))).1

-- one that refuses an offer without cause is shut out
refuses_freely : (r : Refusal) → EachOfferIsRefusedJustWhenDue setting (offered 5 [] (refuses r) ∷ []) → ⊥
refuses_freely r due = due 0 5 [] (0 ∷ []) (refuses r) refl

-- one that invents a count of skipped blocks is shut out
invents_skips : (n : ℕ) → EachTakenLineIsReadAsFound setting (offered 5 [] (answers (record { length_found = 0; used = 0; skipped = suc n }) (0 ∷ [])) ∷ [])
    → ⊥
invents_skips n read = let c : suc n ≡ 0 = (read 0 5 [] (0 ∷ []) _ (0 ∷ []) refl).1 in omega (arith, c)

-- the run above, in one statement
pub meets_the_premise : SomeRunMeetsThePremise
meets_the_premise = (
  setting,
  past,
  s6,
  (λ p. three),
  three,
  0,
  5,
  record { reached = reached; gives = gives; is_sending = three_is; of_three_parts = omega arith; stretch = six; sighted_whole = six_whole; handed_over = six_handed },
)
