-- What is promised of a reader's past, and of one number's history.
use Rattle.std.specs.Prelude.{◌≡◌, ℕ, List, [], ◌∷◌, ◌++◌, take, Some, None, Option}
use Rattle.std.specs.List.{slice_get}
use Rattle.refusal.specs.declared.Refusal.{Refusal}
use Rattle.sending.specs.Sendings.{Sending}
use Rattle.gather.specs.Gathering.{nothing}
use Rattle.runs.specs.Histories.{Step, replies, Rising, Belongs, EachMessageIsJoinedFromOneSending, NoJoinedPartsFailTheirCheck, EachSendingReadWholeIsHandedOver}
use Rattle.runs.specs.Sightings.{Place, Gives, EachMessageIsOneSendingSightedWhole, EachWholeSendingIsHandedOver, NoMessageFaultIsReported}
use Rattle.gather.specs.Arriving.{skipped_of}
use Rattle.runs.specs.Pasts.{Call, offer, Figures, Outcome, refuses, answers, restarts, Past, Setting, blocks_in, spoilt_in, length_in, events, trays, fault_counts, floor_after}
use Rattle.runs.specs.Reaching.{State, Comes, Reached}

-- every taken offer answers the length, the skipped blocks and the faults of the payload that the system finds in its line
abbrev pub EachTakenLineIsReadAsFound : Setting → Past → Type 0
EachTakenLineIsReadAsFound s past =
    (e t : ℕ) (line tray : List ℕ) (a : Figures) (bytes : List ℕ)
    → slice_get past e ≡ Some (record { call = offer t line tray; outcome = answers a bytes })
    → (a.length_found ≡ length_in s (s.found line))
    × (a.skipped ≡ skipped_of s.watch (blocks_in s (s.found line)))
    × (s.block_faults (take a.used bytes) ≡ spoilt_in s (s.found line))

-- where a refusal is due it is the outcome, and otherwise the offer is taken
abbrev pub Says : Option Refusal → Outcome → Type 0
Says (Some r) (refuses q) = q ≡ r
Says (Some r) (answers a bytes) = ⊥
Says (Some r) restarts = ⊥
Says None (refuses q) = ⊥
Says None (answers a bytes) = Unit {0}
Says None restarts = ⊥

abbrev pub EachOfferIsRefusedJustWhenDue : Setting → Past → Type 0
EachOfferIsRefusedJustWhenDue s past =
    (e t : ℕ) (line tray : List ℕ) (outcome : Outcome) → slice_get past e ≡ Some (record { call = offer t line tray; outcome = outcome })
    → Says (s.due (floor_after 0 (take e past)) t line tray) outcome

-- what is promised of a past
abbrev pub Promised : Setting → Past → Type 0
Promised s past =
    EachOfferIsRefusedJustWhenDue s past
    × EachTakenLineIsReadAsFound s past
    × ((given : Place → Sending) → Gives (events s past) given
    → EachMessageIsOneSendingSightedWhole (events s past) (trays s past) given
    × EachWholeSendingIsHandedOver s.watch (events s past) (trays s past)
    × NoMessageFaultIsReported (fault_counts s past))

-- what a call promises: it prolongs every past of the reader, and of the longer past everything is promised
abbrev pub Prolongs : Setting → State → Call → Outcome → State → Type 0
Prolongs s before call outcome later =
    (past : Past) → Reached s past before
    → Reached s (past ++ record { call = call; outcome = outcome } ∷ []) later
    × Promised s (past ++ record { call = call; outcome = outcome } ∷ [])

-- each call that keeps to the rules promises that
abbrev pub EachCallProlongsThePast : Type 0
EachCallProlongsThePast =
    (s : Setting) (before : State) (call : Call) (outcome : Outcome) (later : State)
    → Comes s before call outcome later → Prolongs s before call outcome later

-- one number, over every history
abbrev pub OneNumberStands : Type 0
OneNumberStands =
    (steps : List Step) (given : ℕ → Sending) → Rising steps → Belongs steps given
    → EachMessageIsJoinedFromOneSending steps (replies steps nothing) given
    × EachSendingReadWholeIsHandedOver steps (replies steps nothing)
    × NoJoinedPartsFailTheirCheck (replies steps nothing)
