-- Messages and faults among the answers to a line.
use Rattle.std.proofs.Common.{◌≡◌, ℕ, zero, suc, List, [], ◌∷◌, map, get_or, Some, sym, refl, ap, subst}
use Rattle.std.specs.List.{slice_get}
use Rattle.sending.specs.Sendings.{Message}
use Rattle.gather.specs.Gathering.{Answer, silent, handed, faulty}
use Rattle.gather.specs.Arriving.{messages_of, faults_of}
use Rattle.runs.proofs.Basics.{none≢some, some_same}
use Rattle.runs.proofs.Origins.{silent≢handed}

-- how many of the first j answers are messages
abbrev pub rank : List Answer → ℕ → ℕ
rank [] j = zero
rank (x ∷ xs) zero = zero
rank (silent ∷ xs) (suc j) = rank xs j
rank (handed m ∷ xs) (suc j) = suc (rank xs j)
rank (faulty ∷ xs) (suc j) = rank xs j

pub message_place : (xs : List Answer) (i : ℕ) (m : Message) → slice_get (messages_of xs) i ≡ Some m
    → (j : ℕ) × (slice_get xs j ≡ Some (handed m)) × (i ≡ rank xs j)
message_place [] i m h = absurd (none≢some h)
message_place (silent ∷ xs) i m h = let r = message_place xs i m h in (suc r.0, r.1, r.2)
message_place (faulty ∷ xs) i m h = let r = message_place xs i m h in (suc r.0, r.1, r.2)
message_place (handed n ∷ xs) zero m h = (zero, ap (λ (x : Message). Some (handed x)) (some_same h), refl)
message_place (handed n ∷ xs) (suc i) m h = let r = message_place xs i m h in (suc r.0, r.1, ap suc r.2)

abbrev IsMessage : Message → Answer → Message
IsMessage d silent = d
IsMessage d (handed m) = m
IsMessage d faulty = d

abbrev NotFaulty : Answer → Type 0
NotFaulty silent = Unit {0}
NotFaulty (handed m) = Unit {0}
NotFaulty faulty = ⊥

pub silent≢faulty : silent ≡ faulty → ⊥
silent≢faulty h = subst NotFaulty h tt

pub place_message : (xs : List Answer) (j : ℕ) (m : Message) → slice_get xs j ≡ Some (handed m) → slice_get (messages_of xs) (rank xs j) ≡ Some m
place_message [] j m h = absurd (none≢some h)
place_message (silent ∷ xs) zero m h = absurd (silent≢handed (some_same h))
place_message (silent ∷ xs) (suc j) m h = place_message xs j m h
place_message (faulty ∷ xs) zero m h = absurd (subst NotFaulty (sym (some_same h)) tt)
place_message (faulty ∷ xs) (suc j) m h = place_message xs j m h
place_message (handed n ∷ xs) zero m h = ap Some (ap (IsMessage n) (some_same h))
place_message (handed n ∷ xs) (suc j) m h = place_message xs j m h

pub no_fault : (xs : List Answer) → ((j : ℕ) → slice_get xs j ≡ Some faulty → ⊥) → faults_of xs ≡ 0
no_fault [] h = refl
no_fault (silent ∷ xs) h = no_fault xs (λ j c. h (suc j) c)
no_fault (handed m ∷ xs) h = no_fault xs (λ j c. h (suc j) c)
no_fault (faulty ∷ xs) h = absurd (h zero refl)

pub messages_at : (xs : List (List Answer)) (e : ℕ) → get_or (map messages_of xs) e [] ≡ messages_of (get_or xs e [])
messages_at [] e = refl
messages_at (x ∷ xs) zero = refl
messages_at (x ∷ xs) (suc e) = messages_at xs e

pub faults_at : (xs : List (List Answer)) (e : ℕ) → get_or (map faults_of xs) e 0 ≡ faults_of (get_or xs e [])
faults_at [] e = refl
faults_at (x ∷ xs) zero = refl
faults_at (x ∷ xs) (suc e) = faults_at xs e
