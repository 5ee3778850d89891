-- Each sending that a stretch sights whole is handed over, if its number is followed there. No message fault is reported.
use Rattle.std.proofs.Common.{◌≡◌, ℕ, suc, ◌+◌, ◌<◌, ◌≤◌, ◌⊎◌, List, [], map, get_or, Some, sym, refl, ap, ◌∙◌, subst, inl, inr, arith}
use Rattle.std.specs.List.{slice_get}
use Rattle.std.proofs.lemmas.Bool.{cases_lt}
use Rattle.sending.specs.Sendings.{Block, Message, Sending, IsSending, last_part, message, block}
use Rattle.gather.specs.Gathering.{nothing, Answer, handed, faulty}
use Rattle.runs.specs.Histories.{Step, cleared, replies, Reads}
use Rattle.runs.specs.Sightings.{Event, Place, Sighted, Within, Stretch, Gives, Handed, NoMessageFaultIsReported}
use Rattle.gather.specs.Arriving.{messages_of, faults_of}
use Rattle.runs.proofs.Basics.{nth_below}
use Rattle.runs.proofs.Histories.{messages_joined, sendings_handed, none_fail}
use Rattle.runs.proofs.Order.{WellOrdered}
use Rattle.runs.proofs.Rows.{flat, row, start, start_rises, Located, located, place, step_at, step_from}
use Rattle.runs.proofs.Numbers.{ByNumber, Followed, Seen, seen, rising, belongs}
use Rattle.runs.proofs.Trays.{rank, place_message, messages_at, no_fault, faults_at, silent≢faulty}

module _ (events : List Event) (out : List (List Answer)) (rows : ℕ → List (List Step))
    (by : ByNumber events out rows) (wo : WellOrdered events) (given : Place → Sending) (gives : Gives events given) where
  module _ (trays : List (List Message)) (same : trays ≡ map messages_of out)
      (s : Sending) (is : IsSending s) (i j : ℕ) (follows : Followed events rows s.number i j) (str : Stretch events i j)
      (all : (k : ℕ) → k ≤ last_part s → (p : Place) × (t : ℕ) × Within i j p.event × Sighted events p t (block s k))
      (only : (p : Place) (t : ℕ) (b : Block) → Within i j p.event → Sighted events p t b → b.number ≡ s.number
      → (b.version ≡ s.version) × (b.last ≡ last_part s)) where
    abbrev n : ℕ
    n = s.number

    abbrev steps : List Step
    steps = flat (rows n)

    abbrev told : List Answer
    told = replies steps nothing

    abbrev sent_at : ℕ → Sending
    sent_at x = given (place (rows n) x)

    abbrev lo : ℕ
    lo = start (rows n) i

    abbrev hi : ℕ
    hi = start (rows n) (suc j)

    -- a step in this range lies in an event of the stretch
    inside : (x e : ℕ) → Located (rows n) x e → lo ≤ x → x < hi → Within i j e
    inside x e l a b = (from (cases_lt e i), to (cases_lt j e))
      where
        from : (e < i) ⊎ (i ≤ e) → i ≤ e
        from (inl c) = let r = start_rises (rows n) (suc e) i (omega arith) in absurd (omega arith)
        from (inr c) = c

        to : (j < e) ⊎ (e ≤ j) → e ≤ j
        to (inl c) = let r = start_rises (rows n) (suc j) e (omega arith) in absurd (omega arith)
        to (inr c) = c

    quiet : (z : ℕ) → lo ≤ z → z < hi → slice_get steps z ≡ Some cleared → ⊥
    quiet z a b c =
        let r = step_from (rows n) z cleared c in
        let l = nth_below (row (rows n) r.0) r.1 cleared r.2 in
        let at = subst (λ (y : ℕ). Located (rows n) y r.0) (sym r.3) (located (rows n) r.0 r.1 l) in
        follows.stays r.0 r.1 (inside z r.0 at a b) r.2

    close : (x y t u : ℕ) (b c : Block) → lo ≤ x → x ≤ y → y < hi → Reads steps x t b → Reads steps y u c → u ≤ t + 255
    close x y t u b c from l to r q =
        let p = seen events out rows by n x t b r in
        let v = seen events out rows by n y u c q in
        str.1 (place (rows n) x).event (place (rows n) y).event t u (inside x _ p.located_in from (omega arith)) (inside y _ v.located_in (omega arith) to)
        (p.sighted.0, p.sighted.1) (v.sighted.0, v.sighted.1)

    every : (k : ℕ) → k ≤ last_part s → (x : ℕ) × (t : ℕ) × (lo ≤ x) × (x < hi) × Reads steps x t (block s k)
    every k l =
        let q = all k l in
        let p = q.0 in
        let a = q.2 in
        let reads = follows.sighted_reads p q.1 (block s k) q.2 q.3 refl in
        let at = located (rows n) p.event p.index (nth_below _ p.index _ reads) in
        let low = start_rises (rows n) i p.event a.0 in
        let high = start_rises (rows n) (suc p.event) (suc j) (omega arith) in
        (start (rows n) p.event + p.index, q.1, omega arith, omega arith, step_at (rows n) p.event p.index _ reads)

    alone : (x t : ℕ) (b : Block) → lo ≤ x → x < hi → Reads steps x t b → (b.version ≡ s.version) × (b.last ≡ last_part s)
    alone x t b from to r =
        let p = seen events out rows by n x t b r in
        only (place (rows n) x) t b (inside x _ p.located_in from to) p.sighted p.number_is

    done : (x : ℕ) × (lo ≤ x) × (x < hi) × (slice_get told x ≡ Some (handed (message s)))
    done =
        sendings_handed steps sent_at (belongs events out rows by n wo given gives) (rising events out rows by n wo) s is lo hi quiet close every alone

    -- the step at which it is handed over reads a block
    read_there : (t : ℕ) × (b : Block) × Seen events out rows by n done.0 t b
    read_there =
        let o = (messages_joined steps sent_at (belongs events out rows by n wo given gives) done.0 (message s) done.3).1 in
        let r = o.block_read o.own.0 o.own.1 in
        (r.0, _, seen events out rows by n done.0 r.0 _ (subst (λ (y : ℕ). Reads steps y r.0 (block (sent_at done.0) o.own.0)) o.own.2 r.1))

    pub whole_handed : (e : ℕ) × (x : ℕ) × Within i j e × Handed trays e x (message s)
    whole_handed =
        let q = read_there.2 in
        let p = place (rows n) done.0 in
        let at : slice_get (get_or out p.event []) p.index ≡ Some (handed (message s))
        = by.replies_there n p.event p.index read_there.0 read_there.1 q.reads ∙ ap (slice_get told) (sym q.at) ∙ done.3 in (
          p.event,
          rank (get_or out p.event []) p.index,
          inside done.0 p.event q.located_in done.1 done.2,
          subst (λ (l : List Message). slice_get l (rank (get_or out p.event []) p.index) ≡ Some (message s))
              (sym (ap (λ (l : List (List Message)). get_or l p.event []) same ∙ messages_at out p.event))
              (place_message (get_or out p.event []) p.index (message s) at),
        )

  pub none_faulty : (faults : List ℕ) → faults ≡ map faults_of out → NoMessageFaultIsReported faults
  none_faulty faults same e = ap (λ (l : List ℕ). get_or l e 0) same ∙ faults_at out e ∙ no_fault (get_or out e []) never
    where
      never : (j : ℕ) → slice_get (get_or out e []) j ≡ Some faulty → ⊥
      never j c =
          let s = by.speaks_where_read e j faulty c (λ d. silent≢faulty (sym d)) in
          none_fail (flat (rows s.0)) (λ (x : ℕ). given (place (rows s.0) x)) (belongs events out rows by s.0 wo given gives)
          (start (rows s.0) e + j) (sym (by.replies_there s.0 e j s.1 s.2 s.3) ∙ c)
