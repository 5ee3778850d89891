-- A reader seen number by number: what it answers are the replies of one slot for each number, each in its own history.
use Rattle.std.proofs.Common.{◌≡◌, ℕ, suc, ◌+◌, ◌≤◌, List, [], get_or, Some, sym, ap, ◌∙◌, subst, arith}
use Rattle.std.specs.List.{slice_get}
use Rattle.sending.specs.Sendings.{Block, Sending}
use Rattle.gather.specs.Gathering.{nothing, Answer, silent}
use Rattle.runs.specs.Histories.{Step, cleared, read, replies, Reads, Unbroken, Rising, Belongs}
use Rattle.runs.specs.Sightings.{Event, Place, Sighted, Restarted, Taken, Within, Stretch, Gives}
use Rattle.runs.proofs.Basics.{nth_below}
use Rattle.runs.proofs.Order.{WellOrdered, not_both}
use Rattle.runs.proofs.Rows.{flat, row, start, start_rises, Located, located, located_order, place, place_is, step_at, step_from}

-- Rows n are the steps of number n, event by event; out are the answers, event by event.
-- A step that reads is a sighting of its number, a restart clears every number, and the answer at a place is the reply of the number
-- that reads there. Where no number reads, the answer is silent.
pub record ByNumber (events : List Event) (out : List (List Answer)) (rows : ℕ → List (List Step)) : Type 0 where
  pub reads_sighted : (n e j t : ℕ) (b : Block) → slice_get (row (rows n) e) j ≡ Some (read t b)
      → Sighted events (record { event = e; index = j }) t b × (b.number ≡ n)
  pub restart_clears : (n z : ℕ) → Restarted events z → slice_get (row (rows n) z) 0 ≡ Some cleared
  pub replies_there : (n e j t : ℕ) (b : Block) → slice_get (row (rows n) e) j ≡ Some (read t b)
      → slice_get (get_or out e []) j ≡ slice_get (replies (flat (rows n)) nothing) (start (rows n) e + j)
  pub speaks_where_read : (e j : ℕ) (a : Answer) → slice_get (get_or out e []) j ≡ Some a → (a ≡ silent → ⊥)
      → (n : ℕ) × (t : ℕ) × (b : Block) × (slice_get (row (rows n) e) j ≡ Some (read t b))

-- in events i to j every sighting of number n is read, and nothing of it is cleared
pub record Followed (events : List Event) (rows : ℕ → List (List Step)) (n i j : ℕ) : Type 0 where
  pub sighted_reads : (p : Place) (t : ℕ) (b : Block) → Within i j p.event → Sighted events p t b → b.number ≡ n
      → slice_get (row (rows n) p.event) p.index ≡ Some (read t b)
  pub stays : (e k : ℕ) → Within i j e → slice_get (row (rows n) e) k ≡ Some cleared → ⊥

module _ (events : List Event) (out : List (List Answer)) (rows : ℕ → List (List Step))
    (by : ByNumber events out rows) (n : ℕ) where
  abbrev steps : List Step
  steps = flat (rows n)

  -- what is known of a step that reads a block
  pub record Seen (x t : ℕ) (b : Block) : Type 0 where
    pub reads : slice_get (row (rows n) (place (rows n) x).event) (place (rows n) x).index ≡ Some (read t b)
    pub sighted : Sighted events (place (rows n) x) t b
    pub number_is : b.number ≡ n
    pub located_in : Located (rows n) x (place (rows n) x).event
    pub at : x ≡ start (rows n) (place (rows n) x).event + (place (rows n) x).index

  pub seen : (x t : ℕ) (b : Block) → Reads steps x t b → Seen x t b
  seen x t b r =
      let s = step_from (rows n) x (read t b) r in
      let l = nth_below (row (rows n) s.0) s.1 (read t b) s.2 in
      let here : place (rows n) x ≡ record { event = s.0; index = s.1 } = ap (place (rows n)) s.3 ∙ place_is (rows n) s.0 s.1 l in
      let c = by.reads_sighted n s.0 s.1 t b s.2 in
      record {
        reads = subst (λ (p : Place). slice_get (row (rows n) p.event) p.index ≡ Some (read t b)) (sym here) s.2;
        sighted = subst (λ (p : Place). Sighted events p t b) (sym here) c.0;
        number_is = c.1;
        located_in = subst (λ (p : Place). Located (rows n) x p.event) (sym here)
            (subst (λ (y : ℕ). Located (rows n) y s.0) (sym s.3) (located (rows n) s.0 s.1 l));
        at = s.3 ∙ ap (λ (p : Place). start (rows n) p.event + p.index) (sym here);
      }

  abbrev event_at : ℕ → ℕ
  event_at x = (place (rows n) x).event

  -- nothing cleared between two steps that read: no restart between their events
  quiet : (x y t u : ℕ) (b c : Block) → Unbroken steps x y → Seen x t b → Seen y u c → (z : ℕ) → Within (event_at x) (event_at y) z → Restarted events z → ⊥
  quiet x y t u b c still p q z w r = still (start (rows n) z) low high clears
    where
      clears : slice_get steps (start (rows n) z) ≡ Some cleared
      clears = ap (slice_get steps) (omega arith) ∙ step_at (rows n) z 0 cleared (by.restart_clears n z r)

      differs : z ≡ event_at x → ⊥
      differs same = not_both events (event_at x) t (p.sighted.0, p.sighted.1) (subst (λ (f : ℕ). Restarted events f) same r)

      low : x ≤ start (rows n) z
      low =
          let d = differs in
          let f = w.0 in
          let m = start_rises (rows n) (suc (event_at x)) z (omega arith) in
          let a = p.located_in in
          omega arith

      high : start (rows n) z ≤ y
      high = let a = q.located_in in let m = start_rises (rows n) z (event_at y) w.1 in omega arith

  module _ (wo : WellOrdered events) where
    pub rising : Rising steps
    rising x y t u b c l still r s =
        let p = seen x t b r in
        let q = seen y u c s in
        wo (event_at x) (event_at y) t u (located_order (rows n) x y _ _ p.located_in q.located_in l)
        (quiet x y t u b c still p q) (p.sighted.0, p.sighted.1) (q.sighted.0, q.sighted.1)

    -- two steps at most 255 frames apart lie in one stretch
    pub stretch_between : (x y t u : ℕ) (b c : Block) → Unbroken steps x y → Seen x t b → Seen y u c → u ≤ t + 255 → Stretch events (event_at x) (event_at y)
    stretch_between x y t u b c still p q near = (still', close)
      where
        still' : (z : ℕ) → Within (event_at x) (event_at y) z → Restarted events z → ⊥
        still' = quiet x y t u b c still p q

        close : (i j f g : ℕ) → Within (event_at x) (event_at y) i → Within (event_at x) (event_at y) j → Taken events i f → Taken events j g → g ≤ f + 255
        close i j f g a d k m =
            let low : t ≤ f = wo (event_at x) i t f a.0 (λ z w. still' z (omega arith)) (p.sighted.0, p.sighted.1) k in
            let high : g ≤ u = wo j (event_at y) g u d.1 (λ z w. still' z (omega arith)) m (q.sighted.0, q.sighted.1) in
            omega arith

    -- what is given to sightings is given to steps
    pub belongs : (given : Place → Sending) → Gives events given → Belongs steps (λ (x : ℕ). given (place (rows n) x))
    belongs given gives = (
      λ x t b r. gives.0 (place (rows n) x) t b (seen x t b r).sighted,
      λ x y t u b c l still r s near same.
          let p = seen x t b r in
          let q = seen y u c s in
          let o = located_order (rows n) x y _ _ p.located_in q.located_in l in
          gives.1 (event_at x) (event_at y) (stretch_between x y t u b c still p q near)
          (place (rows n) x) (place (rows n) y) t u b c p.sighted q.sighted (omega arith) (omega arith) (p.number_is ∙ sym q.number_is) same,
    )
