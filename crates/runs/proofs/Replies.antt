-- What a reader with a watch list answers to a block is what the slot of its number replies in its own history.
use Rattle.std.proofs.Common.{◌≡◌, ℕ, zero, suc, ◌+◌, Bool, true, false, cond, ◌&&◌, eqb, ◌⊎◌, List, [], ◌∷◌, ◌++◌, map, length, get_or, Some, sym, refl, ap, ◌∙◌, subst, ap₂, inl, inr, arith}
use Rattle.std.specs.List.{slice_get}
use Rattle.std.proofs.lemmas.List.{length-map}
use Rattle.std.proofs.lemmas.Bool.{cases_Bool, and_parts, and_from, or_left, or_right, eq-eqb, eqb-true, cond-true, cond-false}
use Rattle.sending.specs.Sendings.{Block}
use Rattle.gather.specs.Gathering.{Slot, nothing, settled, Answer, silent}
use Rattle.runs.specs.Histories.{Step, cleared, passed, read, next, reply, replies, after}
use Rattle.runs.specs.Sightings.{Event, restarted, refused, taken, Sighted, Restarted, Stretch}
use Rattle.gather.specs.Arriving.{watched, Table, arrive, answer_to, after_line, line_answers}
use Rattle.runs.proofs.Basics.{none≢some, some_same, nth_below, nth_at}
use Rattle.runs.proofs.Joining.{step_of}
use Rattle.runs.proofs.Histories.{length_replies}
use Rattle.runs.proofs.Order.{IsTaken, blocks_same}
use Rattle.runs.proofs.Rows.{nth_left, nth_right, flat, row, start}
use Rattle.runs.proofs.Numbers.{ByNumber, Followed}

pub nth_map : {A B : Type 0} (f : A → B) (xs : List A) (i : ℕ) (x : A) → slice_get xs i ≡ Some x → slice_get (map f xs) i ≡ Some (f x)
nth_map f [] i x c = absurd (none≢some c)
nth_map f (y ∷ xs) zero x c = ap (λ z. Some (f z)) (some_same c)
nth_map f (y ∷ xs) (suc i) x c = nth_map f xs i x c

pub map_nth : {A B : Type 0} (f : A → B) (xs : List A) (i : ℕ) (y : B) → slice_get (map f xs) i ≡ Some y → (x : A) × (slice_get xs i ≡ Some x) × (f x ≡ y)
map_nth f [] i y c = absurd (none≢some c)
map_nth f (x ∷ xs) zero y c = (x, refl, some_same c)
map_nth f (x ∷ xs) (suc i) y c = map_nth f xs i y c

abbrev IsRead : Step → Type 0
IsRead cleared = ⊥
IsRead passed = ⊥
IsRead (read t b) = Unit {0}

abbrev IsCleared : Step → Type 0
IsCleared cleared = Unit {0}
IsCleared passed = ⊥
IsCleared (read t b) = ⊥

pub is_watched : (watch : List ℕ) (w n : ℕ) → slice_get watch w ≡ Some n → watched watch n ≡ true
is_watched [] w n c = absurd (none≢some c)
is_watched (x ∷ xs) zero n c = or_left _ _ (eq-eqb x n (some_same c))
is_watched (x ∷ xs) (suc w) n c = or_right _ _ (is_watched xs w n c)

module _ (watch : List ℕ) (n : ℕ) where
  -- a block as a step of number n: one of a number that is not watched passes too
  abbrev pub view : ℕ → Block → Step
  view t b = cond (watched watch b.number && eqb n b.number) (read t b) passed

  abbrev pub steps_of : Event → List Step
  steps_of restarted = cleared ∷ []
  steps_of refused = []
  steps_of (taken t bs) = map (view t) bs

  -- the steps of number n, event by event
  abbrev pub rows : List Event → List (List Step)
  rows = map steps_of

  pub view_reads : (u t : ℕ) (c b : Block) → view u c ≡ read t b → (u ≡ t) × (c ≡ b) × (watched watch c.number ≡ true) × (c.number ≡ n)
  view_reads u t c b h = go (cases_Bool (watched watch c.number && eqb n c.number))
    where
      test : Bool
      test = watched watch c.number && eqb n c.number

      go : (test ≡ true) ⊎ (test ≡ false) → (u ≡ t) × (c ≡ b) × (watched watch c.number ≡ true) × (c.number ≡ n)
      go (inl d) =
          let same = step_of (ap Some (sym (cond-true test (read u c) passed d) ∙ h)) in
          let both = and_parts (watched watch c.number) _ d in
          (same.0, same.1, both.0, sym (eqb-true _ _ both.1))
      go (inr d) = absurd (subst IsRead (sym h ∙ cond-false test (read u c) passed d) tt)

  pub view_stays : (u : ℕ) (c : Block) → view u c ≡ cleared → ⊥
  view_stays u c h = go (watched watch c.number && eqb n c.number) h
    where
      go : (q : Bool) → cond q (read u c) passed ≡ cleared → ⊥
      go true d = subst IsCleared (sym d) tt
      go false d = subst IsCleared (sym d) tt

  pub reads_sighted : (events : List Event) (e j t : ℕ) (b : Block) → slice_get (row (rows events) e) j ≡ Some (read t b)
      → Sighted events (record { event = e; index = j }) t b × (watched watch b.number ≡ true) × (b.number ≡ n)
  reads_sighted [] e j t b d = absurd (none≢some d)
  reads_sighted (restarted ∷ vs) zero zero t b d = absurd (subst IsCleared (some_same d) tt)
  reads_sighted (restarted ∷ vs) zero (suc j) t b d = absurd (none≢some d)
  reads_sighted (refused ∷ vs) zero j t b d = absurd (none≢some d)
  reads_sighted (taken u bs ∷ vs) zero j t b d =
      let m = map_nth (view u) bs j (read t b) d in
      let a = view_reads u t m.0 b m.2 in (
        (bs, ap (λ (f : ℕ). Some (taken f bs)) a.0, m.1 ∙ ap Some a.1),
        subst (λ (y : Block). watched watch y.number ≡ true) a.1 a.2,
        subst (λ (y : Block). y.number ≡ n) a.1 a.3,
      )
  reads_sighted (v ∷ vs) (suc e) j t b d = reads_sighted vs e j t b d

  pub restart_clears : (events : List Event) (z : ℕ) → Restarted events z → slice_get (row (rows events) z) 0 ≡ Some cleared
  restart_clears [] z r = absurd (none≢some r)
  restart_clears (v ∷ vs) zero r = ap (λ (u : Event). slice_get (steps_of u) 0) (some_same r)
  restart_clears (v ∷ vs) (suc z) r = restart_clears vs z r

  pub sighted_reads : (events : List Event) (e j t : ℕ) (b : Block) → Sighted events (record { event = e; index = j }) t b → b.number ≡ n
      → watched watch b.number ≡ true → slice_get (row (rows events) e) j ≡ Some (read t b)
  sighted_reads [] e j t b s same w = absurd (none≢some s.1)
  sighted_reads (v ∷ vs) zero j t b s same w =
      ap (λ (u : Event). slice_get (steps_of u) j) (some_same s.1) ∙ nth_map (view t) s.0 j b s.2
      ∙ ap Some (cond-true _ (read t b) passed (and_from _ _ w (eq-eqb _ _ (sym same))))
  sighted_reads (v ∷ vs) (suc e) j t b s same w = sighted_reads vs e j t b s same w

  pub clears_restart : (events : List Event) (e j : ℕ) → slice_get (row (rows events) e) j ≡ Some cleared → Restarted events e
  clears_restart [] e j d = absurd (none≢some d)
  clears_restart (restarted ∷ vs) zero j d = refl
  clears_restart (refused ∷ vs) zero j d = absurd (none≢some d)
  clears_restart (taken u bs ∷ vs) zero j d = let m = map_nth (view u) bs j cleared d in absurd (view_stays u m.0 m.2)
  clears_restart (v ∷ vs) (suc e) j d = clears_restart vs e j d

module _ (watch : List ℕ) where
  abbrev pub after_event : Event → Table → Table
  after_event restarted table = λ (n : ℕ). nothing
  after_event refused table = table
  after_event (taken t bs) table = after_line watch t bs table

  abbrev pub event_answers : Event → Table → List Answer
  event_answers restarted table = []
  event_answers refused table = []
  event_answers (taken t bs) table = line_answers watch t bs table

  -- for each event the answer to each of its blocks
  abbrev pub answers : List Event → Table → List (List Answer)
  answers [] table = []
  answers (v ∷ vs) table = event_answers v table ∷ answers vs (after_event v table)

  arrive_is : (n t : ℕ) (b : Block) (table : Table) → arrive watch t b table n ≡ next (view watch n t b) (table n)
  arrive_is n t b table = go (watched watch b.number && eqb n b.number)
    where
      go : (c : Bool) → cond c (settled t b (table n)) (table n) ≡ next (cond c (read t b) passed) (table n)
      go true = refl
      go false = refl

  after_line_is : (n t : ℕ) (bs : List Block) (table : Table) → after_line watch t bs table n ≡ after (map (view watch n t) bs) (table n)
  after_line_is n t [] table = refl
  after_line_is n t (b ∷ bs) table =
      after_line_is n t bs (arrive watch t b table) ∙ ap (after (map (view watch n t) bs)) (arrive_is n t b table)

  pub after_event_is : (n : ℕ) (v : Event) (table : Table) → after_event v table n ≡ after (steps_of watch n v) (table n)
  after_event_is n restarted table = refl
  after_event_is n refused table = refl
  after_event_is n (taken t bs) table = after_line_is n t bs table

  pub replies_append : (xs ys : List Step) (slot : Slot) → replies (xs ++ ys) slot ≡ replies xs slot ++ replies ys (after xs slot)
  replies_append [] ys slot = refl
  replies_append (x ∷ xs) ys slot = ap (λ (l : List Answer). reply x slot ∷ l) (replies_append xs ys (next x slot))

  -- in one line
  pub line_reply : (t : ℕ) (bs : List Block) (table : Table) (j : ℕ) (b : Block) → slice_get bs j ≡ Some b → watched watch b.number ≡ true
      → slice_get (line_answers watch t bs table) j ≡ slice_get (replies (map (view watch b.number t) bs) (table b.number)) j
  line_reply t [] table j b c w = absurd (none≢some c)
  line_reply t (a ∷ bs) table zero b c w =
      subst (λ (x : Block). Some (answer_to watch t x table) ≡ Some (reply (view watch b.number t x) (table b.number))) (sym (some_same c))
      (ap Some
      (cond-true _ _ silent w
      ∙ ap (λ (v : Step). reply v (table b.number)) (sym (cond-true _ (read t b) passed (and_from _ _ w (eq-eqb b.number b.number refl))))))
  line_reply t (a ∷ bs) table (suc j) b c w =
      line_reply t bs (arrive watch t a table) j b c w
      ∙ ap (λ (slot : Slot). slice_get (replies (map (view watch b.number t) bs) slot) j) (arrive_is b.number t a table)

  -- in all events
  pub answer_reply : (events : List Event) (table : Table) (e j t : ℕ) (b : Block) → Sighted events (record { event = e; index = j }) t b
      → watched watch b.number ≡ true
      → slice_get (get_or (answers events table) e []) j ≡ slice_get (replies (flat (rows watch b.number events)) (table b.number)) (start (rows watch b.number events) e + j)
  answer_reply [] table e j t b see w = absurd (none≢some see.1)
  answer_reply (restarted ∷ vs) table zero j t b see w = absurd (subst IsTaken (sym see.1) tt)
  answer_reply (refused ∷ vs) table zero j t b see w = absurd (subst IsTaken (sym see.1) tt)
  answer_reply (taken u bs ∷ vs) table zero j t b see w =
      let at : slice_get bs j ≡ Some b = ap (λ (l : List Block). slice_get l j) (blocks_same see.1) ∙ see.2 in
      let l = nth_below bs j b at in
      let n = b.number in
      let own = map (view watch n u) bs in
      let k = length_replies own (table n) in
      let m : length own ≡ length bs = length-map bs (view watch n u) in
      line_reply u bs table j b at w
      ∙ sym
      (ap₂ slice_get (replies_append own (flat (rows watch n vs)) (table n)) (omega arith)
      ∙ nth_left (replies own (table n)) (replies (flat (rows watch n vs)) (after own (table n))) j (omega arith))
  answer_reply (v ∷ vs) table (suc e) j t b see w =
      let n = b.number in
      let own = steps_of watch n v in
      let far : length own + start (rows watch n vs) e + j ≡ length own + (start (rows watch n vs) e + j) = omega arith in
      answer_reply vs (after_event v table) e j t b see w
      ∙ sym
      (ap₂ slice_get (replies_append own (flat (rows watch n vs)) (table n)) far
      ∙ nth_right (replies own (table n)) (replies (flat (rows watch n vs)) (after own (table n))) (length own) (start (rows watch n vs) e + j)
      (length_replies own (table n))
      ∙ ap (λ (slot : Slot). slice_get (replies (flat (rows watch n vs)) slot) (start (rows watch n vs) e + j)) (sym (after_event_is n v table)))

  pub length_line : (t : ℕ) (bs : List Block) (table : Table) → length (line_answers watch t bs table) ≡ length bs
  length_line t [] table = refl
  length_line t (b ∷ bs) table = ap suc (length_line t bs (arrive watch t b table))

  -- what stands among the answers answers a sighted block
  pub answered : (events : List Event) (table : Table) (e j : ℕ) (a : Answer) → slice_get (get_or (answers events table) e []) j ≡ Some a
      → (t : ℕ) × (b : Block) × Sighted events (record { event = e; index = j }) t b
  answered [] table e j a h = absurd (none≢some h)
  answered (restarted ∷ vs) table zero j a h = absurd (none≢some h)
  answered (refused ∷ vs) table zero j a h = absurd (none≢some h)
  answered (taken t bs ∷ vs) table zero j a h =
      let l = nth_below (line_answers watch t bs table) j a h in
      let k = length_line t bs table in
      let b = nth_at bs j (omega arith) in
      (t, b.0, (bs, refl, b.1))
  answered (v ∷ vs) table (suc e) j a h = answered vs (after_event v table) e j a h

  -- a number that is not watched is answered by silence
  pub line_silent : (t : ℕ) (bs : List Block) (table : Table) (j : ℕ) (b : Block) → slice_get bs j ≡ Some b → watched watch b.number ≡ false
      → slice_get (line_answers watch t bs table) j ≡ Some silent
  line_silent t [] table j b c w = absurd (none≢some c)
  line_silent t (a ∷ bs) table zero b c w =
      ap (λ (x : Block). Some (answer_to watch t x table)) (some_same c) ∙ ap Some (cond-false _ _ silent w)
  line_silent t (a ∷ bs) table (suc j) b c w = line_silent t bs (arrive watch t a table) j b c w

  pub unwatched_silent : (events : List Event) (table : Table) (e j t : ℕ) (b : Block) → Sighted events (record { event = e; index = j }) t b
      → watched watch b.number ≡ false → slice_get (get_or (answers events table) e []) j ≡ Some silent
  unwatched_silent [] table e j t b see w = absurd (none≢some see.1)
  unwatched_silent (restarted ∷ vs) table zero j t b see w = absurd (subst IsTaken (sym see.1) tt)
  unwatched_silent (refused ∷ vs) table zero j t b see w = absurd (subst IsTaken (sym see.1) tt)
  unwatched_silent (taken u bs ∷ vs) table zero j t b see w =
      line_silent u bs table j b (ap (λ (l : List Block). slice_get l j) (blocks_same see.1) ∙ see.2) w
  unwatched_silent (v ∷ vs) table (suc e) j t b see w = unwatched_silent vs (after_event v table) e j t b see w

  pub by_number : (events : List Event) → ByNumber events (answers events (λ n. nothing)) (λ (n : ℕ). rows watch n events)
  by_number events =
      record {
        reads_sighted = λ n e j t b d. let r = reads_sighted watch n events e j t b d in (r.0, r.2);
        restart_clears = λ n z r. restart_clears watch n events z r;
        replies_there = λ n e j t b d.
            let r = reads_sighted watch n events e j t b d in
            subst (λ (m : ℕ). slice_get (get_or (answers events (λ n. nothing)) e []) j
            ≡ slice_get (replies (flat (rows watch m events)) nothing) (start (rows watch m events) e + j))
            r.2 (answer_reply events (λ n. nothing) e j t b r.0 r.1);
        speaks_where_read = λ e j a c loud. let s = answered events (λ n. nothing) e j a c in speaks e j a c loud s.0 s.1 s.2;
      }
    where
      speaks : (e j : ℕ) (a : Answer) → slice_get (get_or (answers events (λ n. nothing)) e []) j ≡ Some a → (a ≡ silent → ⊥)
          → (t : ℕ) (b : Block) → Sighted events (record { event = e; index = j }) t b
          → (n : ℕ) × (t : ℕ) × (b : Block) × (slice_get (row (rows watch n events) e) j ≡ Some (read t b))
      speaks e j a c loud t b s = go (cases_Bool (watched watch b.number))
        where
          go : (watched watch b.number ≡ true) ⊎ (watched watch b.number ≡ false)
              → (n : ℕ) × (t : ℕ) × (b : Block) × (slice_get (row (rows watch n events) e) j ≡ Some (read t b))
          go (inl w) = (b.number, t, b, sighted_reads watch b.number events e j t b s refl w)
          go (inr w) = absurd (loud (some_same (sym c ∙ unwatched_silent events (λ n. nothing) e j t b s w)))

-- a watched number is followed in every stretch
pub followed : (watch : List ℕ) (events : List Event) (n i j : ℕ) → watched watch n ≡ true → Stretch events i j
    → Followed events (λ (m : ℕ). rows watch m events) n i j
followed watch events n i j w str =
    record {
      sighted_reads = λ p t b l s same. sighted_reads watch n events p.event p.index t b s same (subst (λ (m : ℕ). watched watch m ≡ true) (sym same) w);
      stays = λ e k l d. str.0 e l (clears_restart watch n events e k d);
    }
