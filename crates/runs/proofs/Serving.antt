-- Each message in a tray is that of one sending sighted whole, and no sighting serves two.
use Rattle.std.proofs.Common.{◌≡◌, ℕ, ◌+◌, ◌<◌, ◌≤◌, ◌⊎◌, List, [], map, get_or, Some, None, Option, sym, refl, ap, ◌∙◌, subst, ap₂, inl, inr, arith}
use Rattle.std.specs.List.{slice_get}
use Rattle.std.proofs.lemmas.Bool.{cases_order}
use Rattle.sending.specs.Sendings.{Block, Message, Sending, last_part, block}
use Rattle.gather.specs.Gathering.{nothing, Answer, handed}
use Rattle.runs.specs.Histories.{Step, replies, Reads, JoinedFrom}
use Rattle.runs.specs.Sightings.{Event, Place, Sighted, Stretch, Gives, Handed, ServedBy, Once, EachMessageIsOneSendingSightedWhole}
use Rattle.gather.specs.Arriving.{messages_of}
use Rattle.runs.proofs.Basics.{none≢some, some_same, nth_below, least}
use Rattle.runs.proofs.Origins.{silent≢handed}
use Rattle.runs.proofs.Histories.{messages_joined}
use Rattle.runs.proofs.Order.{WellOrdered, one_block}
use Rattle.runs.proofs.Rows.{flat, row, start, Located, located, located_order, place, place_is}
use Rattle.runs.proofs.Numbers.{ByNumber, Seen, seen, stretch_between, belongs}
use Rattle.runs.proofs.Trays.{rank, message_place, messages_at}

module _ (events : List Event) (out : List (List Answer)) (rows : ℕ → List (List Step))
    (by : ByNumber events out rows) (wo : WellOrdered events) (given : Place → Sending) (gives : Gives events given) where
  abbrev told : ℕ → List Answer
  told n = replies (flat (rows n)) nothing

  abbrev sent_at : ℕ → ℕ → Sending
  sent_at n x = given (place (rows n) x)

  -- message i of event e was handed over at step x of a number
  record Service (e i : ℕ) (m : Message) (sent : Sending) (source : ℕ → Place) : Type 0 where
    index : ℕ
    index_is : i ≡ rank (get_or out e []) index
    number : ℕ
    x : ℕ
    here : place (rows number) x ≡ record { event = e; index = index }
    located_in : Located (rows number) x e
    steps : ℕ → ℕ
    joined : JoinedFrom (flat (rows number)) (told number) (sent_at number) x m steps
    handing : slice_get (told number) x ≡ Some (handed m)
    sent_is : sent_at number x ≡ sent
    source_is : (k : ℕ) → place (rows number) (steps k) ≡ source k

  serve : (e i : ℕ) (m : Message) → slice_get (messages_of (get_or out e [])) i ≡ Some m → (sent : Sending) × (source : ℕ → Place) × Service e i m sent source
  serve e i m h =
      let r = message_place (get_or out e []) i m h in
      let s = by.speaks_where_read e r.0 (handed m) r.1 (λ c. silent≢handed (sym c)) in
      let n = s.0 in
      let x = start (rows n) e + r.0 in
      let l = nth_below (row (rows n) e) r.0 _ s.3 in
      let c : slice_get (told n) x ≡ Some (handed m) = sym (by.replies_there n e r.0 s.1 s.2 s.3) ∙ r.1 in
      let j = messages_joined (flat (rows n)) (sent_at n) (belongs events out rows by n wo given gives) x m c in (
        sent_at n x,
        λ (k : ℕ). place (rows n) (j.0 k),
        record {
          index = r.0;
          index_is = r.2;
          number = n;
          x = x;
          here = place_is (rows n) e r.0 l;
          located_in = located (rows n) e r.0 l;
          steps = j.0;
          joined = j.1;
          handing = c;
          sent_is = refl;
          source_is = λ k. refl;
        },
      )

  -- sending and sources for every pair of numbers, whether or not a message stands there
  pack : (e i : ℕ) → (sent : Sending) × (source : ℕ → Place) × ((m : Message) → slice_get (messages_of (get_or out e [])) i ≡ Some m → Service e i m sent source)
  pack e i = go (slice_get (messages_of (get_or out e [])) i) refl
    where
      go : (o : Option Message) → slice_get (messages_of (get_or out e [])) i ≡ o
          → (sent : Sending) × (source : ℕ → Place) × ((m : Message) → slice_get (messages_of (get_or out e [])) i ≡ Some m → Service e i m sent source)
      go None c = (sent_at 0 0, λ k. place (rows 0) 0, λ m h. absurd (none≢some (sym c ∙ h)))
      go (Some n) c =
          let r = serve e i n c in
          (r.0, r.1, λ m h. subst (λ (x : Message). Service e i x r.0 r.1) (some_same (sym c ∙ h)) r.2)

  sent : ℕ → ℕ → Sending
  sent e i = (pack e i).0

  source : ℕ → ℕ → ℕ → Place
  source e i = (pack e i).1

  -- a service shows what is promised
  shows : (e i : ℕ) (m : Message) (s : Sending) (src : ℕ → Place) → Service e i m s src → ServedBy events given e m s src
  shows e i m s src v = subst (λ (z : Sending). ServedBy events given e m z src) v.sent_is shown
    where
      n : ℕ
      n = v.number

      whose : Sending
      whose = sent_at n v.x

      top : ℕ
      top = last_part whose

      frame : (k : ℕ) → k ≤ top → ℕ
      frame k l = (v.joined.block_read k l).0

      at : (k : ℕ) (l : k ≤ top) → Seen events out rows by n (v.steps k) (frame k l) (block whose k)
      at k l = seen events out rows by n (v.steps k) (frame k l) (block whose k) (v.joined.block_read k l).1

      -- the block that completes the message
      o : ℕ
      o = v.joined.own.0

      lo : o ≤ top
      lo = v.joined.own.1

      own_reads : Reads (flat (rows n)) v.x (frame o lo) (block whose o)
      own_reads = subst (λ (y : ℕ). Reads (flat (rows n)) y (frame o lo) (block whose o)) v.joined.own.2 (v.joined.block_read o lo).1

      this : (place (rows n) v.x).event ≡ e
      this = ap (λ (p : Place). p.event) v.here

      -- the earliest of them
      first : (k : ℕ) × (k ≤ top) × ((i : ℕ) → i ≤ top → v.steps k ≤ v.steps i)
      first = least v.steps top

      f : ℕ
      f = first.0

      lf : f ≤ top
      lf = first.1

      shown : ServedBy events given e m whose src
      shown =
          record {
            is_sending = v.joined.is_sending;
            message_is = v.joined.message_is;
            sighted = λ k l. (frame k l, subst (λ (p : Place). Sighted events p (frame k l) (block whose k)) (v.source_is k) (at k l).sighted);
            given_is = λ k l. ap given (sym (v.source_is k)) ∙ v.joined.given_same k l;
            stretch = (
              (place (rows n) (v.steps f)).event,
              subst (λ (y : ℕ). Stretch events (place (rows n) (v.steps f)).event y) this
                  (stretch_between events out rows by n wo (v.steps f) v.x (frame f lf) (frame o lo) (block whose f) (block whose o)
                  (v.joined.unbroken f lf) (at f lf) (seen events out rows by n v.x (frame o lo) (block whose o) own_reads)
                  (v.joined.recent f (frame f lf) (frame o lo) (block whose f) (block whose o) lf (v.joined.block_read f lf).1 own_reads)),
              λ k l.
                  let low = located_order (rows n) (v.steps f) (v.steps k) _ _ (at f lf).located_in (at k l).located_in (first.2 k l) in
                  let high = located_order (rows n) (v.steps k) v.x _ _ (at k l).located_in v.located_in (v.joined.not_later k l) in
                  let same : (place (rows n) (v.steps k)).event ≡ (src k).event = ap (λ (p : Place). p.event) (v.source_is k) in
                  omega arith,
            );
            ends_here =
                (o, lo, ap (λ (p : Place). p.event) (sym (v.source_is o)) ∙ ap (λ (y : ℕ). (place (rows n) y).event) v.joined.own.2 ∙ this);
          }

  module _ (trays : List (List Message)) (same : trays ≡ map messages_of out) where
    service : (e i : ℕ) (m : Message) → Handed trays e i m → Service e i m (sent e i) (source e i)
    unfolding sent source
    service e i m h =
        (pack e i).2 m (subst (λ (l : List Message). slice_get l i ≡ Some m) (ap (λ (l : List (List Message)). get_or l e []) same ∙ messages_at out e) h)

    -- a step that serves two messages of one number would be used up by the first
    apart : (e i f j : ℕ) (m n : Message) (s : Service e i m (sent e i) (source e i)) (r : Service f j n (sent f j) (source f j))
        → (k l : ℕ) → k ≤ last_part (sent_at s.number s.x) → l ≤ last_part (sent_at r.number r.x)
        → s.steps k ≡ r.steps l → s.number ≡ r.number → s.x < r.x → ⊥
    apart e i f j m n s r k l a b shared number_is first =
        let u : s.x < r.steps l
        = r.joined.unused l s.x m b first (subst (λ (y : ℕ). slice_get (told y) s.x ≡ Some (handed m)) number_is s.handing) in
        let v = s.joined.not_later k a in
        omega arith

    once : Once trays sent source
    once e i f j m n h g k l a b shared = go (cases_order s.x r.x)
      where
        s : Service e i m (sent e i) (source e i)
        s = service e i m h

        r : Service f j n (sent f j) (source f j)
        r = service f j n g

        a' : k ≤ last_part (sent_at s.number s.x)
        a' = subst (λ (z : Sending). k ≤ last_part z) (sym s.sent_is) a

        b' : l ≤ last_part (sent_at r.number r.x)
        b' = subst (λ (z : Sending). l ≤ last_part z) (sym r.sent_is) b

        one : Seen events out rows by s.number (s.steps k) (s.joined.block_read k a').0 (block (sent_at s.number s.x) k)
        one = seen events out rows by s.number (s.steps k) _ _ (s.joined.block_read k a').1

        other : Seen events out rows by r.number (r.steps l) (r.joined.block_read l b').0 (block (sent_at r.number r.x) l)
        other = seen events out rows by r.number (r.steps l) _ _ (r.joined.block_read l b').1

        same_place : place (rows s.number) (s.steps k) ≡ place (rows r.number) (r.steps l)
        same_place = s.source_is k ∙ shared ∙ sym (r.source_is l)

        same_block : block (sent_at s.number s.x) k ≡ block (sent_at r.number r.x) l
        same_block = one_block events _ _ _ _ _ _ same_place one.sighted other.sighted

        same_number : s.number ≡ r.number
        same_number = sym one.number_is ∙ ap (λ (z : Block). z.number) same_block ∙ other.number_is

        same_step : s.steps k ≡ r.steps l
        same_step =
            one.at ∙ ap₂ (λ (y : ℕ) (p : Place). start (rows y) p.event + p.index) same_number same_place ∙ sym other.at

        go : (s.x ≡ r.x) ⊎ ((s.x < r.x) ⊎ (r.x < s.x)) → (e ≡ f) × (i ≡ j) × (k ≡ l)
        go (inl c) =
            let p : record { event = e; index = s.index } ≡ record { event = f; index = r.index }
            = sym s.here ∙ ap₂ (λ (y z : ℕ). place (rows y) z) same_number c ∙ r.here in
            let u : e ≡ f = ap (λ (q : Place). q.event) p in
            let v : s.index ≡ r.index = ap (λ (q : Place). q.index) p in
            (u, s.index_is ∙ ap₂ (λ (y z : ℕ). rank (get_or out y []) z) u v ∙ sym r.index_is, ap (λ (z : Block). z.part) same_block)
        go (inr (inl c)) = absurd (apart e i f j m n s r k l a' b' same_step same_number c)
        go (inr (inr c)) = absurd (apart f j e i n m r s l k b' a' (sym same_step) (sym same_number) c)

    pub messages_sighted : EachMessageIsOneSendingSightedWhole events trays given
    messages_sighted = (sent, source, λ e i m h. shows e i m (sent e i) (source e i) (service e i m h), once)
