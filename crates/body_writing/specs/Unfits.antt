-- The place that a message is refused at is the smallest of its wrong values.
use Rattle.std.specs.Prelude.{◌≡◌, ℕ, ◌+◌, ◌^◌, ◌<◌, ◌≤◌, Bool, true, false, not, List, ◌++◌, length, Some, None, Option, ◌==◌, ◌≢◌, slice_index, refl}
use Rattle.std.proofs.Common.{sym, subst, ⊎_elim, arith}
use Rattle.std.proofs.lemmas.List.{length-append}
use Rattle.std.proofs.lemmas.Bool.{cases_lt, eqb-true, eq-eqb, not-true, not-false}
use Rattle.buffers.specs.Places.{or_else, shifted, Smallest, at, nowhere}
use Rattle.buffers.proofs.Firsts.{smallest_none, smallest_either, smallest_shifted, smallest_part}
use Rattle.buffers.proofs.Steps.{cases_option}
use Rattle.body.specs.declared.message.Time.{Time}
use Rattle.body.specs.declared.message.Channel.{Channel}
use Rattle.body.specs.Identifiers.{length_fits, wrong_from, misspelt}
use Rattle.body.specs.Format.{ones, flag, until_bytes, content_bytes, id_place, time_wrong, until_wrong, content_wrong, channel_wrong, content_id_wrong, presentation_wrong}
use Rattle.body.specs.Messages.{Identified, Said, content_id, presentation, plain}
use Rattle.body.specs.Order.{step, below, reaches, among, passed}
use Rattle.body.specs.Spelling.{good_all, bad_first}
use Rattle.body_writing.specs.Unfit.{TimeUnfit, seconds_large, milliseconds_large, UntilUnfit, ContentUnfit, type_large, length_misfit, until_unfit, character, ChannelUnfit, bsid_large, major_large, minor_large, ContentIdUnfit, PresentationUnfit}

-- ---- a time
time_least : (p : ℕ) (t : Time) (n : ℕ) → (2 ^ 32 ≤ t.seconds → n ≤ p) → (999 < t.milliseconds → n ≤ p + 4) → (q : ℕ) → TimeUnfit p t q → n ≤ q
time_least p t n s m q (seconds_large h) = s h
time_least p t n s m q (milliseconds_large h) = m h

pub time_smallest : (p : ℕ) (t : Time) → Smallest (TimeUnfit p t) (time_wrong p t)
time_smallest p t =
    reaches _ (2 ^ 32) t.seconds p _ (λ h. (seconds_large h, time_least p t p (λ x. omega arith) (λ x. omega arith)))
    (λ s. below _ 999 t.milliseconds (p + 4) None (λ h. (milliseconds_large h, time_least p t (p + 4) (λ x. omega arith) (λ x. omega arith)))
    (λ m. passed _ (λ n. time_least p t n (λ x. omega arith) (λ x. omega arith))))

until_smallest : (u : Option Time) → Smallest (UntilUnfit u) (until_wrong u)
until_smallest (Some t) = time_smallest 3 t
until_smallest None = smallest_none

-- a valid-until time lies between the length and the identifier
until_above : (u : Option Time) (x : ℕ) → UntilUnfit u x → 3 ≤ x
until_above (Some t) x (seconds_large h) = omega arith
until_above (Some t) x (milliseconds_large h) = omega arith
until_above None x w = absurd w

until_below : (u : Option Time) (x : ℕ) → UntilUnfit u x → x ≤ id_place u
until_below (Some t) x (seconds_large h) = omega arith
until_below (Some t) x (milliseconds_large h) = omega arith
until_below None x w = absurd w

place_above : (u : Option Time) → 3 ≤ id_place u
place_above (Some t) = omega arith
place_above None = omega arith

-- ---- the characters
module _ (ok : ℕ → Bool) where
  abbrev Bad : List ℕ → ℕ → Type 0
  Bad cs i = (i < length cs) × (ok (slice_index cs i) ≡ false)

  apart : (t : Bool) → t ≡ true → t ≢ false
  apart t e f = let z : ◌≡◌ {A = ℕ} 0 1 = cc in omega arith

  spelling_smallest : (cs : List ℕ) → Smallest (Bad cs) (wrong_from ok 0 cs)
  spelling_smallest cs =
      ⊎_elim
      (λ (n : wrong_from ok 0 cs ≡ None). subst (Smallest (Bad cs)) (sym n) (nowhere (λ q w. apart _ (good_all ok 0 cs n q w.0) w.1)))
      (λ (s : (p : ℕ) × (wrong_from ok 0 cs ≡ Some p)).
      let r = bad_first ok 0 cs s.0 s.1 in
      let e : s.0 ≡ r.0 = omega (arith, r.1.0) in
      let bad : Bad cs s.0 = subst (Bad cs) (sym e) (r.1.1.0, r.1.1.1.0) in
      subst (Smallest (Bad cs)) (sym s.1) (at s.0 bad
      (λ q w. ⊎_elim (λ (lt : q < s.0). absurd (apart _ (r.1.1.1.1 q (omega arith)) w.1)) (λ (ge : s.0 ≤ q). ge) (cases_lt q s.0))))
      (cases_option (wrong_from ok 0 cs))

  -- ---- a content
  abbrev Misspelt : Identified → ℕ → Type 0
  Misspelt c q = (i : ℕ) × ((((c.id_type == 2) ≡ true) × Bad c.id i) × (q ≡ id_place c.valid_until + i))

  misspelt_smallest : (c : Identified) → Smallest (Misspelt c) (shifted (id_place c.valid_until) (misspelt ok c.id_type c.id))
  misspelt_smallest c = smallest_shifted _ (id_place c.valid_until) (misspelt ok c.id_type c.id) (smallest_part (Bad c.id) (c.id_type == 2) _ (spelling_smallest c.id))

  content_least : (c : Identified) (n : ℕ) → (63 < c.id_type → n ≤ 1) → (length_fits c.id_type (length c.id) ≡ false → n ≤ 2) → ((q : ℕ) → UntilUnfit c.valid_until q → n ≤ q) → ((q : ℕ) → Misspelt c q → n ≤ q) → (q : ℕ) → ContentUnfit ok c q → n ≤ q
  content_least c n t l u m q (type_large h) = t h
  content_least c n t l u m q (length_misfit h) = l h
  content_least c n t l u m q (until_unfit p w) = u p w
  content_least c n t l u m q (character i two lt bad) = m q (i, ((eq-eqb _ _ two, (lt, bad)), refl))

  pub content_smallest : (c : Identified) → Smallest (ContentUnfit ok c) (content_wrong ok (Some c))
  content_smallest c =
      let u = c.valid_until in
      let above : 3 ≤ id_place u = place_above u in
      let fit : Bool = length_fits c.id_type (length c.id) in
      below _ 63 c.id_type 1 _ (λ h. (type_large h, content_least c 1 (λ x. omega arith) (λ x. omega arith) (λ q w. omega (arith, until_above u q w)) (λ q w. omega (arith, w.1.1))))
      (λ t. step _ (not fit) 2 _ (λ e. (length_misfit (not-true _ e), content_least c 2 (λ x. omega arith) (λ x. omega arith) (λ q w. omega (arith, until_above u q w)) (λ q w. omega (arith, w.1.1))))
      (λ e. among _ (UntilUnfit u) (until_wrong u) _ (until_smallest u) (λ p w h. (until_unfit p w, content_least c p (λ x. omega arith) (λ x. absurd (apart _ (not-false _ e) x)) h (λ q v. omega (arith, until_below u p w, v.1.1))))
      (λ none. among _ (Misspelt c) (shifted (id_place u) (misspelt ok c.id_type c.id)) None (misspelt_smallest c)
      (λ p w h. (subst (ContentUnfit ok c) (sym w.1.1) (character w.0 (eqb-true _ _ w.1.0.0) w.1.0.1.0 w.1.0.1.1), content_least c p (λ x. omega arith) (λ x. absurd (apart _ (not-false _ e) x)) (λ q v. absurd (none q v)) h))
      (λ spelt. passed _ (λ n. content_least c n (λ x. omega arith) (λ x. absurd (apart _ (not-false _ e) x)) (λ q v. absurd (none q v)) (λ q v. absurd (spelt q v)))))))

-- ---- a channel
channel_least : (p : ℕ) (h : Channel) (n : ℕ) → (2 ^ 16 ≤ h.bsid → n ≤ p) → (1023 < h.major → n ≤ p + 2) → (1023 < h.minor → n ≤ p + 3) → (q : ℕ) → ChannelUnfit p h q → n ≤ q
channel_least p h n b m l q (bsid_large e) = b e
channel_least p h n b m l q (major_large e) = m e
channel_least p h n b m l q (minor_large e) = l e

pub channel_smallest : (p : ℕ) (h : Channel) → Smallest (ChannelUnfit p h) (channel_wrong p (Some h))
channel_smallest p h =
    let least = channel_least p h in
    reaches _ (2 ^ 16) h.bsid p _ (λ e. (bsid_large e, least p (λ x. omega arith) (λ x. omega arith) (λ x. omega arith)))
    (λ b. below _ 1023 h.major (p + 2) _ (λ e. (major_large e, least (p + 2) (λ x. omega arith) (λ x. omega arith) (λ x. omega arith)))
    (λ m. below _ 1023 h.minor (p + 3) None (λ e. (minor_large e, least (p + 3) (λ x. omega arith) (λ x. omega arith) (λ x. omega arith)))
    (λ l. passed _ (λ n. least n (λ x. omega arith) (λ x. omega arith) (λ x. omega arith)))))

channel_above : (p : ℕ) (h : Channel) (q : ℕ) → ChannelUnfit p h q → p ≤ q
channel_above p h q (bsid_large e) = omega arith
channel_above p h q (major_large e) = omega arith
channel_above p h q (minor_large e) = omega arith

-- the fields of a content lie before its channel
until_fits : (u : Option Time) (id : List ℕ) → length (until_bytes 63 u ++ id) ≡ flag 6 u + length id
until_fits (Some t) id = simp length-append (omega arith)
until_fits None id = simp length-append (omega arith)

content_below : (ok : ℕ → Bool) (c : Identified) (q : ℕ) → ContentUnfit ok c q → q ≤ 1 + length (content_bytes ones (Some c))
content_below ok c q (type_large h) = omega arith
content_below ok c q (length_misfit h) = let n = until_fits c.valid_until c.id in omega arith
content_below ok c q (until_unfit p w) = let n = until_fits c.valid_until c.id in omega (arith, until_below c.valid_until p w)
content_below ok c q (character i two lt bad) = let n = until_fits c.valid_until c.id in omega arith

-- ---- the messages
at_zero : Smallest (λ p. p ≡ 0) (Some 0)
at_zero = at 0 refl (λ q e. omega arith)

without : (W : ℕ → Type 0) (o : Option ℕ) → Smallest W o → Smallest W (or_else o None)
without W _ (at p w h) = at p w h
without W _ (nowhere n) = nowhere n

pub content_id_smallest : (ok : ℕ → Bool) (m : Said) → Smallest (ContentIdUnfit ok m) (content_id_wrong ok m)
unfolding content_id_wrong
content_id_smallest ok (content_id (Some c) (Some h)) =
    let p : ℕ = 1 + length (content_bytes ones (Some c)) in
    smallest_either (ContentUnfit ok c) (ChannelUnfit p h) (content_wrong ok (Some c)) _ (content_smallest ok c) (without (ChannelUnfit p h) (channel_wrong p (Some h)) (channel_smallest p h))
    (λ x y v w. omega (arith, content_below ok c x v, channel_above p h y w))
content_id_smallest ok (content_id (Some c) None) = without (ContentUnfit ok c) (content_wrong ok (Some c)) (content_smallest ok c)
content_id_smallest ok (content_id None (Some h)) = without (ChannelUnfit 1 h) (channel_wrong 1 (Some h)) (channel_smallest 1 h)
content_id_smallest ok (content_id None None) = at_zero
content_id_smallest ok (presentation t) = at_zero
content_id_smallest ok (plain b) = at_zero

pub presentation_unfit_smallest : (m : Said) → Smallest (PresentationUnfit m) (presentation_wrong m)
presentation_unfit_smallest (presentation t) = time_smallest 0 t
presentation_unfit_smallest (content_id c h) = at_zero
presentation_unfit_smallest (plain b) = at_zero
