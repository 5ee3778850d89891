-- Each writing of a message, whatever stands in the reserved bits, is read as that message.
use Rattle.std.specs.Prelude.{◌≡◌, ℕ, ◌+◌, ◌-◌, ◌%◌, ◌<◌, ◌≤◌, Bool, true, false, cond, leb, List, ◌++◌, length, take, drop, is_some, Some, None, Ok, Option, nat_le, slice_index, slice_index_or}
use Rattle.std.proofs.Math.Path.{refl, ap}
use Rattle.std.proofs.Common.{sym, ◌∙◌, add-zero}
use native.Mathlib.Omega.{arith}
use Rattle.std.proofs.lemmas.List.{length-drop, length-append, take_at, drop_at, drop-drop, get_or-drop}
use Rattle.std.proofs.lemmas.Bool.{ltb-false, le-ltb, le-leb, lt-leb, not-false}
use Rattle.refusal.specs.declared.Refusal.TheVariants.{Body}
use Rattle.buffers.specs.Places.{part, shifted, present}
use Rattle.buffers.proofs.Steps.{skip, passes, part_true, part_false, present_true, present_false, done, not_wrong, both_none, shifted_none}
use Rattle.body.specs.declared.message.Time.{Time}
use Rattle.body.specs.declared.message.Channel.{Channel}
use Rattle.body.specs.Identifiers.{length_fits, misspelt}
use Rattle.body.specs.Reading.{reading, time_at, time_fault, millis_at, has_content, has_channel, has_until, type_of, size_of, id_at, id_of, until_of, content_of, channel_at, end_of, channel_of, until_fault, id_fault, content_fault, channel_fault, content_part_fault, content_id_fault, content_id_of, presentation_fault, presentation_of}
use Rattle.body.specs.Messages.{Identified, Said, content_id, presentation, plain}
use Rattle.body.specs.Format.{Reserved, Fitting, flags_byte, time_bytes, channel_bytes, time_wrong, until_wrong, content_wrong, channel_wrong, content_id_bytes, content_id_wrong, presentation_bytes, presentation_wrong}
use Rattle.body.specs.Tests.{channel_part, content_fault_at_id, fault_at_end}
use Rattle.body.specs.Digits.{word_back, seconds_back, millis_back, major_back, minor_back}

-- ---- the channel
pub channel_numbers : (p : ℕ) (h : Channel) → channel_wrong p (Some h) ≡ None → (h.major ≤ 1023) × (h.minor ≤ 1023)
channel_numbers p h e =
    let a = both_none _ _ e in
    let b = both_none _ _ a.1 in
    let d = both_none _ _ b.1 in
    (ltb-false _ _ (not_wrong _ (p + 2) b.0), ltb-false _ _ (not_wrong _ (p + 3) d.0))

channel_back : (r : ℕ) (h : Channel) → h.major ≤ 1023 → h.minor ≤ 1023 → channel_of 0 (channel_bytes r (Some h)) ≡ h
channel_back r h a b =
    λ i. record { bsid = word_back h.bsid i; major = major_back r h.major h.minor a b i; minor = minor_back h.major h.minor b i }

-- the fields lie where the channel begins
pub channel_dropped : (p : ℕ) (b : List ℕ) → channel_of p b ≡ channel_of 0 (drop p b)
channel_dropped p b = simp (get_or-drop, add-zero)

channel_stage : (r : ℕ) (b : List ℕ) (h : Option Channel) (p q : ℕ) → has_channel b ≡ is_some h → p ≤ length b → drop p b ≡ channel_bytes r h → channel_wrong q h ≡ None
    → (part (has_channel b) (channel_fault p b) ≡ None) × ((cond (has_channel b) (p + 5) p ≡ length b) × (present (has_channel b) (channel_of p b) ≡ h))
channel_stage r b (Some h) p q e l d g =
    let n : length b - p ≡ 5 = sym (length-drop p b) ∙ ap length d in
    let k = channel_numbers q h g in (
      part_true (has_channel b) (channel_fault p b) e ∙ passes _ (length b) (le-ltb _ _ (omega arith)),
      (
        ap (λ t. cond t (p + 5) p) e ∙ omega arith,
        present_true _ _ e ∙ ap Some (channel_dropped p b ∙ (ap (channel_of 0) d ∙ channel_back r h k.0 k.1)),
      ),
    )
channel_stage r b None p q e l d g =
    let n : length b - p ≡ 0 = sym (length-drop p b) ∙ ap length d in (
      part_false _ (channel_fault p b) e,
      (
        ap (λ t. cond t (p + 5) p) e ∙ omega arith,
        present_false _ (channel_of p b) e,
      ),
    )

-- ---- the flags
flags_channel : (r : ℕ) (c : Option Identified) (h : Option Channel) → r < 64 → nat_le 64 (flags_byte r c h % 128) ≡ is_some h
flags_channel r (Some c) (Some h) l = le-leb _ _ (omega arith)
flags_channel r (Some c) None l = lt-leb _ _ (omega arith)
flags_channel r None (Some h) l = le-leb _ _ (omega arith)
flags_channel r None None l = lt-leb _ _ (omega arith)

flags_content : (r : ℕ) (c : Identified) (h : Option Channel) → 128 ≤ flags_byte r (Some c) h
flags_content r c (Some h) = omega arith
flags_content r c None = omega arith

pub time_told : (p : ℕ) (t : Time) → time_wrong p t ≡ None → t.milliseconds ≤ 999
time_told p t e =
    let s = both_none _ _ e in
    let m = both_none _ None s.1 in
    ltb-false _ _ (not_wrong _ (p + 4) m.0)

module _ (ok : ℕ → Bool) where
  -- what the tests of a content tell
  pub content_told : (c : Identified) → content_wrong ok (Some c) ≡ None → (c.id_type ≤ 63) × ((length_fits c.id_type (length c.id) ≡ true) × ((until_wrong c.valid_until ≡ None) × (misspelt ok c.id_type c.id ≡ None)))
  content_told c e =
      let k = both_none _ _ e in
      let l = both_none _ _ k.1 in
      let u = both_none (until_wrong c.valid_until) _ l.1 in
      let i = both_none _ None u.1 in
      (ltb-false _ _ (not_wrong _ 1 k.0), (not-false _ (not_wrong _ 2 l.0), (u.0, shifted_none _ _ i.0)))

  content_stage : (b : List ℕ) (c : Identified) (tail : List ℕ) → 3 ≤ length b → type_of b ≡ c.id_type → size_of b ≡ length c.id → until_fault b ≡ None → until_of b ≡ c.valid_until
      → id_at b ≤ length b → drop (id_at b) b ≡ c.id ++ tail → length_fits c.id_type (length c.id) ≡ true → misspelt ok c.id_type c.id ≡ None
      → (content_fault ok b ≡ None) × ((content_of b ≡ c) × ((drop (id_at b + size_of b) b ≡ tail) × (id_at b + size_of b ≤ length b)))
  content_stage b c tail l k s u uo a d fit chars =
      let ids : id_of b ≡ c.id = ap (λ n. take n (drop (id_at b) b)) s ∙ (ap (take (length c.id)) d ∙ take_at c.id tail (length c.id) refl) in
      let left : length b - id_at b ≡ length c.id + length tail = sym (length-drop (id_at b) b) ∙ (ap length d ∙ length-append c.id tail) in
      let long : id_at b + size_of b ≤ length b = omega arith in
      let good : misspelt ok (type_of b) (id_of b) ≡ None = ap (λ x. misspelt ok x (id_of b)) k ∙ (ap (misspelt ok c.id_type) ids ∙ chars) in
      let id_good : id_fault ok b ≡ None = skip _ _ (ap (shifted (id_at b)) good) ∙ skip _ None (passes _ (length b) (le-ltb _ _ long)) in
      let fits : length_fits (type_of b) (size_of b) ≡ true = ap (λ x. length_fits x (size_of b)) k ∙ (ap (length_fits c.id_type) s ∙ fit) in (
        content_fault_at_id ok b l fits u ∙ id_good,
        (
          λ i. record { id_type = k i; valid_until = uo i; id = ids i },
          (
            sym (drop-drop (size_of b) (id_at b) b) ∙ (ap (λ n. drop n (drop (id_at b) b)) s ∙ (ap (drop (length c.id)) d ∙ drop_at c.id tail (length c.id) refl)),
            long,
          ),
        ),
      )

  abbrev Reads : List ℕ → Said → Type 0
  Reads b m = Ok m ≡ reading (content_id_fault ok) content_id_of b

  whole : (b : List ℕ) (c : Option Identified) (h : Option Channel) → 1 ≤ length b → 64 ≤ slice_index b 0 → content_part_fault ok b ≡ None → present (has_content b) (content_of b) ≡ c → channel_part b ≡ None → end_of b ≡ length b → present (has_channel b) (channel_of (channel_at b) b) ≡ h → Reads b (content_id c h)
  unfolding content_id_of
  whole b c h l f cp ce hp e he =
      done Body (content_id_fault ok b) _ (content_id_of b) (fault_at_end ok b l f cp hp ∙ passes _ (end_of b) (le-ltb _ _ (omega arith))) (sym (λ i. content_id (ce i) (he i)))

  -- a body whose content is read back
  with_content : (r : Reserved) → Fitting r → (b : List ℕ) (c : Identified) (h : Option Channel) (q : ℕ) → slice_index b 0 ≡ flags_byte r.flags (Some c) h → 3 ≤ length b → type_of b ≡ c.id_type → size_of b ≡ length c.id → until_fault b ≡ None → until_of b ≡ c.valid_until
      → id_at b ≤ length b → drop (id_at b) b ≡ c.id ++ channel_bytes r.channel h → length_fits c.id_type (length c.id) ≡ true → misspelt ok c.id_type c.id ≡ None → channel_wrong q h ≡ None
      → Reads b (content_id (Some c) h)
  with_content r ft b c h q f l k s u uo a d fit chars good =
      let big : 128 ≤ flags_byte r.flags (Some c) h = flags_content r.flags c h in
      let has : has_content b ≡ true = le-leb _ _ (omega arith) in
      let st = content_stage b c (channel_bytes r.channel h) l k s u uo a d fit chars in
      let place : channel_at b ≡ id_at b + size_of b = ap (λ t. cond t (id_at b + size_of b) 1) has in
      let ch : has_channel b ≡ is_some h = ap (λ x. leb 64 (x % 128)) f ∙ flags_channel r.flags (Some c) h ft.flags in
      let cs = channel_stage r.channel b h (channel_at b) q ch (omega (arith, st.1.1.1)) (ap (λ p. drop p b) place ∙ st.1.1.0) good in
      whole b (Some c) h (omega arith) (omega arith) (part_true _ _ has ∙ st.0) (present_true _ _ has ∙ ap Some st.1.0) cs.0 cs.1.0 cs.1.1

  round_content : (r : Reserved) → Fitting r → (type : ℕ) (until : Option Time) (id : List ℕ) (h : Option Channel) (q : ℕ) → content_wrong ok (Some (record { id_type = type; valid_until = until; id = id })) ≡ None → channel_wrong q h ≡ None
      → Reads (content_id_bytes r (content_id (Some (record { id_type = type; valid_until = until; id = id })) h)) (content_id (Some (record { id_type = type; valid_until = until; id = id })) h)
  unfolding content_id_bytes
  round_content r ft type None id h q e g =
      let c : Identified = record { id_type = type; valid_until = None; id = id } in
      let b : List ℕ = content_id_bytes r (content_id (Some c) h) in
      let told = content_told c e in
      let small : type ≤ 63 = told.0 in
      let has : has_until b ≡ false = lt-leb _ _ (omega arith) in
      let l : length b ≡ 3 + (length id + length (channel_bytes r.channel h)) = simp length-append (omega arith) in
      with_content r ft b c h q refl (omega arith) (omega arith) refl (part_false _ (time_fault 3 b) has) (present_false _ (time_at 3 b) has)
      (let a : id_at b ≡ 3 = ap (λ t. cond t 9 3) has in omega arith) (ap (λ t. drop (cond t 9 3) b) has) told.1.0 told.1.1.1 g
  round_content r ft type (Some t) id h q e g =
      let c : Identified = record { id_type = type; valid_until = Some t; id = id } in
      let b : List ℕ = content_id_bytes r (content_id (Some c) h) in
      let told = content_told c e in
      let small : type ≤ 63 = told.0 in
      let ms : t.milliseconds ≤ 999 = time_told 3 t told.1.1.0 in
      let has : has_until b ≡ true = le-leb _ _ (omega arith) in
      let l : length b ≡ 9 + (length id + length (channel_bytes r.channel h)) = simp length-append (omega arith) in
      let m : millis_at 7 b ≡ t.milliseconds = millis_back r.time t.milliseconds (omega arith) in
      with_content r ft b c h q refl (omega arith) (omega arith) refl
      (part_true _ (time_fault 3 b) has ∙ (skip _ _ (passes _ (length b) (le-ltb (length b) 9 (omega arith))) ∙ skip _ None (passes _ 7 (le-ltb 999 (millis_at 7 b) (omega arith)))))
      (present_true _ _ has ∙ ap Some (λ i. record { seconds = seconds_back t.seconds i; milliseconds = m i }))
      (let a : id_at b ≡ 9 = ap (λ t. cond t 9 3) has in omega arith) (ap (λ t. drop (cond t 9 3) b) has) told.1.0 told.1.1.1 g

  round_channel : (r : Reserved) → Fitting r → (h : Channel) (q : ℕ) → channel_wrong q (Some h) ≡ None → Reads (content_id_bytes r (content_id None (Some h))) (content_id None (Some h))
  unfolding content_id_bytes
  round_channel r ft h q g =
      let b : List ℕ = content_id_bytes r (content_id None (Some h)) in
      let low : slice_index_or b 0 0 ≡ 64 + r.flags = omega arith in
      let has : has_content b ≡ false = lt-leb _ _ (omega arith) in
      let ch : has_channel b ≡ true = flags_channel r.flags None (Some h) ft.flags in
      let place : channel_at b ≡ 1 = ap (λ t. cond t (id_at b + size_of b) 1) has in
      let cs = channel_stage r.channel b (Some h) (channel_at b) q ch (omega arith) (ap (λ p. drop p b) place) g in
      whole b None (Some h) (omega arith) (omega arith) (part_false _ (content_fault ok b) has) (present_false _ (content_of b) has) cs.0 cs.1.0 cs.1.1

  pub round : (r : Reserved) → Fitting r → (m : Said) → content_id_wrong ok m ≡ None → Reads (content_id_bytes r m) m
  unfolding content_id_wrong
  round r ft (content_id (Some c) h) e = let k = both_none (content_wrong ok (Some c)) _ e in round_content r ft c.id_type c.valid_until c.id h _ k.0 (both_none (channel_wrong _ h) None k.1).0
  round r ft (content_id None (Some h)) e = round_channel r ft h _ (both_none (channel_wrong _ (Some h)) None e).0
  round r ft (content_id None None) e = let z : ◌≡◌ {A = ℕ} 0 1 = cc in absurd (omega arith)
  round r ft (presentation t) e = let z : ◌≡◌ {A = ℕ} 0 1 = cc in absurd (omega arith)
  round r ft (plain b) e = let z : ◌≡◌ {A = ℕ} 0 1 = cc in absurd (omega arith)

pub presentation_round : (r : Reserved) → (m : Said) → presentation_wrong m ≡ None → Ok m ≡ reading presentation_fault presentation_of (presentation_bytes r m)
presentation_round r (presentation t) e =
    let ms : t.milliseconds ≤ 999 = time_told 0 t e in
    let b = time_bytes r.time t in
    let mb : millis_at 4 b ≡ t.milliseconds = millis_back r.time t.milliseconds (omega arith) in
    let f : presentation_fault b ≡ None = skip _ _ (skip _ None (passes _ 4 (le-ltb 999 (millis_at 4 b) (omega arith)))) in
    done Body (presentation_fault b) (presentation t) (presentation_of b) f (sym (λ i. presentation (record { seconds = seconds_back t.seconds i; milliseconds = mb i })))
presentation_round r (content_id c h) e = let z : ◌≡◌ {A = ℕ} 0 1 = cc in absurd (omega arith)
presentation_round r (plain b) e = let z : ◌≡◌ {A = ℕ} 0 1 = cc in absurd (omega arith)
