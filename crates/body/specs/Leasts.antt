-- The place that a body is refused at is the smallest at which it is wrong.
use Rattle.std.specs.Prelude.{◌≡◌, ℕ, ◌+◌, ◌<◌, ◌≤◌, Bool, true, false, cond, not, List, length, drop, Some, None, ◌==◌, nat_lt, slice_index}
use Rattle.std.proofs.Common.{sym, ap, subst, ◌∙◌, inl, inr, arith}
use Rattle.std.proofs.lemmas.List.{length-take, length-drop, get_or-take, get_or-drop}
use Rattle.std.proofs.lemmas.Bool.{cases_lt, cases_Bool, eqb-true, eq-eqb, not-true, not-false}
use Rattle.buffers.specs.Places.{wrong, part, or_else, shifted, Smallest}
use Rattle.buffers.proofs.Steps.{part_true}
use Rattle.body.specs.Identifiers.{length_fits, wrong_from, misspelt}
use Rattle.body.specs.Reading.{has_content, has_channel, has_until, type_of, size_of, id_at, id_of, channel_at, end_of, until_fault, id_fault, content_fault, channel_fault, content_id_fault, presentation_fault, millis_at, time_fault}
use Rattle.body.specs.Faults.{ContentIdFaulty, lacks, nothing, misfit, late, character, after, PresentationFaulty, time_lacks, time_late, time_after}
use Rattle.body.specs.Spelling.{good_all, bad_first}
use Rattle.body.specs.Order.{Least, step, below, index, where_there, inner, passed}
use Rattle.body.specs.Tests.{channel_part, end_part}

differ : {A : Type 0} (t : Bool) → t ≡ true → t ≡ false → A
differ t e f = let z : true ≡ false = sym e ∙ f in absurd (cc z)

module _ (ok : ℕ → Bool) (b : List ℕ) where
  abbrev Faulty : ℕ → Type 0
  Faulty = ContentIdFaulty ok b

  -- ---- where the parts lie
  end_above : channel_at b ≤ end_of b
  end_above = elim (cases_Bool (has_channel b)) [
    | inl e ↦ let k : end_of b ≡ channel_at b + 5 = ap (λ t. cond t (channel_at b + 5) (channel_at b)) e in omega arith
    | inr e ↦ let k : end_of b ≡ channel_at b = ap (λ t. cond t (channel_at b + 5) (channel_at b)) e in omega arith
  ]

  id_above : 3 ≤ id_at b
  id_above = elim (cases_Bool (has_until b)) [
    | inl e ↦ let k : id_at b ≡ 9 = ap (λ t. cond t 9 3) e in omega arith
    | inr e ↦ let k : id_at b ≡ 3 = ap (λ t. cond t 9 3) e in omega arith
  ]

  content_end : has_content b ≡ true → channel_at b ≡ id_at b + size_of b
  content_end e = ap (λ t. cond t (id_at b + size_of b) 1) e

  no_content : has_content b ≡ false → channel_at b ≡ 1
  no_content e = ap (λ t. cond t (id_at b + size_of b) 1) e

  -- a place that no wrong byte lies below, by the cases of what can be wrong
  least : (n : ℕ) → (length b < end_of b → n ≤ length b) → (slice_index b 0 < 64 → n ≤ 0) → (2 < length b → has_content b ≡ true → length_fits (type_of b) (size_of b) ≡ false → n ≤ 2)
      → (8 < length b → has_content b ≡ true → has_until b ≡ true → 999 < millis_at 7 b → n ≤ 7)
      → ((i : ℕ) → i < size_of b → id_at b + i < length b → has_content b ≡ true → type_of b ≡ 2 → ok (slice_index b (id_at b + i)) ≡ false → n ≤ id_at b + i)
      → (end_of b < length b → n ≤ end_of b) → (q : ℕ) → Faulty q → n ≤ q
  least n l z m t c a q (lacks h) = l h
  least n l z m t c a q (nothing h k) = z k
  least n l z m t c a q (misfit h k e) = m h k e
  least n l z m t c a q (late h k e f) = t h k e f
  least n l z m t c a q (character i h k e f g) = c i h k e f g
  least n l z m t c a q (after h) = a h

  -- ---- the end and the channel, where the content has no wrong byte
  record Clean : Type 0 where
    flags : 64 ≤ slice_index b 0
    fits : has_content b ≡ true → length_fits (type_of b) (size_of b) ≡ false → ⊥
    timely : has_content b ≡ true → has_until b ≡ true → 999 < millis_at 7 b → ⊥
    spelt : (i : ℕ) → i < size_of b → has_content b ≡ true → type_of b ≡ 2 → ok (slice_index b (id_at b + i)) ≡ false → ⊥
    there : channel_at b ≤ length b

  least_after : Clean → (n : ℕ) → (length b < end_of b → n ≤ length b) → (end_of b < length b → n ≤ end_of b) → (q : ℕ) → Faulty q → n ≤ q
  least_after k n l a =
      let f = k.flags in
      least n l (λ x. omega arith) (λ x y z. absurd (k.fits y z)) (λ x y z w. absurd (k.timely y z w)) (λ i x y z w v. absurd (k.spelt i x z w v)) a

  by_end : Clean → end_of b ≤ length b → Smallest Faulty (or_else (end_part b) None)
  by_end k le =
      below Faulty (end_of b) (length b) (end_of b) None (λ h. (after h, least_after k (end_of b) (λ x. omega arith) (λ x. omega arith)))
      (λ h. passed Faulty (λ n. least_after k n (λ x. omega arith) (λ x. omega arith)))

  by_channel : Clean → Smallest Faulty (or_else (channel_part b) (or_else (end_part b) None))
  by_channel k =
      where_there Faulty (has_channel b) (channel_fault (channel_at b) b) _
      (λ has.
      let e : end_of b ≡ channel_at b + 5 = ap (λ t. cond t (channel_at b + 5) (channel_at b)) has in
      below Faulty (length b) (channel_at b + 5) (length b) _ (λ h. (lacks (omega arith), least_after k (length b) (λ x. omega arith) (λ x. omega arith))) (λ h. by_end k (omega arith)))
      (λ none. let e : end_of b ≡ channel_at b = ap (λ t. cond t (channel_at b + 5) (channel_at b)) none in by_end k (omega (arith, k.there)))

  -- ---- the identifier, once the fields before it are right
  record Begun : Type 0 where
    flags : 64 ≤ slice_index b 0
    has : has_content b ≡ true
    long : 3 ≤ length b
    fits : length_fits (type_of b) (size_of b) ≡ true
    timely : has_until b ≡ true → millis_at 7 b ≤ 999
    there : id_at b ≤ length b

  least_of_id : Begun → (n : ℕ) → (length b < end_of b → n ≤ length b) → ((i : ℕ) → i < size_of b → id_at b + i < length b → type_of b ≡ 2 → ok (slice_index b (id_at b + i)) ≡ false → n ≤ id_at b + i) → (end_of b < length b → n ≤ end_of b) → (q : ℕ) → Faulty q → n ≤ q
  least_of_id k n l c a =
      let f = k.flags in
      least n l (λ x. omega arith) (λ x y z. differ _ k.fits z) (λ x y z w. absurd (omega (arith, k.timely z))) (λ i x y z w v. c i x y w v) a

  -- a character of the identifier is the body's byte
  spelt_at : (i : ℕ) → i < size_of b → slice_index (id_of b) i ≡ slice_index b (id_at b + i)
  spelt_at i h = get_or-take (size_of b) (drop (id_at b) b) i 0 h ∙ get_or-drop (id_at b) b i 0

  spelt_within : (i : ℕ) → i < length (id_of b) → (i < size_of b) × (id_at b + i < length b)
  spelt_within i h =
      let n = length-take (size_of b) (drop (id_at b) b) in
      let d = length-drop (id_at b) b in
      (omega arith, omega arith)

  within_spelt : (i : ℕ) → i < size_of b → id_at b + i < length b → i < length (id_of b)
  within_spelt i h k =
      let n = length-take (size_of b) (drop (id_at b) b) in
      let d = length-drop (id_at b) b in
      omega arith

  spelling : type_of b ≡ 2 → misspelt ok (type_of b) (id_of b) ≡ wrong_from ok 0 (id_of b)
  spelling two = part_true _ (wrong_from ok 0 (id_of b)) (eq-eqb _ _ two)

  good : misspelt ok (type_of b) (id_of b) ≡ None → (i : ℕ) → i < size_of b → id_at b + i < length b → type_of b ≡ 2 → ok (slice_index b (id_at b + i)) ≡ false → ⊥
  good n i h k two bad = differ _ (good_all ok 0 (id_of b) (sym (spelling two) ∙ n) i (within_spelt i h k)) (ap ok (spelt_at i h) ∙ bad)

  -- only an Ad-ID has characters that can be wrong
  is_ad : (p : ℕ) → misspelt ok (type_of b) (id_of b) ≡ Some p → type_of b ≡ 2
  is_ad p e = elim (cases_Bool (type_of b == 2)) [
    | inl t ↦ eqb-true _ _ t
    | inr t ↦ let n : misspelt ok (type_of b) (id_of b) ≡ None = ap (λ x. part x (wrong_from ok 0 (id_of b))) t in absurd (cc (sym e ∙ n))
  ]

  bad_one : Begun → (p : ℕ) → misspelt ok (type_of b) (id_of b) ≡ Some p → Least Faulty (id_at b + p)
  bad_one k p e =
      let ce : channel_at b ≡ id_at b + size_of b = content_end k.has in
      let ea = end_above in
      let two = is_ad p e in
      let r = bad_first ok 0 (id_of b) p (sym (spelling two) ∙ e) in
      let same : p ≡ r.0 = omega arith in
      let w = spelt_within r.0 r.1.1.0 in
      let bad : ok (slice_index b (id_at b + r.0)) ≡ false = ap ok (sym (spelt_at r.0 w.0)) ∙ r.1.1.1.0 in (
        subst (λ n. Faulty (id_at b + n)) (sym same) (character r.0 w.0 w.1 k.has two bad),
        least_of_id k (id_at b + p) (λ x. omega (arith, w.1))
            (λ i x y v g. elim (cases_lt i r.0) [ inl lt ↦ differ _ (r.1.1.1.1 i lt) (ap ok (spelt_at i x) ∙ g) | inr ge ↦ omega arith ])
            (λ x. omega (arith, w.0)),
      )

  by_id : Begun → Smallest Faulty (or_else (id_fault ok b) (or_else (channel_part b) (or_else (end_part b) None)))
  by_id k =
      let ce : channel_at b ≡ id_at b + size_of b = content_end k.has in
      let ea = end_above in
      inner Faulty (shifted (id_at b) (misspelt ok (type_of b) (id_of b))) _ _ (index Faulty (id_at b) (misspelt ok (type_of b) (id_of b)) _ (bad_one k)
      (λ n. inner Faulty (wrong (nat_lt (length b) (id_at b + size_of b)) (length b)) _ _ (below Faulty (length b) (id_at b + size_of b) (length b) _
      (λ h. (lacks (omega arith), least_of_id k (length b) (λ x. omega arith) (λ i x y v g. absurd (good n i x y v g)) (λ x. omega arith)))
      (λ h. by_channel (record { flags = k.flags; fits = λ y z. differ _ k.fits z; timely = λ y z w. omega (arith, k.timely z); spelt = λ i x y v g. good n i x (omega arith) v g; there = omega arith })))))

  -- ---- the fields before it
  by_content : 64 ≤ slice_index b 0 → has_content b ≡ true → Smallest Faulty (or_else (content_fault ok b) (or_else (channel_part b) (or_else (end_part b) None)))
  by_content f has =
      let ce : channel_at b ≡ id_at b + size_of b = content_end has in
      let ea = end_above in
      let ia = id_above in
      inner Faulty (wrong (nat_lt (length b) 3) (length b)) _ _ (below Faulty (length b) 3 (length b) _
      (λ h. (lacks (omega arith), least (length b) (λ x. omega arith) (λ x. omega arith) (λ x y z. omega arith) (λ x y z w. omega arith) (λ i x y z w v. omega arith) (λ x. omega arith)))
      (λ l. inner Faulty (wrong (not (length_fits (type_of b) (size_of b))) 2) _ _ (step Faulty (not (length_fits (type_of b) (size_of b))) 2 _
      (λ e. (misfit l has (not-true _ e), least 2 (λ x. omega arith) (λ x. omega arith) (λ x y z. omega arith) (λ x y z w. omega arith) (λ i x y z w v. omega arith) (λ x. omega arith)))
      (λ e.
      let fits = not-false _ e in
      inner Faulty (until_fault b) _ _ (where_there Faulty (has_until b) (time_fault 3 b) _
      (λ un.
      let at_nine : id_at b ≡ 9 = ap (λ t. cond t 9 3) un in
      inner Faulty (wrong (nat_lt (length b) 9) (length b)) _ _ (below Faulty (length b) 9 (length b) _
      (λ h. (lacks (omega arith), least (length b) (λ x. omega arith) (λ x. omega arith) (λ x y z. differ _ fits z) (λ x y z w. omega arith) (λ i x y z w v. omega arith) (λ x. omega arith)))
      (λ h. inner Faulty (wrong (nat_lt 999 (millis_at 7 b)) 7) _ _ (below Faulty 999 (millis_at 7 b) 7 _
      (λ ms. (late (omega arith) has un ms, least 7 (λ x. omega arith) (λ x. omega arith) (λ x y z. differ _ fits z) (λ x y z w. omega arith) (λ i x y z w v. omega arith) (λ x. omega arith)))
      (λ ms. inner Faulty (id_fault ok b) _ _ (by_id (record { flags = f; has = has; long = l; fits = fits; timely = λ x. ms; there = omega arith })))))))
      (λ none.
      let at_three : id_at b ≡ 3 = ap (λ t. cond t 9 3) none in
      inner Faulty (id_fault ok b) _ _ (by_id (record { flags = f; has = has; long = l; fits = fits; timely = λ x. differ _ x none; there = omega arith }))))))))

  -- every body has a first byte
  starts : length b < 1 → length b < end_of b
  starts h =
      let ea = end_above in
      let ia = id_above in
      elim (cases_Bool (has_content b)) [ inl e ↦ omega (arith, content_end e) | inr e ↦ omega (arith, no_content e) ]

pub smallest : (ok : ℕ → Bool) (b : List ℕ) → Smallest (ContentIdFaulty ok b) (content_id_fault ok b)
unfolding content_id_fault
smallest ok b =
    let ea = end_above ok b in
    let ia = id_above ok b in
    below _ (length b) 1 (length b) _ (λ h. (lacks (starts ok b h), λ q w. omega arith))
    (λ l. below _ (slice_index b 0) 64 0 _ (λ h. (nothing l h, λ q w. omega arith))
    (λ f. where_there _ (has_content b) (content_fault ok b) _ (λ has. by_content ok b f has)
    (λ none. by_channel ok b (record { flags = f; fits = λ y z. differ _ y none; timely = λ y z w. differ _ y none; spelt = λ i x y v g. differ _ y none; there = omega (arith, no_content ok b none) }))))

-- the same of a presentation time body
least_of_time : (b : List ℕ) (n : ℕ) → (length b < 6 → n ≤ length b) → (5 < length b → 999 < millis_at 4 b → n ≤ 4) → (6 < length b → n ≤ 6) → (q : ℕ) → PresentationFaulty b q → n ≤ q
least_of_time b n l t a q (time_lacks h) = l h
least_of_time b n l t a q (time_late h k) = t h k
least_of_time b n l t a q (time_after h) = a h

pub presentation_smallest : (b : List ℕ) → Smallest (PresentationFaulty b) (presentation_fault b)
presentation_smallest b =
    let least = least_of_time b in
    inner _ (wrong (nat_lt (length b) 6) (length b)) _ _ (below _ (length b) 6 (length b) _
    (λ h. (time_lacks h, least (length b) (λ x. omega arith) (λ x y. omega arith) (λ x. omega arith)))
    (λ l. inner _ (wrong (nat_lt 999 (millis_at 4 b)) 4) _ _ (below _ 999 (millis_at 4 b) 4 _
    (λ m. (time_late (omega arith) m, least 4 (λ x. omega arith) (λ x y. omega arith) (λ x. omega arith)))
    (λ m. below _ 6 (length b) 6 None
    (λ k. (time_after k, least 6 (λ x. omega arith) (λ x y. omega arith) (λ x. omega arith)))
    (λ k. passed _ (λ n. least n (λ x. omega arith) (λ x y. omega arith) (λ x. omega arith)))))))
