-- A body that is nowhere wrong is a writing of what it says: its bytes, with its own reserved bits.
use Rattle.std.specs.Prelude.{◌≡◌, ℕ, ◌+◌, ◌-◌, ◌*◌, ◌/◌, ◌%◌, ◌^◌, ◌<◌, ◌≤◌, Bool, true, false, cond, List, [], ◌∷◌, ◌++◌, length, drop, Some, None, nat_le, slice_index, slice_index_or, refl}
use Rattle.std.proofs.Common.{sym, ap, ◌∙◌, append_assoc, arith}
use Rattle.std.proofs.lemmas.List.{length-take-le, length-drop, take-append-drop, drop_all, drop_more, drop-drop}
use Rattle.std.proofs.lemmas.Bool.{ltb-false, leb-true, leb-false, le-ltb, lt-leb, not-false, not_from_true}
use Rattle.buffers.specs.Places.{Bytes, part, shifted, present}
use Rattle.buffers.proofs.Steps.{skip, passes, not_wrong, both_none, shifted_none}
use Rattle.body.specs.declared.message.Time.{Time}
use Rattle.body.specs.declared.message.Channel.{Channel}
use Rattle.body.specs.Identifiers.{length_fits, misspelt}
use Rattle.body.specs.Reading.{millis_at, time_at, time_fault, has_content, has_channel, has_until, type_of, size_of, id_at, id_of, until_of, content_of, channel_at, end_of, channel_of, until_fault, id_fault, content_fault, channel_fault, content_id_fault, content_id_of, presentation_fault, presentation_of}
use Rattle.body.specs.Messages.{Identified}
use Rattle.body.specs.Format.{Reserved, Fitting, flag, flags_byte, time_bytes, until_bytes, content_bytes, channel_bytes, time_wrong, until_wrong, content_wrong, channel_wrong, neither, content_id_bytes, content_id_wrong, presentation_bytes, presentation_wrong}
use Rattle.body.specs.Laws.{Writing}

-- ---- bytes in a row
next : (b : List ℕ) (p q : ℕ) → p < length b → q ≡ p + 1 → drop p b ≡ slice_index b p ∷ drop q b
next b p q h e = drop_more b p 0 h ∙ ap (λ n. slice_index b p ∷ drop n b) (sym e)

module _ (b : List ℕ) (bs : Bytes b) where
  -- ---- a time
  time_front : (p : ℕ) → p + 6 ≤ length b → drop p b ≡ time_bytes (slice_index b (p + 4) / 4) (time_at p b) ++ drop (p + 6) b
  time_front p h =
      let b0 = bs p in
      let b1 = bs (p + 1) in
      let b2 = bs (p + 2) in
      let b3 = bs (p + 3) in
      let b3' = bs (p + 2 + 1) in
      let b4 = bs (p + 4) in
      let b5 = bs (p + 4 + 1) in
      let e3 : p + 2 + 1 ≡ p + 3 = omega arith in
      let e5 : p + 4 + 1 ≡ p + 5 = omega arith in
      let s3 : slice_index_or b (p + 2 + 1) 0 ≡ slice_index_or b (p + 3) 0 = ap (λ n. slice_index b n) e3 in
      let s5 : slice_index_or b (p + 4 + 1) 0 ≡ slice_index_or b (p + 5) 0 = ap (λ n. slice_index b n) e5 in
      let x0 : slice_index_or b p 0 ≡ (time_at p b).seconds / 16777216 = omega arith in
      let x1 : slice_index_or b (p + 1) 0 ≡ (time_at p b).seconds / 65536 % 256 = omega arith in
      let x2 : slice_index_or b (p + 2) 0 ≡ (time_at p b).seconds / 256 % 256 = omega arith in
      let x3 : slice_index_or b (p + 3) 0 ≡ (time_at p b).seconds % 256 = omega arith in
      let x4 : slice_index_or b (p + 4) 0 ≡ slice_index b (p + 4) / 4 * 4 + (time_at p b).milliseconds / 256 = omega arith in
      let x5 : slice_index_or b (p + 5) 0 ≡ (time_at p b).milliseconds % 256 = omega arith in
      next b p (p + 1) (omega arith) refl
      ∙ (ap (λ l. slice_index b p ∷ l) (next b (p + 1) (p + 2) (omega arith) (omega arith)
      ∙ ap (λ l. slice_index b (p + 1) ∷ l) (next b (p + 2) (p + 3) (omega arith) (omega arith)
      ∙ ap (λ l. slice_index b (p + 2) ∷ l) (next b (p + 3) (p + 4) (omega arith) (omega arith)
      ∙ ap (λ l. slice_index b (p + 3) ∷ l) (next b (p + 4) (p + 5) (omega arith) (omega arith)
      ∙ ap (λ l. slice_index b (p + 4) ∷ l) (next b (p + 5) (p + 6) (omega arith) (omega arith))))))
      ∙ (λ i. x0 i ∷ x1 i ∷ x2 i ∷ x3 i ∷ x4 i ∷ x5 i ∷ drop (p + 6) b))

  time_right : (p q : ℕ) → time_fault p b ≡ None → (p + 6 ≤ length b) × (time_wrong q (time_at p b) ≡ None)
  time_right p q e =
      let k = both_none _ _ e in
      let m = both_none _ None k.1 in
      let l : p + 6 ≤ length b = ltb-false _ _ (not_wrong _ (length b) k.0) in
      let ms : millis_at (p + 4) b ≤ 999 = ltb-false _ _ (not_wrong _ (p + 4) m.0) in
      let b0 = bs p in
      let b1 = bs (p + 1) in
      let b2 = bs (p + 2) in
      let b3 = bs (p + 2 + 1) in
      let s : (time_at p b).seconds < 2 ^ 32 = omega arith in
      (l, skip _ _ (passes _ q (lt-leb _ _ s)) ∙ skip _ None (passes _ (q + 4) (le-ltb _ _ ms)))

  -- ---- a channel
  channel_back : (p : ℕ) → p + 5 ≡ length b → drop p b ≡ channel_bytes (slice_index b (p + 2) / 16) (Some (channel_of p b))
  channel_back p h =
      let b1 = bs (p + 1) in
      let b2 = bs (p + 2) in
      let b3 = bs (p + 3) in
      let b4 = bs (p + 4) in
      let c = channel_of p b in
      let x0 : slice_index_or b p 0 ≡ c.bsid / 256 = omega arith in
      let x1 : slice_index_or b (p + 1) 0 ≡ c.bsid % 256 = omega arith in
      let x2 : slice_index_or b (p + 2) 0 ≡ slice_index b (p + 2) / 16 * 16 + c.major / 64 = omega arith in
      let x3 : slice_index_or b (p + 3) 0 ≡ c.major % 64 * 4 + c.minor / 256 = omega arith in
      let x4 : slice_index_or b (p + 4) 0 ≡ c.minor % 256 = omega arith in
      let end : drop (p + 5) b ≡ [] = drop_all (p + 5) b (omega arith) in
      next b p (p + 1) (omega arith) refl
      ∙ (ap (λ l. slice_index b p ∷ l) (next b (p + 1) (p + 2) (omega arith) (omega arith)
      ∙ ap (λ l. slice_index b (p + 1) ∷ l) (next b (p + 2) (p + 3) (omega arith) (omega arith)
      ∙ ap (λ l. slice_index b (p + 2) ∷ l) (next b (p + 3) (p + 4) (omega arith) (omega arith)
      ∙ ap (λ l. slice_index b (p + 3) ∷ l) (next b (p + 4) (p + 5) (omega arith) (omega arith)))))
      ∙ (λ i. x0 i ∷ x1 i ∷ x2 i ∷ x3 i ∷ x4 i ∷ end i))

  channel_right : (p q : ℕ) → channel_wrong q (Some (channel_of p b)) ≡ None
  channel_right p q =
      let b0 = bs p in
      let b1 = bs (p + 1) in
      let b2 = bs (p + 2) in
      let b3 = bs (p + 3) in
      let b4 = bs (p + 4) in
      let s : (channel_of p b).bsid < 2 ^ 16 = omega arith in
      let m : (channel_of p b).major ≤ 1023 = omega arith in
      let n : (channel_of p b).minor ≤ 1023 = omega arith in
      skip _ _ (passes _ q (lt-leb _ _ s)) ∙ (skip _ _ (passes _ (q + 2) (le-ltb _ _ m)) ∙ skip _ None (passes _ (q + 3) (le-ltb _ _ n)))

  channel_written : (t : Bool) (p : ℕ) → p ≤ length b → part t (channel_fault p b) ≡ None → length b ≤ cond t (p + 5) p
      → (drop p b ≡ channel_bytes (slice_index b (p + 2) / 16) (present t (channel_of p b))) × ((q : ℕ) → channel_wrong q (present t (channel_of p b)) ≡ None)
  channel_written true p l e h =
      let k : p + 5 ≤ length b = ltb-false _ _ (not_wrong _ (length b) e) in
      (channel_back p (omega arith), channel_right p)
  channel_written false p l e h = (drop_all p b h, λ q. refl)

  -- ---- a content
  until_written : (t : Bool) → 3 ≤ length b → part t (time_fault 3 b) ≡ None
      → (drop 3 b ≡ until_bytes (slice_index b 7 / 4) (present t (time_at 3 b)) ++ drop (cond t 9 3) b) × ((until_wrong (present t (time_at 3 b)) ≡ None) × (cond t 9 3 ≤ length b))
  until_written true l e = let k = time_right 3 3 e in (time_front 3 k.0, (k.1, k.0))
  until_written false l e = (refl, (refl, l))

  type_byte : (x : ℕ) (t : Bool) → nat_le 64 (x % 128) ≡ t → (u : Time) → x ≡ x / 128 * 128 + flag 64 (present t u) + x % 64
  type_byte x true e u = let h : 64 ≤ x % 128 = leb-true _ _ e in omega arith
  type_byte x false e u = let h : x % 128 < 64 = leb-false _ _ e in omega arith

  abbrev pub reserved_in : Reserved
  reserved_in = record { flags = slice_index b 0 % 64; content = slice_index b 1 / 128; time = slice_index b 7 / 4; channel = slice_index b (channel_at b + 2) / 16 }

  fitting_in : Fitting reserved_in
  fitting_in =
      let b1 = bs 1 in
      let b7 = bs 7 in
      let bc = bs (channel_at b + 2) in
      record { flags = omega arith; content = omega arith; time = omega arith; channel = omega arith }

  module _ (ok : ℕ → Bool) where
    content_written : content_fault ok b ≡ None
        → (drop 1 b ≡ content_bytes reserved_in (Some (content_of b)) ++ drop (id_at b + size_of b) b) × ((content_wrong ok (Some (content_of b)) ≡ None) × (id_at b + size_of b ≤ length b))
    content_written e =
        let k = both_none _ _ e in
        let f = both_none _ _ k.1 in
        let u = both_none (until_fault b) _ f.1 in
        let i = both_none (id_fault ok b) None u.1 in
        let j = both_none _ _ i.0 in
        let g = both_none _ None j.1 in
        let l : 3 ≤ length b = ltb-false _ _ (not_wrong _ (length b) k.0) in
        let fit : length_fits (type_of b) (size_of b) ≡ true = not-false _ (not_wrong _ 2 f.0) in
        let spelt : misspelt ok (type_of b) (id_of b) ≡ None = shifted_none _ _ j.0 in
        let long : id_at b + size_of b ≤ length b = ltb-false _ _ (not_wrong _ (length b) g.0) in
        let w = until_written (has_until b) l u.0 in
        let rest : length (drop (id_at b) b) ≡ length b - id_at b = length-drop (id_at b) b in
        let size : length (id_of b) ≡ size_of b = length-take-le (size_of b) (drop (id_at b) b) (omega arith) in
        let ids : drop (id_at b) b ≡ id_of b ++ drop (id_at b + size_of b) b = sym (take-append-drop (size_of b) (drop (id_at b) b)) ∙ ap (λ t. id_of b ++ t) (drop-drop (size_of b) (id_at b) b) in
        let ty : slice_index_or b 1 0 ≡ slice_index b 1 / 128 * 128 + flag 64 (until_of b) + type_of b = type_byte (slice_index b 1) (has_until b) refl (time_at 3 b) in
        let us = until_bytes (slice_index b 7 / 4) (until_of b) in (
          next b 1 2 (omega arith) refl
              ∙ (ap (λ x. slice_index b 1 ∷ x) (next b 2 3 (omega arith) refl)
              ∙ ((λ n. ty n ∷ sym size n ∷ (w.0 ∙ (ap (λ x. us ++ x) ids ∙ sym (append_assoc us (id_of b) (drop (id_at b + size_of b) b)))) n)
              )),
          (
            skip _ _ (passes _ 1 (le-ltb _ _ (omega arith)))
                ∙ (skip _ _ (passes _ 2 (not_from_true _ (ap (length_fits (type_of b)) size ∙ fit)))
                ∙ (skip (until_wrong (until_of b)) _ w.1.0
                ∙ skip _ None (ap (shifted _) spelt))),
            long,
          ),
        )

    part_written : (t : Bool) → 1 ≤ length b → part t (content_fault ok b) ≡ None
        → (drop 1 b ≡ content_bytes reserved_in (present t (content_of b)) ++ drop (cond t (id_at b + size_of b) 1) b) × ((content_wrong ok (present t (content_of b)) ≡ None) × (cond t (id_at b + size_of b) 1 ≤ length b))
    part_written true l e = content_written e
    part_written false l e = (refl, (refl, l))

-- ---- the flags
flags_back : (x : ℕ) (s t : Bool) → nat_le 128 x ≡ s → nat_le 64 (x % 128) ≡ t → x < 256 → (c : Identified) (h : Channel) → x ≡ flags_byte (x % 64) (present s c) (present t h)
flags_back x true true e d l c h = let i : 128 ≤ x = leb-true _ _ e in let j : 64 ≤ x % 128 = leb-true _ _ d in omega arith
flags_back x true false e d l c h = let i : 128 ≤ x = leb-true _ _ e in let j : x % 128 < 64 = leb-false _ _ d in omega arith
flags_back x false true e d l c h = let i : x < 128 = leb-false _ _ e in let j : 64 ≤ x % 128 = leb-true _ _ d in omega arith
flags_back x false false e d l c h = let i : x < 128 = leb-false _ _ e in let j : x % 128 < 64 = leb-false _ _ d in omega arith

some_part : (x : ℕ) (s t : Bool) → nat_le 128 x ≡ s → nat_le 64 (x % 128) ≡ t → 64 ≤ x → (c : Identified) (h : Channel) → neither (present s c) (present t h) ≡ None
some_part x true t e d l c h = refl
some_part x false true e d l c h = refl
some_part x false false e d l c h = let i : x < 128 = leb-false _ _ e in let j : x % 128 < 64 = leb-false _ _ d in absurd (omega arith)

-- ---- the whole
pub content_id_written : (ok : ℕ → Bool) (b : List ℕ) → Bytes b → content_id_fault ok b ≡ None → Writing (content_id_wrong ok) content_id_bytes (content_id_of b) b
unfolding content_id_fault content_id_of content_id_bytes content_id_wrong
content_id_written ok b bs e =
    let k = both_none _ _ e in
    let f = both_none _ _ k.1 in
    let cp = both_none (part (has_content b) (content_fault ok b)) _ f.1 in
    let hp = both_none (part (has_channel b) (channel_fault (channel_at b) b)) _ cp.1 in
    let n = both_none _ None hp.1 in
    let l : 1 ≤ length b = ltb-false _ _ (not_wrong _ (length b) k.0) in
    let x : 64 ≤ slice_index_or b 0 0 = ltb-false _ _ (not_wrong _ 0 f.0) in
    let end : length b ≤ end_of b = ltb-false _ _ (not_wrong _ (end_of b) n.0) in
    let c = part_written b bs ok (has_content b) l cp.0 in
    let h = channel_written b bs (has_channel b) (channel_at b) c.1.1 hp.0 end in
    let content = present (has_content b) (content_of b) in
    let channel = present (has_channel b) (channel_of (channel_at b) b) in
    let cs = content_bytes (reserved_in b bs) content in
    let fl : slice_index_or b 0 0 ≡ flags_byte (slice_index b 0 % 64) content channel = flags_back (slice_index b 0) (has_content b) (has_channel b) refl refl (bs 0) (content_of b) (channel_of (channel_at b) b) in
    record {
      right = skip (neither content channel) _ (some_part (slice_index b 0) (has_content b) (has_channel b) refl refl x (content_of b) (channel_of (channel_at b) b)) ∙ (skip (content_wrong ok content) _ c.1.0 ∙ skip (channel_wrong _ channel) None (h.1 _));
      reserved = reserved_in b bs;
      fitting = fitting_in b bs;
      written = next b 0 1 (omega arith) refl ∙ (λ i. fl i ∷ (c.0 ∙ ap (λ t. cs ++ t) h.0) i);
    }

pub presentation_written : (b : List ℕ) → Bytes b → presentation_fault b ≡ None → Writing presentation_wrong presentation_bytes (presentation_of b) b
presentation_written b bs e =
    let k = both_none (time_fault 0 b) _ e in
    let n = both_none _ None k.1 in
    let t = time_right b bs 0 0 k.0 in
    let l : length b ≤ 6 = ltb-false _ _ (not_wrong _ 6 n.0) in
    let b4 = bs 4 in
    record {
      right = t.1;
      reserved = record { flags = 0; content = 0; time = slice_index b 4 / 4; channel = 0 };
      fitting = record { flags = omega arith; content = omega arith; time = omega arith; channel = omega arith };
      written = time_front b bs 0 t.0 ∙ (ap (λ r. time_bytes (slice_index b 4 / 4) (time_at 0 b) ++ r) (drop_all 6 b l));
    }
