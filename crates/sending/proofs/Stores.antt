-- Parts that lie one behind the other: what is cut out where they end, and where they end.
use Rattle.std.proofs.Common.{◌≡◌, ℕ, zero, suc, ◌+◌, ◌-◌, ◌<◌, ◌≤◌, List, [], ◌∷◌, ◌++◌, length, get_or, take, drop, set, sym, refl, ap, ◌∙◌, subst, arith, add-one, length-set}
use Rattle.std.proofs.lemmas.List.{length-append, take_at, take-take, take_more_set, drop_at, drop-drop, drop-take, get_or-take, length-take-le, flat_map_more}
use Rattle.buffers.specs.Laid.{laid}
use Rattle.buffers.proofs.Lays.{take_laid}
use Rattle.sending.specs.Storage.{joint, cuts, ends}
use Rattle.sending.specs.Stored.{stored, IsStored}
use Rattle.sending.specs.declared.parts.Parts.TheInside.{Inside}
use Rattle.sending.proofs.Givens.{room_next}

ends_more : (p : ℕ) (xs : List (List ℕ)) (x : List ℕ) → ends p (xs ++ x ∷ []) ≡ ends p xs ++ (p + length (joint xs) + length x) ∷ []
ends_more p [] x = ap (λ n. n ∷ []) (let e : p + length x ≡ p + 0 + length x = omega arith in e)
ends_more p (y ∷ xs) x =
    let n : p + length y + length (joint xs) + length x ≡ p + length (y ++ joint xs) + length x = simp length-append (omega arith) in
    ap (λ l. (p + length y) ∷ l) (ends_more (p + length y) xs x ∙ ap (λ m. ends (p + length y) xs ++ m ∷ []) n)

-- the k-th of them ends behind the first k + 1
ends_at : (p : ℕ) (ps : List (List ℕ)) (k : ℕ) → k < length ps → get_or (ends p ps) k 0 ≡ p + length (joint (take (suc k) ps))
ends_at p [] k h = absurd (omega arith)
ends_at p (x ∷ xs) zero h = omega (arith, length-append x [])
ends_at p (x ∷ xs) (suc k) h = omega (arith, length-append x (joint (take (suc k) xs)), ends_at (p + length x) xs k (omega arith))

-- what is cut out where the parts end are the parts
cuts_ends : (p : ℕ) (ps : List (List ℕ)) (bs : List ℕ) → take (length (joint ps)) (drop p bs) ≡ joint ps → cuts p (ends p ps) bs ≡ ps
cuts_ends p [] bs e = refl
cuts_ends p (x ∷ xs) bs e =
    let n : length (x ++ joint xs) ≡ length x + length (joint xs) = length-append x (joint xs) in
    let all : take (length x + length (joint xs)) (drop p bs) ≡ x ++ joint xs = ap (λ m. take m (drop p bs)) (sym n) ∙ e in
    let one : take (length x) (drop p bs) ≡ x =
    sym (take-take (length x) (length x + length (joint xs)) (drop p bs) (omega arith)) ∙ ap (take (length x)) all ∙ take_at x (joint xs) (length x) refl in
    let others : take (length (joint xs)) (drop (p + length x) bs) ≡ joint xs =
    ap (take (length (joint xs))) (sym (drop-drop (length x) p bs)) ∙ sym (drop-take (length x) (length (joint xs)) (drop p bs)) ∙ ap (drop (length x)) all ∙ drop_at x (joint xs) (length x) refl in
    let w : p + length x - p ≡ length x = omega arith in
    (λ i. (ap (λ m. take m (drop p bs)) w ∙ one) i ∷ cuts_ends (p + length x) xs bs others i)

length_cuts : (p : ℕ) (es : List ℕ) (bs : List ℕ) → length (cuts p es bs) ≡ length es
length_cuts p [] bs = refl
length_cuts p (e ∷ es) bs = ap suc (length_cuts e es bs)

-- one part more ends behind it
next_end : (ps : List (List ℕ)) (k : ℕ) → k < length ps → length (joint (take (suc k) ps)) ≡ length (joint (take k ps)) + length (get_or ps k [])
next_end [] k h = absurd (omega arith)
next_end (x ∷ xs) zero h = omega (arith, length-append x [])
next_end (x ∷ xs) (suc k) h = omega (arith, length-append x (joint (take (suc k) xs)), length-append x (joint (take k xs)), next_end xs k (omega arith))

-- a part of parts in one piece
piece_at : (ps : List (List ℕ)) (bs : List ℕ) (k : ℕ) → k < length ps → take (length (joint ps)) bs ≡ joint ps
    → take (length (joint (take (suc k) ps)) - length (joint (take k ps))) (drop (length (joint (take k ps))) bs) ≡ get_or ps k []
piece_at [] bs k h e = absurd (omega arith)
piece_at (x ∷ xs) bs zero h e =
    let n : length (x ++ []) - 0 ≡ length x = omega (arith, length-append x []) in
    ap (λ m. take m bs) n
    ∙ sym (take-take (length x) (length (x ++ joint xs)) bs (omega (arith, length-append x (joint xs)))) ∙ ap (take (length x)) e ∙ take_at x (joint xs) (length x) refl
piece_at (x ∷ xs) bs (suc k) h e =
    let a = length (joint (take k xs)) in
    let b = length (joint (take (suc k) xs)) in
    let n : length (x ++ joint xs) ≡ length x + length (joint xs) = length-append x (joint xs) in
    let others : take (length (joint xs)) (drop (length x) bs) ≡ joint xs =
    sym (drop-take (length x) (length (joint xs)) bs) ∙ ap (λ m. drop (length x) (take m bs)) (sym n) ∙ ap (drop (length x)) e ∙ drop_at x (joint xs) (length x) refl in
    let w : length (x ++ joint (take (suc k) xs)) - length (x ++ joint (take k xs)) ≡ b - a =
    omega (arith, length-append x (joint (take (suc k) xs)), length-append x (joint (take k xs))) in
    let f : length (x ++ joint (take k xs)) ≡ length x + a = omega (arith, length-append x (joint (take k xs))) in
    (λ i. take (w i) (drop (f i) bs)) ∙ ap (take (b - a)) (sym (drop-drop a (length x) bs)) ∙ piece_at xs (drop (length x) bs) k (omega arith) others

-- ---- parts in memory
module _ (m : Inside) (s : IsStored m) (ps : List (List ℕ)) (is : stored m ≡ ps) where
  pub long : length ps ≡ m.count
  long = ap length (sym is) ∙ length_cuts 0 (take m.count m.places) m.bytes ∙ length-take-le m.count m.places (omega (arith, s.few, s.four))

  pub begins : (i : ℕ) → 1 ≤ i → i ≤ length ps → get_or m.places (i - 1) 0 ≡ length (joint (take i ps))
  begins i some h =
      let l : i - 1 < m.count = omega (arith, long) in
      let n : suc (i - 1) ≡ i = omega arith in
      sym (get_or-take m.count m.places (i - 1) 0 l) ∙ ap (λ es. get_or es (i - 1) 0) (s.places ∙ ap (ends 0) is)
      ∙ (let e : get_or (ends 0 ps) (i - 1) 0 ≡ length (joint (take (suc (i - 1)) ps)) = omega (arith, ends_at 0 ps (i - 1) (omega arith)) in e)
      ∙ ap (λ k. length (joint (take k ps))) n

  pub joint_there : take (length (joint ps)) m.bytes ≡ joint ps
  joint_there = subst (λ qs. take (length (joint qs)) m.bytes ≡ joint qs) is s.bytes

  pub joint_short : length (joint ps) ≤ 200
  joint_short = subst (λ qs. length (joint qs) ≤ 200) is s.room

  pub part_room : (k : ℕ) → k < length ps → (length (joint (take k ps)) ≤ length (joint (take (k + 1) ps))) × (length (joint (take (k + 1) ps)) ≤ 200)
  part_room k h = rw add-one (let n = next_end ps k h in (omega arith, omega (arith, room_next ps k h, joint_short)))

  pub part_there : (k : ℕ) → k < length ps
      → take (length (joint (take (k + 1) ps)) - length (joint (take k ps))) (drop (length (joint (take k ps))) m.bytes) ≡ get_or ps k []
  part_there k h = rw add-one (piece_at ps m.bytes k h joint_there)

-- what makes parts in memory
stores : (m : Inside) (ps : List (List ℕ)) → m.count ≤ 4 → length m.places ≡ 4 → take m.count m.places ≡ ends 0 ps → length (joint ps) ≤ 200 → take (length (joint ps)) m.bytes ≡ joint ps
    → IsStored m × (stored m ≡ ps)
stores m ps few four places room bytes =
    let is : stored m ≡ ps = ap (λ es. cuts 0 es m.bytes) places ∙ cuts_ends 0 ps m.bytes bytes in (
      record {
        few = few;
        four = four;
        places = places ∙ ap (ends 0) (sym is);
        room = subst (λ qs. length (joint qs) ≤ 200) (sym is) room;
        bytes = subst (λ qs. take (length (joint qs)) m.bytes ≡ joint qs) (sym is) bytes;
      },
      is,
    )

-- one part more behind them
pub one_more : (m : Inside) → IsStored m → (ps : List (List ℕ)) → stored m ≡ ps → length m.bytes ≡ 200 → (x : List ℕ) → length ps < 4 → length (joint ps) + length x ≤ 200
    → (from : ℕ) → from ≡ length (joint ps) → (bs : List ℕ) → bs ≡ laid m.bytes from x
    → let n : Inside = record { count = m.count + 1; places = set m.places m.count (from + length x); bytes = bs } in IsStored n × (stored n ≡ ps ++ x ∷ [])
one_more m s ps is size x few room from at bs e =
    let l = long m s ps is in
    let joins : joint (ps ++ x ∷ []) ≡ joint ps ++ x = sym (flat_map_more (λ (p : List ℕ). p) [] ps x) in
    let n : length (joint (ps ++ x ∷ [])) ≡ from + length x = ap length joins ∙ length-append (joint ps) x ∙ ap (λ k. k + length x) (sym at) in
    let end : from + length x ≡ 0 + length (joint ps) + length x = omega arith in
    stores (record { count = m.count + 1; places = set m.places m.count (from + length x); bytes = bs }) (ps ++ x ∷ []) (omega arith) (length-set m.places m.count (from + length x) ∙ s.four)
    (take_more_set m.places m.count (from + length x) (omega (arith, s.four)) ∙ (λ j. (s.places ∙ ap (ends 0) is) j ++ end j ∷ []) ∙ sym (ends_more 0 ps x)) (omega arith)
    (ap (λ k. take k bs) n ∙ ap (take (from + length x)) e ∙ take_laid m.bytes from x (omega arith) ∙ ap (λ k. take k m.bytes ++ x) at ∙ ap (λ l. l ++ x) (joint_there m s ps is) ∙ sym joins)
