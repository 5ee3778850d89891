-- The pieces of a message that is cut: how many, how long, and that they join to it.
use Rattle.std.proofs.Common.{◌≡◌, ℕ, zero, suc, ◌+◌, ◌-◌, ◌*◌, ◌<◌, ◌≤◌, min, false, cond, ltb, leb, ◌⊎◌, List, [], ◌∷◌, ◌++◌, length, get_or, take, drop, None, Ok, Err, sym, refl, ap, ◌∙◌, subst, inl, inr, ⊎_elim, append-nil, suc-mul, zero-mul, arith}
use Rattle.refusal.specs.declared.Refusal.TheVariants.{TooLong, NotOfASending}
use Rattle.std.proofs.lemmas.List.{length-take, length-drop, take-append-drop}
use Rattle.std.proofs.lemmas.Bool.{cond-true, cond-false, le-leb, lt-leb, lt-ltb, le-ltb, cases_lt}
use Rattle.std.proofs.lemmas.Bool.Decides.{nat_tests}
use Rattle.std.proofs.lemmas.Grind.{common_steps}
use Rattle.sending.specs.Sendings.{IsSending}
use Rattle.sending.specs.Storage.{joint, Plain}
use Rattle.sending.specs.declared.room.Room.{Room}
use Rattle.sending.specs.declared.room.Room.TheVariants.{OneX, TwoX}
use Rattle.sending.specs.Given.{part_limit, first_long, unsuited}
use Rattle.sending.specs.Cuts.{room_bytes, capacity, part_count, pieces, cut_parts, cutting, Smallest, IsCut}
use Rattle.sending.proofs.Rules.{rule_of}
use Rattle.sending.proofs.Givens.{none_long, limit_least, limit_inner, suited}

-- ---- the first bytes, as many as there are
pub take_up_to : (xs : List ℕ) (w t : ℕ) → t ≡ min w (length xs) → take t xs ≡ take w xs
take_up_to xs w t e = grind (arith, common_steps)

pub drop_up_to : (xs : List ℕ) (w t : ℕ) → t ≡ min w (length xs) → drop t xs ≡ drop w xs
drop_up_to xs w t e = grind (arith, common_steps)

-- ---- n pieces and the rest
pieces_length : (n w : ℕ) (m : List ℕ) → length (pieces n w m) ≡ n + 1
pieces_length zero w m = refl
pieces_length (suc n) w m = ap suc (pieces_length n w (drop w m)) ∙ omega arith

pieces_join : (n w : ℕ) (m : List ℕ) → joint (pieces n w m) ≡ m
pieces_join zero w m = append-nil m
pieces_join (suc n) w m = ap (λ l. take w m ++ l) (pieces_join n w (drop w m)) ∙ take-append-drop w m

pieces_take : (n w : ℕ) (m : List ℕ) (k : ℕ) → k < n → length (get_or (pieces n w m) k []) ≡ min (length m - k * w) w
pieces_take zero w m k h = absurd (omega arith)
pieces_take (suc n) w m zero h = omega (arith, length-take w m, zero-mul w)
pieces_take (suc n) w m (suc k) h = omega (arith, pieces_take n w (drop w m) k (omega arith), length-drop w m, suc-mul k w)

-- the first of them, and those of the rest
pub pieces_next : (n w : ℕ) (m : List ℕ) → 1 ≤ n → pieces n w m ≡ take w m ∷ pieces (n - 1) w (drop w m)
pieces_next zero w m h = absurd (omega arith)
pieces_next (suc n) w m h = ap (λ k. take w m ∷ pieces k w (drop w m)) (let e : n ≡ suc n - 1 = omega arith in e)

pieces_last : (n w b : ℕ) (m : List ℕ) → length m ≤ n * w + b → length (get_or (pieces n w m) n []) ≤ b
pieces_last zero w b m h = omega (arith, zero-mul w)
pieces_last (suc n) w b m h = pieces_last n w b (drop w m) (omega (arith, length-drop w m, suc-mul n w))

-- ---- the smallest count that is enough
-- one part, or the smallest count of several
pub counts : (c m : ℕ) → m ≤ capacity c 4 → ((m ≤ c - 7) × (part_count c m ≡ 1)) ⊎ ((c - 7 < m) × Smallest c m (part_count c m))
counts c m most =
    ⊎_elim
    (λ (h : c - 7 < m).
    let one : part_count c m ≡ cond (leb m (capacity c 2)) 2 (cond (leb m (capacity c 3)) 3 4) = cond-false (leb m (c - 7)) 1 _ (lt-leb m (c - 7) h) in
    inr (
      h,
      ⊎_elim
          (λ (h2 : capacity c 2 < m).
          let two : part_count c m ≡ cond (leb m (capacity c 3)) 3 4 = one ∙ cond-false (leb m (capacity c 2)) 2 _ (lt-leb m (capacity c 2) h2) in
          ⊎_elim
          (λ (h3 : capacity c 3 < m).
          let four : part_count c m ≡ 4 = two ∙ cond-false (leb m (capacity c 3)) 3 4 (lt-leb m (capacity c 3) h3) in
          subst (Smallest c m) (sym four) (record { two_to_four = (omega arith, omega arith); enough = most; no_fewer = λ k lo e. at_least_four k lo e h2 h3 }))
          (λ (h3 : m ≤ capacity c 3).
          let three : part_count c m ≡ 3 = two ∙ cond-true (leb m (capacity c 3)) 3 4 (le-leb m (capacity c 3) h3) in
          subst (Smallest c m) (sym three) (record { two_to_four = (omega arith, omega arith); enough = h3; no_fewer = λ k lo e. at_least_three k lo e h2 }))
          (cases_lt (capacity c 3) m))
          (λ (h2 : m ≤ capacity c 2).
          let two : part_count c m ≡ 2 = one ∙ cond-true (leb m (capacity c 2)) 2 _ (le-leb m (capacity c 2) h2) in
          subst (Smallest c m) (sym two) (record { two_to_four = (omega arith, omega arith); enough = h2; no_fewer = λ k lo e. lo }))
          (cases_lt (capacity c 2) m),
    ))
    (λ (h : m ≤ c - 7). inl (h, cond-true (leb m (c - 7)) 1 _ (le-leb m (c - 7) h)))
    (cases_lt (c - 7) m)
  where
    at_least_three : (k : ℕ) → 2 ≤ k → m ≤ capacity c k → capacity c 2 < m → 3 ≤ k
    at_least_three k lo e h2 =
        ⊎_elim (λ (l : 2 < k). omega arith) (λ (l : k ≤ 2). let is : k ≡ 2 = omega arith in let f : m ≤ capacity c 2 = subst (λ n. m ≤ capacity c n) is e in absurd (omega arith)) (cases_lt 2 k)

    at_least_four : (k : ℕ) → 2 ≤ k → m ≤ capacity c k → capacity c 2 < m → capacity c 3 < m → 4 ≤ k
    at_least_four k lo e h2 h3 =
        let low : 3 ≤ k = at_least_three k lo e h2 in
        ⊎_elim (λ (l : 3 < k). omega arith) (λ (l : k ≤ 3). let is : k ≡ 3 = omega arith in let f : m ≤ capacity c 3 = subst (λ n. m ≤ capacity c n) is e in absurd (omega arith)) (cases_lt 3 k)

pub count_range : (c m : ℕ) → m ≤ capacity c 4 → (1 ≤ part_count c m) × (part_count c m ≤ 4)
count_range c m most =
    ⊎_elim (λ h. (omega (arith, h.1), omega (arith, h.1))) (λ h. (omega (arith, h.1.two_to_four.0), h.1.two_to_four.1)) (counts c m most)

-- ---- every cut is one as the rule says
pub is_cut : (c : ℕ) (m : List ℕ) → length m ≤ capacity c 4 → IsCut c m (cut_parts c m)
is_cut c m most =
    let n = part_count c (length m) in
    let some : 1 ≤ n = ⊎_elim (λ h. omega (arith, h.1)) (λ h. omega (arith, h.1.two_to_four.0)) (counts c (length m) most) in
    let long : length (cut_parts c m) ≡ n = pieces_length (n - 1) (c - 7) m ∙ omega arith in
    record {
      joins = pieces_join (n - 1) (c - 7) m;
      one = λ h. ⊎_elim (λ e. long ∙ e.1) (λ e. absurd (omega (arith, e.0))) (counts c (length m) most);
      several = λ h. ⊎_elim (λ e. absurd (omega (arith, e.0))) (λ e. subst (Smallest c (length m)) (sym long) e.1) (counts c (length m) most);
      takes = λ k h. pieces_take (n - 1) (c - 7) m k (omega arith);
    }

-- ---- and its parts make a sending
last_piece : (c : ℕ) (m : List ℕ) → c ≤ 58 → length m ≤ capacity c 4 → length (get_or (cut_parts c m) (part_count c (length m) - 1) []) ≤ part_limit (part_count c (length m)) (part_count c (length m) - 1)
last_piece c m small most =
    ⊎_elim
    (λ e. subst (λ n. length (get_or (pieces (n - 1) (c - 7) m) (n - 1) []) ≤ part_limit n (n - 1)) (sym e.1) (omega (arith, e.0)))
    (λ e. omega (arith, pieces_last (part_count c (length m) - 1) (c - 7) (c - 11) m e.1.enough, limit_least (part_count c (length m)) (part_count c (length m) - 1)))
    (counts c (length m) most)

cut_short : (c : ℕ) (m : List ℕ) → c ≤ 58 → length m ≤ capacity c 4 → first_long (length (cut_parts c m)) 0 (cut_parts c m) ≡ None
cut_short c m small most =
    let n = part_count c (length m) in
    let some : 1 ≤ n = ⊎_elim (λ h. omega (arith, h.1)) (λ h. omega (arith, h.1.two_to_four.0)) (counts c (length m) most) in
    let long : length (cut_parts c m) ≡ n = pieces_length (n - 1) (c - 7) m ∙ omega arith in
    none_long (length (cut_parts c m)) 0 (cut_parts c m) (λ k h.
    let z : k ≡ 0 + k = omega arith in
    subst (λ j. length (get_or (cut_parts c m) k []) ≤ part_limit (length (cut_parts c m)) j) z
    (subst (λ j. length (get_or (cut_parts c m) k []) ≤ part_limit j k) (sym long)
    (⊎_elim
    (λ (l : k < n - 1). omega (arith, pieces_take (n - 1) (c - 7) m k l, limit_inner n k (omega arith)))
    (λ (l : n - 1 ≤ k). let e : n - 1 ≡ k = omega arith in subst (λ j. length (get_or (cut_parts c m) j []) ≤ part_limit n j) e (last_piece c m small most))
    (cases_lt k (n - 1)))))

-- what suits one part suits more
suits_more : (number version n : ℕ) → unsuited number version 1 ≡ false → 1 ≤ n → n ≤ 4 → unsuited number version n ≡ false
suits_more number version n e lo hi = let s = suited number version 1 e in grind (arith, nat_tests)

small : (r : Room) → room_bytes r ≤ 58
small OneX = omega arith
small TwoX = omega arith

-- a message that is cut makes a sending
pub cut_rule : (r : Room) (n v : ℕ) (m : List ℕ) → length m ≤ capacity (room_bytes r) 4 → unsuited n v 1 ≡ false → n < 256 → Plain (cut_parts (room_bytes r) m)
    → IsSending (record { number = n; version = v; parts = cut_parts (room_bytes r) m })
cut_rule r n v m most suits low plain =
    let c = room_bytes r in
    let k = count_range c (length m) most in
    rule_of n v (cut_parts c m) (cut_short c m (small r) most)
    (subst (λ l. unsuited n v l ≡ false) (sym (pieces_length (part_count c (length m) - 1) (c - 7) m)) (suits_more n v (part_count c (length m) - 1 + 1) suits (omega arith) (omega arith))) low plain

-- ---- the answer
pub cut_long : (c number version : ℕ) (m : List ℕ) → capacity c 4 < length m → Err (TooLong (length m)) ≡ cutting c number version m
unfolding cutting
cut_long c number version m h = sym (cond-true (ltb (capacity c 4) (length m)) _ _ (lt-ltb (capacity c 4) (length m) h))

pub cut_rest : (c number version : ℕ) (m : List ℕ) → length m ≤ capacity c 4 → cutting c number version m ≡ cond (unsuited number version 1) (Err NotOfASending) (Ok (record { number = number; version = version; parts = cut_parts c m }))
unfolding cutting
cut_rest c number version m h = cond-false (ltb (capacity c 4) (length m)) _ _ (le-ltb (capacity c 4) (length m) h)
