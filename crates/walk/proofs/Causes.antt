-- Each cause, from the test that finds it, and none where every test passes.
use Rattle.std.proofs.Common.{◌≡◌, ℕ, ◌+◌, ◌-◌, ◌<◌, ◌≤◌, Bool, true, false, cond, List, length, get_or, take, drop, Some, None, refl, ap, ◌∙◌, arith, length-drop, get_or-drop}
use Rattle.std.proofs.lemmas.Bool.Decides.{nat_tests}
use Rattle.std.proofs.lemmas.List.{take-take, take_all, drop-drop, drop-take, length-take-le, get_or-take}
use Rattle.crc.specs.Crc.{crc}
use Rattle.walk.specs.Fields.{word, count_of, part_of, last_of, has_check, least_count, cause_at, Sound}

-- four bytes among the first n, as a number
word_within : (bs : List ℕ) (n k : ℕ) → k + 4 ≤ n → word (drop k (take n bs)) ≡ word (drop k bs)
word_within bs n k h = simp get_or-drop (grind (arith, get_or-take))

module _ (bs : List ℕ) where
  -- the bytes of a block that is whole: those that CRC_32 covers, and CRC_32
  module _ (n : ℕ) (is : n ≡ count_of bs) (least : 5 ≤ n) (within : n + 2 ≤ length bs) where
    pub covered_there : take (length (take (n + 2) bs) - 4) (take (n + 2) bs) ≡ take (count_of bs - 2) bs
    covered_there =
        let k : length (take (n + 2) bs) - 4 ≡ count_of bs - 2 = omega (arith, length-take-le (n + 2) bs within) in
        ap (λ m. take m (take (n + 2) bs)) k ∙ take-take (count_of bs - 2) (n + 2) bs (omega arith)

    pub word_there : word (drop (length (take (n + 2) bs) - 4) (take (n + 2) bs)) ≡ word (drop (count_of bs - 2) bs)
    word_there =
        let k : length (take (n + 2) bs) - 4 ≡ count_of bs - 2 = omega (arith, length-take-le (n + 2) bs within) in
        ap (λ m. word (drop m (take (n + 2) bs))) k ∙ word_within bs (n + 2) (count_of bs - 2) (omega arith)

    pub crc_wrong : (x y : ℕ) → x ≡ crc (take (count_of bs - 2) bs) → y ≡ word (drop (count_of bs - 2) bs) → (x ≡ y → ⊥) → 2 ≡ cause_at bs
    unfolding cause_at
    crc_wrong x y e f h = grind (arith, nat_tests)

  module _ (s : Sound bs) where
    pub part_above : last_of bs < part_of bs → 3 ≡ cause_at bs
    unfolding cause_at
    part_above h = let l = s.least in let w = s.within in let r = s.right in grind (arith, nat_tests)

    pub check_short : part_of bs ≤ last_of bs → has_check bs ≡ true → count_of bs < 9 → 4 ≡ cause_at bs
    unfolding cause_at
    check_short h t c = let l = s.least in let w = s.within in let r = s.right in grind (arith, nat_tests)

    pub sound : part_of bs ≤ last_of bs → least_count bs ≤ count_of bs → cause_at bs ≡ 0
    unfolding cause_at
    sound h c = let l = s.least in let w = s.within in let r = s.right in grind (arith, nat_tests)

    -- the three bytes before the body, and what is behind them up to CRC_32
    module _ (front tail : List ℕ) (f : front ≡ take 3 (take (count_of bs - 2) bs)) (t : tail ≡ drop 3 (take (count_of bs - 2) bs)) where
      pub byte_there : (i : ℕ) → i < 3 → get_or front i 0 ≡ get_or bs i 0
      byte_there i h = ap (λ xs. get_or xs i 0) f ∙ get_or-take 3 (take (count_of bs - 2) bs) i 0 h ∙ get_or-take (count_of bs - 2) bs i 0 (omega (arith, s.least))

      tail_there : tail ≡ take (count_of bs - 5) (drop 3 bs)
      tail_there =
          let n : count_of bs - 2 ≡ 3 + (count_of bs - 5) = omega (arith, s.least) in
          t ∙ ap (λ m. drop 3 (take m bs)) n ∙ drop-take 3 (count_of bs - 5) bs

      pub tail_length : length tail ≡ count_of bs - 5
      tail_length = ap length tail_there ∙ length-take-le (count_of bs - 5) (drop 3 bs) (omega (arith, length-drop 3 bs, s.least, s.within))

      pub body_there : (b : Bool) → take (length tail - cond b 4 0) tail ≡ take (cond b (count_of bs - 9) (count_of bs - 5)) (drop 3 bs)
      body_there true =
          let n : length tail - 4 ≡ count_of bs - 9 = omega (arith, tail_length) in
          ap (λ m. take m tail) n ∙ ap (take (count_of bs - 9)) tail_there ∙ take-take (count_of bs - 9) (count_of bs - 5) (drop 3 bs) (omega arith)
      body_there false = take_all (length tail - 0) tail (omega arith) ∙ tail_there

      check_there : 4 ≤ length tail → word (drop (length tail - 4) tail) ≡ word (drop (count_of bs - 6) bs)
      check_there h =
          let n : length tail - 4 ≡ count_of bs - 9 = omega (arith, tail_length) in
          let m : 3 + (count_of bs - 9) ≡ count_of bs - 6 = omega (arith, tail_length) in
          ap (λ k. word (drop k tail)) n ∙ ap (λ xs. word (drop (count_of bs - 9) xs)) tail_there
          ∙ word_within (drop 3 bs) (count_of bs - 5) (count_of bs - 9) (omega (arith, tail_length))
          ∙ ap word (drop-drop (count_of bs - 9) 3 bs) ∙ ap (λ k. word (drop k bs)) m

      pub check_all : (b : Bool) → cond b 4 0 ≤ length tail → cond b (Some (word (drop (length tail - 4) tail))) None ≡ cond b (Some (word (drop (count_of bs - 6) bs))) None
      check_all true h = ap Some (check_there h)
      check_all false h = refl

      pub least_all : (b : Bool) → cond b 4 0 ≤ length tail → cond b 9 5 ≤ count_of bs
      least_all true h = omega (arith, tail_length, s.least)
      least_all false h = s.least
