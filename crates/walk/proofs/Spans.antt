-- Where entries lie in their payload, how many there are, and what holds of a block that is read.
use Rattle.std.proofs.Common.{◌≡◌, ℕ, zero, suc, ◌+◌, ◌-◌, ◌*◌, ◌≤◌, Bool, true, false, cond, eqb, List, [], ◌∷◌, length, get_or, take, drop, Some, None, sym, refl, ap, ◌∙◌, subst, add-zero, arith, length-drop, length-take}
use Rattle.std.specs.List.{AllByRecursion}
use Rattle.std.proofs.lemmas.Bool.Decides.{nat_tests}
use Rattle.std.proofs.lemmas.Bool.{cond_both, eqb-true}
use Rattle.std.proofs.lemmas.List.{drop-drop, get_or-drop}
use Rattle.crc.specs.Crc.{crc}
use Rattle.wire.specs.Wire.{check_bytes, block_bytes}
use Rattle.wire.proofs.Wires.{length_block}
use Rattle.walk.specs.Fields.{word, count_of, has_check, cause_at, block_at}
use Rattle.walk.specs.Entries.{Item, read, item_at, finishes, scan, entries, blocks_read}
use Rattle.walk.specs.Laws.{place_of, end_of, InLine, Apart, Few, Right}
use Rattle.walk.proofs.Scans.{fits, room, crc_holds, in_order}

weaken : {P Q : Item → Type 0} → ((i : Item) → P i → Q i) → (is : List Item) → AllByRecursion P is → AllByRecursion Q is
weaken f [] e = tt
weaken f (i ∷ is) e = (f i e.0, weaken f is e.1)

place_item : (p : ℕ) (bs : List ℕ) → place_of (item_at p bs) ≡ p
unfolding item_at
place_item p bs = cond_both (eqb (cause_at bs) 0) _ _ (λ i. place_of i ≡ p) (λ _. refl) (λ _. refl)

-- ---- places
behind : (k p : ℕ) (bs : List ℕ) → AllByRecursion (λ j. p + k ≤ place_of j) (scan k p bs)
unfolding scan
behind zero p [] = tt
behind (suc k) p [] = tt
behind zero p (b ∷ bs) =
    cond_both (eqb b 0) [] _ (AllByRecursion (λ j. p + 0 ≤ place_of j)) (λ _. tt)
    (λ _. (
      omega (arith, place_item p (b ∷ bs)),
      cond_both (finishes (cause_at (b ∷ bs))) [] _ (AllByRecursion (λ j. p + 0 ≤ place_of j)) (λ _. tt)
          (λ _. weaken (λ j h. omega arith) (scan (suc (count_of (b ∷ bs))) (suc p) bs) (behind (suc (count_of (b ∷ bs))) (suc p) bs)),
    ))
behind (suc k) p (b ∷ bs) = weaken (λ j h. omega arith) (scan k (suc p) bs) (behind k (suc p) bs)

-- the bytes behind the first
tail_is : (payload : List ℕ) (p b : ℕ) (bs : List ℕ) → b ∷ bs ≡ drop p payload → bs ≡ drop (suc p) payload
tail_is payload p b bs e = let n : p + 1 ≡ suc p = omega arith in ap (drop 1) e ∙ drop-drop 1 p payload ∙ ap (λ m. drop m payload) n

pub in_line : (payload : List ℕ) (k p : ℕ) (bs : List ℕ) → bs ≡ drop p payload → InLine payload (p + k) (scan k p bs)
unfolding scan
in_line payload zero p [] e = tt
in_line payload (suc k) p [] e = tt
in_line payload zero p (b ∷ bs) e =
    let c = count_of (b ∷ bs) in
    let n : c ≡ get_or payload (p + 1) 0 = ap (λ l. get_or l 1 0) e ∙ get_or-drop p payload 1 0 in
    let at = place_item p (b ∷ bs) in
    let m = ap (λ q. get_or payload (q + 1) 0) at in
    let end : suc p + suc c ≡ end_of payload (item_at p (b ∷ bs)) = omega arith in
    cond_both (eqb b 0) [] _ (InLine payload (p + 0)) (λ _. tt)
    (λ _. (
      at ∙ sym (add-zero p),
      cond_both (finishes (cause_at (b ∷ bs))) [] _ (InLine payload (end_of payload (item_at p (b ∷ bs)))) (λ _. tt)
          (λ _. subst (λ q. InLine payload q (scan (suc c) (suc p) bs)) end (in_line payload (suc c) (suc p) bs (tail_is payload p b bs e))),
    ))
in_line payload (suc k) p (b ∷ bs) e =
    let n : suc p + k ≡ p + suc k = omega arith in
    subst (λ q. InLine payload q (scan k (suc p) bs)) n (in_line payload k (suc p) bs (tail_is payload p b bs e))

pub apart : (payload : List ℕ) (k p : ℕ) (bs : List ℕ) → bs ≡ drop p payload → Apart payload (scan k p bs)
unfolding scan
apart payload zero p [] e = tt
apart payload (suc k) p [] e = tt
apart payload zero p (b ∷ bs) e =
    let c = count_of (b ∷ bs) in
    let n : c ≡ get_or payload (p + 1) 0 = ap (λ l. get_or l 1 0) e ∙ get_or-drop p payload 1 0 in
    let at = place_item p (b ∷ bs) in
    let m = ap (λ q. get_or payload (q + 1) 0) at in
    let end : end_of payload (item_at p (b ∷ bs)) ≡ suc p + suc c = omega arith in
    cond_both (eqb b 0) [] _ (Apart payload) (λ _. tt)
    (λ _. cond_both (finishes (cause_at (b ∷ bs))) [] _ (λ is. AllByRecursion (λ j. end_of payload (item_at p (b ∷ bs)) ≤ place_of j) is × Apart payload is) (λ _. (tt, tt))
    (λ _. (weaken (λ j h. omega arith) (scan (suc c) (suc p) bs) (behind (suc c) (suc p) bs), apart payload (suc c) (suc p) bs (tail_is payload p b bs e))))
apart payload (suc k) p (b ∷ bs) e = apart payload k (suc p) bs (tail_is payload p b bs e)

-- ---- how many
seven_item : (p : ℕ) (bs : List ℕ) (xs : List Item) → finishes (cause_at bs) ≡ false → 7 * length (blocks_read (item_at p bs ∷ xs)) ≤ count_of bs + 2 + 7 * length (blocks_read xs)
unfolding item_at
seven_item p bs xs h =
    let f = fits bs (λ e. grind (arith, nat_tests)) in
    cond_both (eqb (cause_at bs) 0) _ _ (λ i. 7 * length (blocks_read (i ∷ xs)) ≤ count_of bs + 2 + 7 * length (blocks_read xs)) (λ _. omega (arith, f)) (λ _. omega (arith, f))

seven_stop : (p : ℕ) (bs : List ℕ) → finishes (cause_at bs) ≡ true → length (blocks_read (item_at p bs ∷ [])) ≡ 0
unfolding item_at
seven_stop p bs h = cond_both (eqb (cause_at bs) 0) _ _ (λ i. length (blocks_read (i ∷ [])) ≡ 0) (λ e. absurd (grind (arith, nat_tests))) (λ _. refl)

-- each block takes seven bytes at least
seven_each : (k p : ℕ) (bs : List ℕ) → 7 * length (blocks_read (scan k p bs)) ≤ length bs - k
unfolding scan
seven_each zero p [] = omega arith
seven_each (suc k) p [] = omega arith
seven_each zero p (b ∷ bs) =
    cond_both (eqb b 0) [] _ (λ xs. 7 * length (blocks_read xs) ≤ suc (length bs) - 0) (λ _. omega arith)
    (λ _. cond_both (finishes (cause_at (b ∷ bs))) [] _ (λ xs. 7 * length (blocks_read (item_at p (b ∷ bs) ∷ xs)) ≤ suc (length bs) - 0)
    (λ h. omega (arith, seven_stop p (b ∷ bs) h))
    (λ h. let f = fits (b ∷ bs) (λ e. grind (arith, nat_tests)) in
    omega (arith, f.0, seven_item p (b ∷ bs) (scan (suc (count_of (b ∷ bs))) (suc p) bs) h, seven_each (suc (count_of (b ∷ bs))) (suc p) bs)))
seven_each (suc k) p (b ∷ bs) = omega (arith, seven_each k (suc p) bs)

-- and so does each entry but one that finishes the line
seven_entry : (k p : ℕ) (bs : List ℕ) → 7 * length (scan k p bs) ≤ length bs - k + 6
unfolding scan
seven_entry zero p [] = omega arith
seven_entry (suc k) p [] = omega arith
seven_entry zero p (b ∷ bs) =
    cond_both (eqb b 0) [] _ (λ xs. 7 * length xs ≤ suc (length bs) - 0 + 6) (λ _. omega arith)
    (λ _. cond_both (finishes (cause_at (b ∷ bs))) [] _ (λ xs. 7 * suc (length xs) ≤ suc (length bs) - 0 + 6)
    (λ h. omega arith)
    (λ h. let f = fits (b ∷ bs) (λ e. grind (arith, nat_tests)) in
    omega (arith, f.0, f.1, seven_entry (suc (count_of (b ∷ bs))) (suc p) bs)))
seven_entry (suc k) p (b ∷ bs) = omega (arith, seven_entry k (suc p) bs)

pub few : (payload : List ℕ) → Few payload (entries payload)
few payload short =
    (omega (arith, seven_each 0 2 (drop 2 payload), length-drop 2 payload), omega (arith, seven_entry 0 2 (drop 2 payload), length-drop 2 payload))

-- ---- a block that is read
taken_body : (t : Bool) (n : ℕ) (w : ℕ) (bs : List ℕ) → cond t 9 5 ≤ n → n + 2 ≤ length bs → 7 + length (take (cond t (n - 9) (n - 5)) (drop 3 bs)) + length (check_bytes (cond t (Some w) None)) ≡ n + 2
taken_body true n w bs lo hi = simp (length-take, length-drop) (omega arith)
taken_body false n w bs lo hi = simp (length-take, length-drop) (omega arith)

pub block_size : (bs : List ℕ) → cause_at bs ≡ 0 → length (block_bytes (block_at bs)) ≡ count_of bs + 2
unfolding block_at
block_size bs h =
    let f = fits bs (λ e. omega arith) in
    length_block (block_at bs) ∙ taken_body (has_check bs) (count_of bs) (word (drop (count_of bs - 6) bs)) bs (room bs h) f.0

right_block : (payload : List ℕ) (p : ℕ) (bs : List ℕ) → bs ≡ drop p payload → cause_at bs ≡ 0 → Right payload (read p (block_at bs))
unfolding block_at
right_block payload p bs e h =
    let f = fits bs (λ i. omega arith) in
    let n = block_size bs h in
    let l : length bs ≡ length payload - p = ap length e ∙ length-drop p payload in
    let four : length (block_bytes (block_at bs)) - 4 ≡ count_of bs - 2 = omega arith in
    let end : p + length (block_bytes (block_at bs)) - 4 ≡ p + (count_of bs - 2) = omega (arith, f) in (
      in_order bs h,
      omega (arith, f, n, l),
      (λ i. crc (take (four i) (sym e i))) ∙ crc_holds bs h ∙ ap (λ x. word (drop (count_of bs - 2) x)) e ∙ ap word (drop-drop (count_of bs - 2) p payload) ∙ ap (λ m. word (drop m payload)) (sym end),
    )

right_item : (payload : List ℕ) (p : ℕ) (bs : List ℕ) → bs ≡ drop p payload → Right payload (item_at p bs)
unfolding item_at
right_item payload p bs e =
    cond_both (eqb (cause_at bs) 0) _ _ (Right payload) (λ t. right_block payload p bs e (eqb-true (cause_at bs) 0 t)) (λ _. tt)

pub all_right : (payload : List ℕ) (k p : ℕ) (bs : List ℕ) → bs ≡ drop p payload → AllByRecursion (Right payload) (scan k p bs)
unfolding scan
all_right payload zero p [] e = tt
all_right payload (suc k) p [] e = tt
all_right payload zero p (b ∷ bs) e =
    cond_both (eqb b 0) [] _ (AllByRecursion (Right payload)) (λ _. tt)
    (λ _. (
      right_item payload p (b ∷ bs) e,
      cond_both (finishes (cause_at (b ∷ bs))) [] _ (AllByRecursion (Right payload)) (λ _. tt) (λ _. all_right payload (suc (count_of (b ∷ bs))) (suc p) bs (tail_is payload p b bs e)),
    ))
all_right payload (suc k) p (b ∷ bs) e = all_right payload k (suc p) bs (tail_is payload p b bs e)
