-- Steps of a walk over bytes: where it ends, and what one entry is and takes.
use Rattle.std.proofs.Common.{◌≡◌, ℕ, zero, suc, ◌+◌, ◌-◌, ◌<◌, ◌≤◌, min, Bool, true, false, cond, eqb, List, [], ◌∷◌, length, get_or, take, drop, Some, sym, refl, ap, ◌∙◌, ⊎_elim, add-zero, arith}
use Rattle.std.proofs.lemmas.Bool.Decides.{nat_tests}
use Rattle.std.proofs.lemmas.Bool.{cond-true, cond-false, cond_both, eq-eqb, ne_eqb, cases_lt}
use Rattle.std.proofs.lemmas.List.{drop_all}
use Rattle.crc.specs.Crc.{crc}
use Rattle.walk.specs.declared.entry.Entry.{Entry}
use Rattle.walk.specs.declared.entry.Cause.{Cause}
use Rattle.walk.specs.declared.entry.Cause.TheVariants.{Torn, Crc, Part, Short}
use Rattle.walk.specs.Fields.{word, count_of, part_of, last_of, least_count, cause_at, cause_number, block_at}
use Rattle.walk.specs.Entries.{read, fault, item_at, finishes, taken, scan, item}
use Rattle.walk.specs.Steps.{Found}

-- ---- what the causes leave
pub fits : (bs : List ℕ) → (cause_at bs ≡ 1 → ⊥) → (count_of bs + 2 ≤ length bs) × (5 ≤ count_of bs)
unfolding cause_at
fits bs h = grind (arith, nat_tests)

pub room : (bs : List ℕ) → cause_at bs ≡ 0 → least_count bs ≤ count_of bs
unfolding cause_at
room bs h = grind (arith, nat_tests)

pub crc_holds : (bs : List ℕ) → cause_at bs ≡ 0 → crc (take (count_of bs - 2) bs) ≡ word (drop (count_of bs - 2) bs)
unfolding cause_at
crc_holds bs h = grind (arith, nat_tests)

pub in_order : (bs : List ℕ) → cause_at bs ≡ 0 → part_of bs ≤ last_of bs
unfolding cause_at
in_order bs h = grind (arith, nat_tests)

some_cause : (c : Cause) → 0 < cause_number c
some_cause Torn = omega arith
some_cause Crc = omega arith
some_cause Part = omega arith
some_cause Short = omega arith

-- ---- one step
-- the bytes of a block before are passed over
pub scan_skip : (k p : ℕ) (bs : List ℕ) → scan k p bs ≡ scan 0 (p + k) (drop k bs)
unfolding scan
scan_skip zero p [] = refl
scan_skip zero p (b ∷ bs) = rw add-zero
scan_skip (suc k) p [] = refl
scan_skip (suc k) p (b ∷ bs) = scan_skip k (suc p) bs ∙ ap (λ n. scan 0 n (drop k bs)) (omega arith)

pub scan_end : (p : ℕ) (bs : List ℕ) → get_or bs 0 0 ≡ 0 → scan 0 p bs ≡ []
unfolding scan
scan_end p [] h = refl
scan_end p (b ∷ bs) h = cond-true (eqb b 0) _ _ (eq-eqb b 0 h)

-- what follows an entry is the scan of the bytes past it
after : (p : ℕ) (b : ℕ) (bs : List ℕ) (t : Bool) (n : ℕ) → cond t [] (scan (suc n) (suc p) bs) ≡ scan 0 (p + cond t (length (b ∷ bs)) (n + 2)) (drop (cond t (length (b ∷ bs)) (n + 2)) (b ∷ bs))
unfolding scan
after p b bs true n = sym (ap (scan 0 (p + suc (length bs))) (drop_all (length bs) bs (omega arith)))
after p b bs false n =
    let e : n + 2 ≡ suc (suc n) = omega arith in
    let f : suc p + suc n ≡ p + (n + 2) = omega arith in
    scan_skip (suc n) (suc p) bs ∙ ap (λ m. scan 0 m (drop (suc n) bs)) f ∙ ap (λ m. scan 0 (p + (n + 2)) (drop m (b ∷ bs))) (sym e)

pub scan_entry : (p : ℕ) (bs : List ℕ) → (get_or bs 0 0 ≡ 0 → ⊥) → scan 0 p bs ≡ item_at p bs ∷ scan 0 (p + taken bs) (drop (taken bs) bs)
unfolding scan
scan_entry p [] h = absurd (h refl)
scan_entry p (b ∷ bs) h =
    cond-false (eqb b 0) _ _ (ne_eqb b 0 h) ∙ ap (λ xs. item_at p (b ∷ bs) ∷ xs) (after p b bs (finishes (cause_at (b ∷ bs))) (count_of (b ∷ bs)))

pub past_within : (bs : List ℕ) → 0 < length bs → (0 < taken bs) × (taken bs ≤ length bs)
past_within bs some = cond_both (finishes (cause_at bs)) (length bs) (count_of bs + 2) (λ n. (0 < n) × (n ≤ length bs)) (λ _. (some, omega arith)) (λ h. let f = fits bs (λ e. grind (arith, nat_tests)) in (omega arith, omega arith))

pub some_from_byte : (bs : List ℕ) → (get_or bs 0 0 ≡ 0 → ⊥) → 0 < length bs
some_from_byte [] h = absurd (h refl)
some_from_byte (b ∷ bs) h = omega arith

pub found_entry : (p : ℕ) (bs : List ℕ) (e : Entry) (n : ℕ) → (get_or bs 0 0 ≡ 0 → ⊥) → item e ≡ item_at p bs → n ≡ taken bs → Found p bs (Some (e, n))
found_entry p bs e n some is size =
    let w = past_within bs (some_from_byte bs some) in
    (omega arith, omega arith, size, scan_entry p bs some ∙ ap (λ m. item_at p bs ∷ scan 0 (p + m) (drop m bs)) (sym size) ∙ ap (λ i. i ∷ scan 0 (p + n) (drop n bs)) (sym is))

pub item_block : (p : ℕ) (bs : List ℕ) → cause_at bs ≡ 0 → item_at p bs ≡ read p (block_at bs)
unfolding item_at
item_block p bs h = cond-true (eqb (cause_at bs) 0) _ _ (eq-eqb (cause_at bs) 0 h)

pub past_block : (bs : List ℕ) → cause_at bs ≡ 0 → taken bs ≡ count_of bs + 2
past_block bs h = grind (arith, nat_tests)

pub item_fault : (p : ℕ) (bs : List ℕ) (c : Cause) → cause_number c ≡ cause_at bs → item_at p bs ≡ fault p (cause_at bs) (get_or bs 0 0)
unfolding item_at
item_fault p bs c h = let s = some_cause c in cond-false (eqb (cause_at bs) 0) _ _ (ne_eqb (cause_at bs) 0 (λ e. omega arith))

-- a walk starts at place 2, or at the end of a shorter payload
pub start : (payload : List ℕ) (place : ℕ) → place ≡ min (length payload) 2 → scan 0 place (drop place payload) ≡ scan 0 2 (drop 2 payload)
start payload place e =
    ⊎_elim
    (λ (h : length payload < 2).
    scan_end place (drop place payload) (ap (λ l. get_or l 0 0) (drop_all place payload (omega arith)))
    ∙ sym (scan_end 2 (drop 2 payload) (ap (λ l. get_or l 0 0) (drop_all 2 payload (omega arith)))))
    (λ (h : 2 ≤ length payload). let n : place ≡ 2 = omega arith in ap (λ p. scan 0 p (drop p payload)) n)
    (cases_lt (length payload) 2)
