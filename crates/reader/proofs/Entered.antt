-- What holds of the entries of a payload of at most 60 bytes: places, numbers and causes are in range, and every block read is small.
use Rattle.std.proofs.Common.{◌≡◌, ℕ, zero, suc, ◌+◌, ◌-◌, ◌/◌, ◌<◌, ◌≤◌, Bool, true, false, cond, not, ◌&&◌, eqb, ltb, List, [], ◌∷◌, length, get_or, drop, Some, None, sym, refl, ap, ◌∙◌, subst, inl, inr, mod-lt, arith, length-drop}
use Rattle.std.specs.List.{AllByRecursion}
use Rattle.std.proofs.lemmas.Bool.{cond_both, cond-true, cond-false, cases_eq, ne_eqb}
use Rattle.std.proofs.lemmas.List.{drop-drop, get_or-drop}
use Rattle.wire.specs.Wire.{check_bytes}
use Rattle.wire.proofs.Wires.{length_block}
use Rattle.walk.specs.Fields.{word, count_of, has_check, crc_right, is_torn, part_of, last_of, cause_at, block_at}
use Rattle.walk.specs.Entries.{read, fault, item_at, finishes, scan, entries}
use Rattle.reader.specs.Entered.{Small, Good}
use Rattle.walk.proofs.Scans.{fits, in_order}
use Rattle.walk.proofs.Spans.{block_size}

-- a cause is one of four
cause_four : (a b c d : Bool) → cond a 1 (cond b 2 (cond c 3 (cond d 4 0))) ≤ 4
cause_four true b c d = omega arith
cause_four false true c d = omega arith
cause_four false false true d = omega arith
cause_four false false false true = omega arith
cause_four false false false false = omega arith

cause_most : (bs : List ℕ) → cause_at bs ≤ 4
unfolding cause_at
cause_most bs = cause_four (is_torn bs) (not (crc_right bs)) (ltb (last_of bs) (part_of bs)) (has_check bs && ltb (count_of bs) 9)

-- the message CRC takes four of the bytes
by_check : (t : Bool) (w l : ℕ) → l + length (check_bytes (cond t (Some w) None)) ≤ 51 → l ≤ cond t 47 51
by_check true w l h = omega arith
by_check false w l h = omega arith

-- the block at place p
small_block : (payload : List ℕ) (p : ℕ) (bs : List ℕ) → bs ≡ drop p payload → length payload ≤ 60 → 2 ≤ p → ((i : ℕ) → get_or payload i 0 < 256) → (get_or bs 0 0 ≡ 0 → ⊥) → cause_at bs ≡ 0 → Small (block_at bs)
unfolding block_at
small_block payload p bs e short low typed some h =
    let f = fits bs (λ i. omega arith) in
    let n = block_size bs h in
    let l : length bs ≡ length payload - p = ap length e ∙ length-drop p payload in
    let two : get_or bs 2 0 < 256 = subst (λ x. x < 256) (sym (ap (λ l. get_or l 2 0) e ∙ get_or-drop p payload 2 0)) (typed (p + 2)) in
    let zero : get_or bs 0 0 < 256 = subst (λ x. x < 256) (sym (ap (λ l. get_or l 0 0) e ∙ get_or-drop p payload 0 0)) (typed (p + 0)) in
    let one : 1 ≤ get_or bs 0 0 = elim (cases_eq (get_or bs 0 0) 0) [ inl z ↦ absurd (some z) | inr ne ↦ omega arith ] in
    let last : last_of bs < 4 = mod-lt _ (omega arith) in
    let size = length_block (block_at bs) in
    record {
      number_stands = (one, omega arith);
      version_stands = (let v : get_or bs 2 0 / 16 ≤ 15 = omega arith in v);
      part_stands = in_order bs h;
      last_stands = omega arith;
      length_stands = by_check (has_check bs) (word (drop (count_of bs - 6) bs)) (length (block_at bs).body) (omega (arith, f, n, l, size));
    }

good_item : (payload : List ℕ) (p : ℕ) (bs : List ℕ) → bs ≡ drop p payload → length payload ≤ 60 → 2 ≤ p → ((i : ℕ) → get_or payload i 0 < 256) → (get_or bs 0 0 ≡ 0 → ⊥) → 0 < length bs → Good (item_at p bs)
unfolding item_at
good_item payload p bs e short low typed some any =
    let l : length bs ≡ length payload - p = ap length e ∙ length-drop p payload in
    let most : p ≤ 59 = omega arith in
    let one : 1 ≤ get_or bs 0 0 = elim (cases_eq (get_or bs 0 0) 0) [ inl z ↦ absurd (some z) | inr ne ↦ omega arith ] in
    elim (cases_eq (cause_at bs) 0) [
      | inl z ↦ subst Good (sym (cond-true (eqb (cause_at bs) 0) (read p (block_at bs)) (fault p (cause_at bs) (get_or bs 0 0)) (let t = z in ap (λ c. eqb c 0) t))) (low, most, small_block payload p bs e short low typed some z)
      | inr ne ↦ subst Good (sym (cond-false (eqb (cause_at bs) 0) (read p (block_at bs)) (fault p (cause_at bs) (get_or bs 0 0)) (ne_eqb (cause_at bs) 0 ne))) (low, most, (let h : 1 ≤ cause_at bs = omega arith in h), cause_most bs, one)
    ]

-- the bytes behind the first
tail_is : (payload : List ℕ) (p b : ℕ) (bs : List ℕ) → b ∷ bs ≡ drop p payload → bs ≡ drop (suc p) payload
tail_is payload p b bs e = let n : p + 1 ≡ suc p = omega arith in ap (drop 1) e ∙ drop-drop 1 p payload ∙ ap (λ m. drop m payload) n

all_good : (payload : List ℕ) (k p : ℕ) (bs : List ℕ) → bs ≡ drop p payload → length payload ≤ 60 → 2 ≤ p → ((i : ℕ) → get_or payload i 0 < 256) → AllByRecursion Good (scan k p bs)
unfolding scan
all_good payload zero p [] e short low typed = tt
all_good payload (suc k) p [] e short low typed = tt
all_good payload zero p (b ∷ bs) e short low typed =
    elim (cases_eq b 0) [
      | inl z ↦ subst (AllByRecursion Good) (sym (cond-true (eqb b 0) [] _ (ap (λ c. eqb c 0) z))) tt
      | inr ne ↦ subst (AllByRecursion Good) (sym (cond-false (eqb b 0) [] _ (ne_eqb b 0 ne))) (
        good_item payload p (b ∷ bs) e short low typed ne (omega arith),
        cond_both (finishes (cause_at (b ∷ bs))) [] _ (AllByRecursion Good) (λ _. tt) (λ _. all_good payload (suc (count_of (b ∷ bs))) (suc p) bs (tail_is payload p b bs e) short (omega arith) typed),
      )
    ]
all_good payload (suc k) p (b ∷ bs) e short low typed = all_good payload k (suc p) bs (tail_is payload p b bs e) short (omega arith) typed

pub entries_good : (payload : List ℕ) → length payload ≤ 60 → ((i : ℕ) → get_or payload i 0 < 256) → AllByRecursion Good (entries payload)
entries_good payload short typed = all_good payload 0 2 (drop 2 payload) refl short (omega arith) typed
