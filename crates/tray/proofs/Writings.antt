-- What writes into a tray come to: messages behind messages, faults behind faults, a finished tray.
use Rattle.std.proofs.Common.{◌≡◌, ℕ, suc, ◌+◌, ◌*◌, ◌<◌, ◌≤◌, false, eqb, List, [], ◌∷◌, ◌++◌, map, length, get_or, take, drop, set, Some, Option, sym, refl, ap, ◌∙◌, arith, length-append, length-set}
use Rattle.std.specs.List.{flat_map}
use Rattle.std.proofs.lemmas.List.{length-map, length-take-le, take_more, map_push, flat_map_more}
use Rattle.std.proofs.lemmas.Bool.{cond-true, cond-false, or_from, ne_eqb, le-ltb, le-leb}
use Rattle.std.proofs.lemmas.Bool.Decides.{nat_tests}
use Rattle.buffers.specs.Laid.{laid, laying, laid_or_not}
use Rattle.buffers.proofs.Lays.{laid_laid, length_laid, set_laid}
use Rattle.sending.specs.Sendings.{Message}
use Rattle.tray.specs.declared.fault.Fault as code
use Rattle.tray.specs.Trays.{Fault, message_bytes, fault_bytes, fault_section, tray_bytes}
use Rattle.tray.specs.Said.{fault_said}
use Rattle.tray.specs.Writing.{message_unfit, message_put, section_end, section_put, finish_unfit, finish_end, finish_put, Adds, Finishes}

-- faults take four bytes each
pub faults_length : (fs : List Fault) → length (flat_map fault_bytes fs) ≡ 4 * length fs
faults_length [] = refl
faults_length (f ∷ fs) = let e = faults_length fs in omega (arith, e)

-- the section of faults takes a byte and four for each fault
pub section_size : (fs : List Fault) (xs : List code.Fault) → map fault_said xs ≡ fs → length (fault_section fs) ≡ 1 + 4 * length xs
section_size fs xs is = omega (arith, faults_length fs, sym (ap length is), length-map xs fault_said)

-- what laying bytes that fit comes to
pub lays : (t ys : List ℕ) (at : ℕ) → at + length ys ≤ length t → (laying at ys (length t) ≡ Some (at + length ys)) × (laid_or_not at ys t ≡ laid t at ys)
lays t ys at h = (cond-true _ _ _ (le-leb _ _ h), cond-true _ _ _ (le-leb _ _ h))

-- one more fault behind the count k and the first i
pub faults_more : (t now : List ℕ) (from at k i : ℕ) (items : List code.Fault) (f d : code.Fault) → i < length items → at ≡ from + (1 + 4 * i) → at + 4 ≤ length t → now ≡ laid t from (k ∷ flat_map fault_bytes (map fault_said (take i items))) → f ≡ get_or items i d → laid now at (fault_bytes (fault_said f)) ≡ laid t from (k ∷ flat_map fault_bytes (map fault_said (take (i + 1) items)))
faults_more t now from at k i items f d lt place room so_far is =
    let fs = map fault_said (take i items) in
    let size : length (flat_map fault_bytes fs) ≡ 4 * i = faults_length fs ∙ ap (λ n. 4 * n) (length-map (take i items) fault_said ∙ length-take-le i items (omega arith)) in
    let more : flat_map fault_bytes fs ++ fault_bytes (fault_said f) ≡ flat_map fault_bytes (map fault_said (take (i + 1) items)) =
    flat_map_more fault_bytes [] fs (fault_said f) ∙ ap (flat_map fault_bytes) (sym (map_push fault_said (take i items) f) ∙ ap (λ x. map fault_said (take i items ++ x ∷ [])) is ∙ ap (map fault_said) (sym (take_more items i d lt))) in
    ap (λ l. laid l at (fault_bytes (fault_said f))) so_far ∙ laid_laid t from (k ∷ flat_map fault_bytes fs) at (fault_bytes (fault_said f)) (omega arith) (omega arith) ∙ ap (λ l. laid t from (k ∷ l)) more

-- a message written behind others stands behind them
pub adds : (before : List ℕ) (at : ℕ) (m : Message) (after : List ℕ) → after ≡ message_put m at before → Adds before at m after
unfolding message_put
adds before at m after e old ms is place few room =
    let js = flat_map message_bytes ms in
    let size : length (flat_map message_bytes (ms ++ m ∷ [])) ≡ length js + (3 + length m.bytes) = ap length (sym (flat_map_more message_bytes [] ms m)) ∙ length-append js (message_bytes m) ∙ omega arith in
    let long : length before ≡ length old = ap length is ∙ length_laid old 1 js (omega arith) in
    let fit : message_unfit m at (length before) ≡ false = grind (arith, nat_tests) in
    e ∙ cond-false (message_unfit m at (length before)) _ _ fit ∙ ap (λ t. laid t at (message_bytes m)) is ∙ laid_laid old 1 js at (message_bytes m) place (omega arith) ∙ ap (laid old 1) (flat_map_more message_bytes [] ms m)

first_laid : (old xs : List ℕ) (n : ℕ) → 0 < length old → laid (laid old 1 xs) 0 (n ∷ []) ≡ laid old 0 (n ∷ xs)
unfolding laid
first_laid [] xs n h = absurd (omega arith)
first_laid (x ∷ old) xs n h = let e : 1 + length xs ≡ 0 + suc (length xs) = omega arith in ap (λ m. n ∷ (xs ++ drop m (x ∷ old))) e

front_laid : (old xs : List ℕ) → laid old 0 xs ≡ xs ++ drop (length xs) old
unfolding laid
front_laid old xs = let e : 0 + length xs ≡ length xs = omega arith in ap (λ m. xs ++ drop m old) e

-- a tray in which messages stand is finished
pub finishes : (before : List ℕ) (count at : ℕ) (fs : List Fault) (end : Option ℕ) (after : List ℕ) → end ≡ finish_end fs at (length before) → after ≡ finish_put count fs at before → Finishes before count at fs end after
unfolding finish_end finish_put
finishes before count at fs end after e a old ms is counted place room =
    let js = flat_map message_bytes ms in
    let s = fault_section fs in
    let used : length (tray_bytes ms fs) ≡ at + length s = omega (arith, length-append js s) in
    let long : length before ≡ length old = ap length is ∙ length_laid old 1 js (omega arith) in
    let fit : finish_unfit fs at (length before) ≡ false = grind (arith, nat_tests) in
    let first : laid before 0 (count ∷ []) ≡ laid old 0 (length ms ∷ js) = (λ i. laid (is i) 0 (counted i ∷ [])) ∙ first_laid old js (length ms) (omega arith) in
    let both = ap (λ t. laid t at s) first ∙ laid_laid old 0 (length ms ∷ js) at s (omega arith) (omega arith) in
    record {
      used = e ∙ cond-false (finish_unfit fs at (length before)) _ _ fit ∙ ap Some (sym used);
      tray = a ∙ cond-false (finish_unfit fs at (length before)) _ _ fit ∙ both ∙ front_laid old (tray_bytes ms fs);
    }

-- where a tray is finished, the section is written behind the new count
pub finish_fits : (t : List ℕ) (count at : ℕ) (fs : List Fault) → (at ≡ 0 → ⊥) → at + length (fault_section fs) ≤ length t → (section_end fs at (length (set t 0 count)) ≡ finish_end fs at (length t)) × (section_put fs at (set t 0 count) ≡ finish_put count fs at t)
unfolding finish_end finish_put
finish_fits t count at fs some room =
    let long = length-set t 0 count in
    let one = set_laid t 0 count (omega arith) in
    let fit : finish_unfit fs at (length t) ≡ false = or_from (eqb at 0) _ (ne_eqb at 0 some) (le-ltb _ _ (omega arith)) in
    let both = lays (set t 0 count) (fault_section fs) at (omega arith) in
    (both.0 ∙ sym (cond-false (finish_unfit fs at (length t)) _ _ fit), both.1 ∙ ap (λ l. laid l at (fault_section fs)) one ∙ sym (cond-false (finish_unfit fs at (length t)) _ _ fit))
