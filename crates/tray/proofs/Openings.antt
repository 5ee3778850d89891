-- The tests of a whole tray, one after another.
use Rattle.std.proofs.Common.{◌≡◌, ℕ, zero, suc, ◌+◌, ◌-◌, ◌*◌, ◌≤◌, false, List, get_or, drop, is_some, Some, None, Ok, Err, Option, Result, sym, refl, ap, ◌∙◌, arith}
use Rattle.std.proofs.lemmas.Bool.Decides.{nat_tests}
use Rattle.refusal.specs.declared.Refusal.{Refusal}
use Rattle.refusal.specs.declared.Refusal.TheVariants.{Tray}
use Rattle.buffers.specs.Places.{or_else, unless, told}
use Rattle.buffers.proofs.Steps.{skip, stop, both_none, clear}
use Rattle.tray.specs.Rows.{byte_fault, row_end}
use Rattle.tray.specs.Reading.{fault_size, messages_fault, messages_end, faults_fault, message_count, section_place, fault_count, end_place, count_fault, section_fault, rest_fault, tray_fault}

pub none_from : (o : Option ℕ) → is_some o ≡ false → o ≡ None
none_from None h = refl
none_from (Some p) h = absurd (cc)

pub none_to : (o : Option ℕ) → o ≡ None → is_some o ≡ false
none_to o h = ap is_some h

-- a part's refusal is sent back as it is, where the whole fails at the part's place
pub kept : {A B : Type 0} (r : Result A Refusal) (e why : Refusal) (o q : Option ℕ) (x : B) (y : A) → r ≡ Err e → e ≡ why → Err why ≡ unless Tray o x → ((p : ℕ) → o ≡ Some p → q ≡ Some p) → r ≡ unless Tray q y
kept r e why (Some p) q x y h k u w =
    let b : why ≡ Tray p = cc in
    h ∙ ap Err (k ∙ b) ∙ sym (ap (λ t. unless Tray t y) (w p refl))
kept r e why None q x y h k u w = absurd (cc)

-- what is told where nothing is wrong
pub accepted : {A B : Type 0} (f : A → B) (r : Result A Refusal) (o : Option ℕ) (x : B) → o ≡ None → told f r ≡ unless Tray o x → (y : A) × (r ≡ Ok y) × (f y ≡ x)
accepted {B = B} f (Ok y) o x none is = let e : ◌≡◌ {A = Result B Refusal} (Ok (f y)) (Ok x) = is ∙ ap (λ t. unless Tray t x) none in (y, refl, cc)
accepted f (Err e) o x none is = let e : Err e ≡ Ok x = is ∙ ap (λ t. unless Tray t x) none in absurd (cc)

-- where n faults end
pub faults_end : (n p : ℕ) (bs : List ℕ) → row_end fault_size n p bs ≡ p + 4 * n
unfolding row_end
faults_end zero p bs = omega arith
faults_end (suc n) p bs = faults_end n (p + 4) (drop 4 bs) ∙ omega arith

-- the tests of the two counts
pub count_test : (t : List ℕ) → byte_fault 0 8 0 t ≡ count_fault t
count_test t = grind (arith, nat_tests)

pub section_test : (n p : ℕ) (t : List ℕ) → n ≤ 8 → byte_fault 0 (9 - n) p t ≡ section_fault n p t
section_test n p t few = grind (arith, nat_tests)

-- what each test tells, once it is passed
pub counted : (t : List ℕ) (n : ℕ) → Ok n ≡ unless Tray (byte_fault 0 8 0 t) (get_or t 0 0) → (n ≡ message_count t) × (count_fault t ≡ None) × (n ≤ 8)
counted t n h =
    let a = clear Tray (byte_fault 0 8 0 t) (get_or t 0 0) n h in
    let none = a.0 in
    let is = a.1 in
    (a.1, sym (count_test t) ∙ a.0, grind (arith, nat_tests))

pub told_faults : (t : List ℕ) (n q k : ℕ) → n ≤ 8 → Ok k ≡ unless Tray (byte_fault 0 (9 - n) q t) (get_or t q 0) → (k ≡ get_or t q 0) × (section_fault n q t ≡ None)
told_faults t n q k few h =
    let a = clear Tray (byte_fault 0 (9 - n) q t) (get_or t q 0) k h in
    (a.1, sym (section_test n q t few) ∙ a.0)

pub ended : (k q e : ℕ) (bs : List ℕ) → Ok e ≡ unless Tray (faults_fault k (q + 1) bs) (row_end fault_size k (q + 1) bs) → (e ≡ q + 1 + 4 * k) × (faults_fault k (q + 1) bs ≡ None)
ended k q e bs h =
    let a = clear Tray (faults_fault k (q + 1) bs) (row_end fault_size k (q + 1) bs) e h in
    (a.1 ∙ faults_end k (q + 1) bs, a.0)

-- the tests, with what each has read
pub opened : (t : List ℕ) (n q k : ℕ) → n ≡ message_count t → q ≡ messages_end n 1 (drop 1 t) → k ≡ get_or t q 0 → tray_fault t ≡ or_else (count_fault t) (or_else (messages_fault n 1 (drop 1 t)) (or_else (section_fault n q t) (or_else (faults_fault k (q + 1) (drop (q + 1) t)) (rest_fault (q + 1 + 4 * k) t))))
unfolding tray_fault
opened t n q k en eq ek =
    let a = sym en in
    let place : q ≡ section_place t = eq ∙ ap (λ m. messages_end m 1 (drop 1 t)) en in
    let b = sym place in
    let count : k ≡ fault_count t = ek ∙ ap (λ m. get_or t m 0) place in
    let d = sym count in
    λ i. or_else (count_fault t) (or_else (messages_fault (a i) 1 (drop 1 t)) (or_else (section_fault (a i) (b i) t) (or_else (faults_fault (d i) (b i + 1) (drop (b i + 1) t)) (rest_fault (b i + 1 + 4 * d i) t))))

pub stop_1 : (t : List ℕ) (p : ℕ) → count_fault t ≡ Some p → tray_fault t ≡ Some p
stop_1 t p e = opened t _ _ _ refl refl refl ∙ stop _ _ p e

module _ (t : List ℕ) (n : ℕ) (en : n ≡ message_count t) (h1 : count_fault t ≡ None) where
  pub stop_2 : (p : ℕ) → messages_fault n 1 (drop 1 t) ≡ Some p → tray_fault t ≡ Some p
  stop_2 p e = opened t n _ _ en refl refl ∙ skip _ _ h1 ∙ stop _ _ p e

  module _ (q : ℕ) (eq : q ≡ messages_end n 1 (drop 1 t)) (h2 : messages_fault n 1 (drop 1 t) ≡ None) where
    pub stop_3 : (p : ℕ) → section_fault n q t ≡ Some p → tray_fault t ≡ Some p
    stop_3 p e = opened t n q _ en eq refl ∙ skip _ _ h1 ∙ skip _ _ h2 ∙ stop _ _ p e

    module _ (k : ℕ) (ek : k ≡ get_or t q 0) (h3 : section_fault n q t ≡ None) where
      pub stop_4 : (p : ℕ) → faults_fault k (q + 1) (drop (q + 1) t) ≡ Some p → tray_fault t ≡ Some p
      stop_4 p e = opened t n q k en eq ek ∙ skip _ _ h1 ∙ skip _ _ h2 ∙ skip _ _ h3 ∙ stop _ _ p e

      pub last_5 : (o : Option ℕ) → faults_fault k (q + 1) (drop (q + 1) t) ≡ None → rest_fault (q + 1 + 4 * k) t ≡ o → tray_fault t ≡ o
      last_5 o h4 e = opened t n q k en eq ek ∙ skip _ _ h1 ∙ skip _ _ h2 ∙ skip _ _ h3 ∙ skip _ _ h4 ∙ e

-- what an accepted tray has passed
pub record Passed (t : List ℕ) : Type 0 where
  pub count : count_fault t ≡ None
  pub messages : messages_fault (message_count t) 1 (drop 1 t) ≡ None
  pub section : section_fault (message_count t) (section_place t) t ≡ None
  pub faults : faults_fault (fault_count t) (section_place t + 1) (drop (section_place t + 1) t) ≡ None
  pub rest : rest_fault (end_place t) t ≡ None

pub passed : (t : List ℕ) → tray_fault t ≡ None → Passed t
unfolding tray_fault
passed t h =
    let a = both_none _ _ h in
    let b = both_none _ _ a.1 in
    let d = both_none _ _ b.1 in
    let e = both_none _ _ d.1 in
    record { count = a.0; messages = b.0; section = d.0; faults = e.0; rest = e.1 }
