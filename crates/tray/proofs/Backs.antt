-- What is written as a tray is read back, and an accepted tray is what was written.
use Rattle.std.proofs.Common.{◌≡◌, ℕ, ◌+◌, ◌*◌, ◌≤◌, List, [], ◌∷◌, ◌++◌, length, get_or, drop, None, Ok, Err, Result, sym, refl, ap, ◌∙◌, subst, append_assoc, append-nil, arith, length-append, length-drop}
use Rattle.std.specs.List.{flat_map, AllByRecursion}
use Rattle.std.proofs.lemmas.List.{drop_at, get_or_at, drop_more, nil_from_length}
use Rattle.std.proofs.lemmas.Bool.Decides.{nat_tests}
use Rattle.refusal.specs.declared.Refusal.{Refusal}
use Rattle.refusal.specs.declared.Refusal.TheVariants.{Tray}
use Rattle.buffers.specs.Places.{unless}
use Rattle.buffers.proofs.Steps.{clear}
use Rattle.sending.specs.Sendings.{Message}
use Rattle.tray.specs.Trays.{Fault, message_bytes, fault_bytes, fault_section, tray_bytes, IsMessage, IsFault, IsTray}
use Rattle.tray.specs.Reading.{message, fault, message_items, fault_items, entries_in, message_size, message_fault, message_of, messages_of, fault_size, fault_fault, fault_of, faults_fault, faults_of, message_count, section_place, fault_count, count_fault, section_fault, rest_fault, tray_fault, right_only, messages_in, faults_in, tray_items}
use Rattle.tray.specs.Rows.{row_ahead}
use Rattle.tray.specs.Laws.{ReadAs, ReadsBack, OneReading, HasOneReading}
use Rattle.tray.proofs.Writings.{faults_length}
use Rattle.tray.proofs.Rows.{row_back, row_made, ahead_items}
use Rattle.tray.proofs.Ones.{message_laws, fault_laws}
use Rattle.tray.proofs.Openings.{last_5, passed}

-- ---- a whole tray, written and read
pub record Back (ms : List Message) (fs : List Fault) : Type 0 where
  pub right : tray_fault (tray_bytes ms fs) ≡ None
  pub messages : messages_in (tray_bytes ms fs) ≡ ms
  pub faults : faults_in (tray_bytes ms fs) ≡ fs

pub back : (ms : List Message) (fs : List Fault) → IsTray ms fs → Back ms fs
back ms fs g =
    let t = tray_bytes ms fs in
    let n = length ms in
    let k = length fs in
    let js = flat_map message_bytes ms in
    let ys = flat_map fault_bytes fs in
    let q = 1 + length js in
    let few = g.eight_messages in
    let all = g.nine_entries in
    let r = row_back message_fault message_size message_of message_bytes IsMessage message_laws ms 1 (k ∷ ys) g.messages_stand in
    let f = row_back fault_fault fault_size fault_of fault_bytes IsFault fault_laws fs (q + 1) [] g.faults_stand in
    let none = append-nil ys in
    let size : length t ≡ q + 1 + length ys = omega (arith, length-append js (k ∷ ys)) in
    let four = faults_length fs in
    let count : get_or t q 0 ≡ k = get_or_at (n ∷ js) k ys 0 q (omega arith) in
    let same : t ≡ ((n ∷ js) ++ k ∷ []) ++ ys = sym (append_assoc (n ∷ js) (k ∷ []) ys) in
    let rest : drop (q + 1) t ≡ ys = ap (drop (q + 1)) same ∙ drop_at ((n ∷ js) ++ k ∷ []) ys (q + 1) (omega (arith, length-append js (k ∷ []))) in
    let h1 : count_fault t ≡ None = grind (arith, nat_tests) in
    let h3 : section_fault n q t ≡ None = grind (arith, nat_tests) in
    let h4 = ap (faults_fault k (q + 1)) (rest ∙ sym none) ∙ f.0 in
    let h5 : rest_fault (q + 1 + 4 * k) t ≡ None = grind (arith, nat_tests) in
    let right : tray_fault t ≡ None = last_5 t n refl h1 q (sym r.1) r.0 k (sym count) h3 None h4 h5 in
    let counted : fault_count t ≡ k = ap (λ m. get_or t m 0) r.1 ∙ count in
    let past : drop (section_place t + 1) t ≡ ys = ap (λ m. drop (m + 1) t) r.1 ∙ rest in
    record {
      right = right;
      messages = ap (λ o. right_only o (messages_of (message_count t) (drop 1 t))) right ∙ r.2;
      faults = ap (λ o. right_only o (faults_of (fault_count t) (drop (section_place t + 1) t))) right ∙ (λ i. faults_of (counted i) ((past ∙ sym none) i)) ∙ f.2;
    }

-- ---- the most bytes
messages_short : (ms : List Message) → AllByRecursion IsMessage ms → length (flat_map message_bytes ms) ≤ 203 * length ms
messages_short [] good = omega arith
messages_short (m ∷ ms) good =
    let e = messages_short ms good.1 in
    let h = good.0.length_stands in
    omega (arith, length-append (message_bytes m) (flat_map message_bytes ms))

pub short : (ms : List Message) (fs : List Fault) → IsTray ms fs → length (tray_bytes ms fs) ≤ 1630
short ms fs g =
    let few = g.eight_messages in
    let all = g.nine_entries in
    omega (arith, messages_short ms g.messages_stand, faults_length fs, length-append (flat_map message_bytes ms) (fault_section fs))

-- ---- an accepted tray is what was written
some : (t : List ℕ) → 1 ≤ length t → t ≡ get_or t 0 0 ∷ drop 1 t
some [] h = absurd (omega arith)
some (x ∷ t) h = refl

-- where its section of faults stands, and its bytes
pub record Whole (t : List ℕ) : Type 0 where
  pub place : section_place t ≡ 1 + length (flat_map message_bytes (messages_in t))
  pub within : section_place t + 1 ≤ length t
  pub bytes : t ≡ tray_bytes (messages_in t) (faults_in t)
  pub stands : IsTray (messages_in t) (faults_in t)

pub made_of : (t : List ℕ) → tray_fault t ≡ None → Whole t
made_of t right =
    let h = passed t right in
    let n = message_count t in
    let q = section_place t in
    let k = fault_count t in
    let has : 1 ≤ length t = let e = h.count in grind (arith, nat_tests) in
    let few : n ≤ 8 = let e = h.count in grind (arith, nat_tests) in
    let within : q + 1 ≤ length t = let e = h.section in grind (arith, nat_tests) in
    let all : n + k ≤ 9 = let e = h.section in grind (arith, nat_tests) in
    let over : length t ≤ q + 1 + 4 * k = let e = h.rest in grind (arith, nat_tests) in
    let ms = messages_of n (drop 1 t) in
    let ys = drop (q + 1) t in
    let fs = faults_of k ys in
    let m = row_made message_fault message_size message_of message_bytes IsMessage message_laws n 1 (drop 1 t) h.messages in
    let f = row_made fault_fault fault_size fault_of fault_bytes IsFault fault_laws k (q + 1) ys h.faults in
    let js = flat_map message_bytes ms in
    let front : t ≡ (n ∷ js) ++ m.rest = some t has ∙ ap (λ l. n ∷ l) m.split in
    let behind : m.rest ≡ drop q t = sym (ap (drop q) front ∙ drop_at (n ∷ js) m.rest q (omega (arith, m.end))) in
    let section : m.rest ≡ k ∷ ys = behind ∙ drop_more t q 0 (omega arith) in
    let long = length-drop (q + 1) t in
    let sum = ap length f.split ∙ length-append (flat_map fault_bytes fs) f.rest in
    let empty : f.rest ≡ [] = nil_from_length f.rest (omega (arith, faults_length fs, f.count)) in
    let end : ys ≡ flat_map fault_bytes fs = f.split ∙ ap (λ l. flat_map fault_bytes fs ++ l) empty ∙ append-nil (flat_map fault_bytes fs) in
    let a = sym m.count in
    let b = sym f.count in
    let whole : t ≡ tray_bytes ms fs = front ∙ ap (λ l. (n ∷ js) ++ l) section ∙ (λ i. a i ∷ (js ++ (b i ∷ end i))) in
    let im : messages_in t ≡ ms = ap (λ o. right_only o ms) right in
    let if : faults_in t ≡ fs = ap (λ o. right_only o fs) right in
    record {
      place = m.end ∙ ap (λ l. 1 + length (flat_map message_bytes l)) (sym im);
      within = within;
      bytes = whole ∙ (λ i. tray_bytes (sym im i) (sym if i));
      stands =
          subst (λ (l : List Message). IsTray l (faults_in t)) (sym im)
          (subst (λ (l : List Fault). IsTray ms l) (sym if)
          (record { eight_messages = omega (arith, m.count); nine_entries = omega (arith, m.count, f.count); messages_stand = m.stand; faults_stand = f.stand }));
    }

-- its entries, before the first is given
module _ (t : List ℕ) (right : tray_fault t ≡ None) where
  counted : row_ahead (λ p bs. message p (message_of bs)) message_size (message_count t) 1 (drop 1 t) ++ row_ahead (λ p bs. fault p (fault_of bs)) fault_size (fault_count t) (section_place t + 1) (drop (section_place t + 1) t) ≡ entries_in t
  counted =
      let p = passed t right in
      let m = made_of t right in
      let ms = messages_of (message_count t) (drop 1 t) in
      let fs = faults_of (fault_count t) (drop (section_place t + 1) t) in
      let im : ms ≡ messages_in t = sym (ap (λ o. right_only o ms) right) in
      let if : fs ≡ faults_in t = sym (ap (λ o. right_only o fs) right) in
      let place : section_place t + 1 ≡ 2 + length (flat_map message_bytes (messages_in t)) = omega (arith, m.place) in
      let first = ahead_items message_fault message_size message_of message_bytes IsMessage message_laws message (message_count t) 1 (drop 1 t) p.messages in
      let second = ahead_items fault_fault fault_size fault_of fault_bytes IsFault fault_laws fault (fault_count t) (section_place t + 1) (drop (section_place t + 1) t) p.faults in
      (λ i. first i ++ second i) ∙ (λ i. message_items 1 (im i) ++ fault_items (place i) (if i))

  pub entries_are : (n q k : ℕ) → n ≡ message_count t → q ≡ section_place t → k ≡ fault_count t → row_ahead (λ p bs. message p (message_of bs)) message_size n 1 (drop 1 t) ++ row_ahead (λ p bs. fault p (fault_of bs)) fault_size k (q + 1) (drop (q + 1) t) ≡ entries_in t
  entries_are n q k a b d =
      (λ i. row_ahead (λ p bs. message p (message_of bs)) message_size (a i) 1 (drop 1 t) ++ row_ahead (λ p bs. fault p (fault_of bs)) fault_size (d i) (b i + 1) (drop (b i + 1) t)) ∙ counted

-- ---- the laws
read_as : (ms : List Message) (fs : List Fault) → IsTray ms fs → ReadAs (tray_bytes ms fs) ms fs (unless Tray (tray_fault (tray_bytes ms fs)) (tray_bytes ms fs))
read_as ms fs g =
    let b = back ms fs g in
    record {
      accepted = ap (λ o. unless Tray o (tray_bytes ms fs)) b.right;
      entries = (λ i. tray_items (b.messages i) (b.faults i));
      messages = b.messages;
      faults = b.faults;
      short = short ms fs g;
    }

pub reads_back : (t : List ℕ) (answer : Result (List ℕ) Refusal) → answer ≡ unless Tray (tray_fault t) t → ReadsBack t answer
reads_back t answer a ms fs g e =
    subst (λ (r : Result (List ℕ) Refusal). ReadAs t ms fs r) (sym a)
    (subst (λ (l : List ℕ). ReadAs l ms fs (unless Tray (tray_fault l) l)) (sym e) (read_as ms fs g))

one_reading : (t : List ℕ) → tray_fault t ≡ None → OneReading t
one_reading t right =
    let m = made_of t right in
    record {
      stands = m.stands;
      bytes = m.bytes;
      one = λ ms fs g e. let b = back ms fs g in (sym (ap messages_in e ∙ b.messages), sym (ap faults_in e ∙ b.faults));
    }

pub has_one_reading : (t : List ℕ) (answer : Result (List ℕ) Refusal) → answer ≡ unless Tray (tray_fault t) t → HasOneReading t answer
has_one_reading t (Ok x) a = one_reading t (clear Tray (tray_fault t) t x a).0
has_one_reading t (Err e) a = tt
