-- One message, and one fault: written, read and passed over.
use Rattle.std.proofs.Common.{◌≡◌, ℕ, ◌+◌, ◌≤◌, List, [], ◌∷◌, ◌++◌, length, get_or, take, drop, None, sym, refl, ap, ◌∙◌, inl, inr, ⊎_elim, arith, length-append, length-drop}
use Rattle.std.proofs.lemmas.List.{take_at, drop-drop, take-append-drop, length-take-le}
use Rattle.std.proofs.lemmas.Bool.{cases_eq}
use Rattle.std.proofs.lemmas.Bool.Decides.{nat_tests}
use Rattle.sending.specs.Sendings.{Message}
use Rattle.tray.specs.Trays.{Fault, message_bytes, fault_bytes, IsMessage, IsFault}
use Rattle.tray.specs.Reading.{message_size, message_fault, message_of, fault_size, fault_fault, fault_of}
use Rattle.tray.proofs.Rows.{Laws}

-- ---- messages
pub message_room : (bs : List ℕ) → message_fault bs ≡ None → message_size bs ≤ length bs
unfolding message_fault
message_room bs h = grind (arith, nat_tests)

good_message : (m : Message) (rest : List ℕ) → IsMessage m → message_fault (message_bytes m ++ rest) ≡ None
unfolding message_fault
good_message m rest g = let e = length-append m.bytes rest in let a = g.number_stands in let b = g.version_stands in let d = g.length_stands in grind (arith, nat_tests)

message_back : (m : Message) (rest : List ℕ) → message_of (message_bytes m ++ rest) ≡ m
message_back m rest = λ i. record { number = m.number; version = m.version; bytes = take_at m.bytes rest (length m.bytes) refl i }

message_length : (bs : List ℕ) → message_fault bs ≡ None → length (message_bytes (message_of bs)) ≡ message_size bs
message_length bs h =
    let room = message_room bs h in
    omega (arith, length-take-le (get_or bs 2 0) (drop 3 bs) (omega (arith, length-drop 3 bs)))

message_split : (bs : List ℕ) → message_fault bs ≡ None → bs ≡ message_bytes (message_of bs) ++ drop (message_size bs) bs
message_split [] h = let r = message_room [] h in absurd (omega arith)
message_split (a ∷ []) h = let r = message_room (a ∷ []) h in absurd (omega arith)
message_split (a ∷ b ∷ []) h = let r = message_room (a ∷ b ∷ []) h in absurd (omega arith)
message_split (a ∷ b ∷ n ∷ xs) h =
    let r = message_room (a ∷ b ∷ n ∷ xs) h in
    let size : n ≡ length (take n xs) = sym (length-take-le n xs (omega arith)) in
    let rest : xs ≡ take n xs ++ drop (3 + n) (a ∷ b ∷ n ∷ xs) = sym (take-append-drop n xs) ∙ ap (λ l. take n xs ++ l) (drop-drop n 3 (a ∷ b ∷ n ∷ xs)) in
    λ i. a ∷ b ∷ size i ∷ rest i

message_stands : (bs : List ℕ) → message_fault bs ≡ None → IsMessage (message_of bs)
unfolding message_fault
message_stands bs h =
    let r = message_room bs h in
    let size = length-take-le (get_or bs 2 0) (drop 3 bs) (omega (arith, length-drop 3 bs)) in
    let few : get_or bs 2 0 ≤ 200 = grind (arith, nat_tests) in
    record { number_stands = grind (arith, nat_tests); version_stands = grind (arith, nat_tests); length_stands = omega arith }

pub message_laws : Laws Message message_fault message_size message_of message_bytes IsMessage
message_laws = record { good = good_message; back = message_back; long = λ m rest. omega arith; split = message_split; sized = message_length; stands = message_stands }

-- ---- faults
pub fault_room : (bs : List ℕ) → fault_fault bs ≡ None → 4 ≤ length bs
unfolding fault_fault
fault_room bs h = grind (arith, nat_tests)

good_fault : (f : Fault) (rest : List ℕ) → IsFault f → fault_fault (fault_bytes f ++ rest) ≡ None
unfolding fault_fault
good_fault f rest g = let a = g.cause_stands in let k = g.layer_stands in let b = g.number_stands in let d = g.place_stands.0 in let h = g.place_stands.1 in grind (arith, nat_tests)

fault_split : (bs : List ℕ) → fault_fault bs ≡ None → bs ≡ fault_bytes (fault_of bs) ++ drop 4 bs
fault_split [] h = let r = fault_room [] h in absurd (omega arith)
fault_split (a ∷ []) h = let r = fault_room (a ∷ []) h in absurd (omega arith)
fault_split (a ∷ b ∷ []) h = let r = fault_room (a ∷ b ∷ []) h in absurd (omega arith)
fault_split (a ∷ b ∷ d ∷ []) h = let r = fault_room (a ∷ b ∷ d ∷ []) h in absurd (omega arith)
fault_split (a ∷ b ∷ d ∷ e ∷ xs) h = refl

fault_stands : (bs : List ℕ) → fault_fault bs ≡ None → IsFault (fault_of bs)
unfolding fault_fault
fault_stands bs h =
    record {
      cause_stands = grind (arith, nat_tests);
      layer_stands =
          ⊎_elim
          (λ (e : get_or bs 0 0 ≡ 1). inl (e, grind (arith, nat_tests)))
          (λ (n : get_or bs 0 0 ≡ 1 → ⊥). inr (grind (arith, nat_tests), grind (arith, nat_tests)))
          (cases_eq (get_or bs 0 0) 1);
      number_stands = grind (arith, nat_tests);
      place_stands = (grind (arith, nat_tests), grind (arith, nat_tests));
    }

pub fault_laws : Laws Fault fault_fault fault_size fault_of fault_bytes IsFault
fault_laws = record { good = good_fault; back = λ f rest. refl; long = λ f rest. refl; split = fault_split; sized = λ bs h. refl; stands = fault_stands }
