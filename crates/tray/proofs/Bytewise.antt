-- What reading one entry comes to, byte by byte.
use Rattle.std.proofs.Common.{◌≡◌, ℕ, ◌+◌, ◌<◌, ◌≤◌, ◌⊎◌, List, length, get_or, take, drop, Some, None, sym, ap, ◌∙◌, subst, arith, length-drop}
use Rattle.std.proofs.lemmas.List.{get_or-drop, drop-drop}
use Rattle.std.proofs.lemmas.Bool.Decides.{nat_tests}
use Rattle.buffers.specs.Places.{shifted}
use Rattle.sending.specs.Sendings as sending
use Rattle.walk.specs.declared.entry.Cause.TheVariants.{Torn, Crc, Part, Short}
use Rattle.tray.specs.declared.cause.Cause.{Cause}
use Rattle.tray.specs.declared.cause.Cause.TheVariants.{Block, Message}
use Rattle.tray.specs.Rows.{byte_fault}
use Rattle.tray.specs.Trays.{Fault}
use Rattle.tray.specs.Causes.{numbers, most_cause}
use Rattle.tray.specs.Reading.{message_fault, message_of, fault_fault, fault_of}

-- each cause is one of its layer's
few_causes : (c : Cause) → (numbers c).1 ≤ most_cause (numbers c).0
few_causes (Block Torn) = omega arith
few_causes (Block Crc) = omega arith
few_causes (Block Part) = omega arith
few_causes (Block Short) = omega arith
few_causes Message = omega arith

pub few_read : (c : Cause) (layer number x y : ℕ) → numbers c ≡ (layer, number) → layer ≡ x → number ≡ y → y ≤ most_cause x
few_read c layer number x y e a b =
    subst (λ n. y ≤ most_cause n) (ap (λ (q : ℕ × ℕ). q.0) e ∙ a) (subst (λ n. n ≤ most_cause (numbers c).0) (ap (λ (q : ℕ × ℕ). q.1) e ∙ b) (few_causes c))

-- the bytes from place p on
module _ (p : ℕ) (t : List ℕ) where
  first : get_or (drop p t) 0 0 ≡ get_or t p 0
  first = let e : p + 0 ≡ p = omega arith in get_or-drop p t 0 0 ∙ ap (λ n. get_or t n 0) e

  byte : (k : ℕ) → get_or (drop p t) k 0 ≡ get_or t (p + k) 0
  byte k = get_or-drop p t k 0

  -- ---- a message
  pub number_stop : get_or t p 0 < 256 → (q : ℕ) → byte_fault 1 255 p t ≡ Some q → shifted p (message_fault (drop p t)) ≡ Some q
  unfolding message_fault
  number_stop small q e = let a = first in let l = length-drop p t in grind (arith, nat_tests)

  module _ (h0 : byte_fault 1 255 p t ≡ None) where
    pub version_stop : (q : ℕ) → byte_fault 0 15 (p + 1) t ≡ Some q → shifted p (message_fault (drop p t)) ≡ Some q
    unfolding message_fault
    version_stop q e = let a = first in let b = byte 1 in let l = length-drop p t in grind (arith, nat_tests)

    module _ (h1 : byte_fault 0 15 (p + 1) t ≡ None) where
      pub length_stop : (q : ℕ) → byte_fault 0 200 (p + 2) t ≡ Some q → shifted p (message_fault (drop p t)) ≡ Some q
      unfolding message_fault
      length_stop q e = let a = first in let b = byte 1 in let d = byte 2 in let l = length-drop p t in grind (arith, nat_tests)

      module _ (h2 : byte_fault 0 200 (p + 2) t ≡ None) where
        pub bytes_stop : length t < p + 3 + get_or t (p + 2) 0 → shifted p (message_fault (drop p t)) ≡ Some (length t)
        unfolding message_fault
        bytes_stop e = let a = first in let b = byte 1 in let d = byte 2 in let l = length-drop p t in grind (arith, nat_tests)

        pub message_right : p + 3 + get_or t (p + 2) 0 ≤ length t → shifted p (message_fault (drop p t)) ≡ None
        unfolding message_fault
        message_right e = let a = first in let b = byte 1 in let d = byte 2 in let l = length-drop p t in grind (arith, nat_tests)

  -- the message that was read
  pub message_is : (number version size : ℕ) (bytes : List ℕ) → number ≡ get_or t p 0 → version ≡ get_or t (p + 1) 0 → size ≡ get_or t (p + 2) 0 → bytes ≡ take size (drop (p + 3) t) → ◌≡◌ {A = sending.Message} (record { number = number; version = version; bytes = bytes }) (message_of (drop p t))
  message_is number version size bytes a b d e =
      let n = a ∙ sym first in
      let v = b ∙ sym (byte 1) in
      let s = d ∙ sym (byte 2) in
      let rest = sym (drop-drop 3 p t) in
      λ i. record { number = n i; version = v i; bytes = (e ∙ (λ j. take (s j) (rest j))) i }

  -- ---- a fault
  pub layer_stop : (q : ℕ) → byte_fault 1 2 p t ≡ Some q → shifted p (fault_fault (drop p t)) ≡ Some q
  unfolding fault_fault
  layer_stop q e = let a = first in let l = length-drop p t in grind (arith, nat_tests)

  module _ (h0 : byte_fault 1 2 p t ≡ None) where
    pub cause_lacks : get_or t (p + 1) 0 < 256 → (q : ℕ) → byte_fault 1 255 (p + 1) t ≡ Some q → shifted p (fault_fault (drop p t)) ≡ Some q
    unfolding fault_fault
    cause_lacks small q e = let a = first in let b = byte 1 in let l = length-drop p t in grind (arith, nat_tests)

    module _ (h1 : byte_fault 1 255 (p + 1) t ≡ None) where
      pub cause_stop : (get_or t (p + 1) 0 ≡ 0) ⊎ (most_cause (get_or t p 0) < get_or t (p + 1) 0) → shifted p (fault_fault (drop p t)) ≡ Some (p + 1)
      unfolding fault_fault
      cause_stop e = let a = first in let b = byte 1 in let l = length-drop p t in grind (arith, nat_tests)

      module _ (few : get_or t (p + 1) 0 ≤ most_cause (get_or t p 0)) where
        pub number_lacks : get_or t (p + 2) 0 < 256 → (q : ℕ) → byte_fault 1 255 (p + 2) t ≡ Some q → shifted p (fault_fault (drop p t)) ≡ Some q
        unfolding fault_fault
        number_lacks small q e = let a = first in let b = byte 1 in let d = byte 2 in let l = length-drop p t in grind (arith, nat_tests)

        module _ (h2 : byte_fault 1 255 (p + 2) t ≡ None) where
          pub place_stop : (q : ℕ) → byte_fault 2 59 (p + 3) t ≡ Some q → shifted p (fault_fault (drop p t)) ≡ Some q
          unfolding fault_fault
          place_stop q e = let a = first in let b = byte 1 in let d = byte 2 in let f = byte 3 in let l = length-drop p t in grind (arith, nat_tests)

          pub fault_right : byte_fault 2 59 (p + 3) t ≡ None → shifted p (fault_fault (drop p t)) ≡ None
          unfolding fault_fault
          fault_right e = let a = first in let b = byte 1 in let d = byte 2 in let f = byte 3 in let l = length-drop p t in grind (arith, nat_tests)

  -- the fault that was read
  pub fault_is : (layer cause number place : ℕ) → layer ≡ get_or t p 0 → cause ≡ get_or t (p + 1) 0 → number ≡ get_or t (p + 2) 0 → place ≡ get_or t (p + 3) 0 → ◌≡◌ {A = Fault} (record { layer = layer; cause = cause; number = number; place = place }) (fault_of (drop p t))
  fault_is layer cause number place a b d e =
      let l = a ∙ sym first in
      let c = b ∙ sym (byte 1) in
      let n = d ∙ sym (byte 2) in
      let q = e ∙ sym (byte 3) in
      λ i. record { layer = l i; cause = c i; number = n i; place = q i }
