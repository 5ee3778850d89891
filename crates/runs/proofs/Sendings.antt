-- All that the proofs need to know of what makes a sending: it has parts.
use Rattle.std.proofs.Common.{◌≡◌, ℕ, zero, suc, ◌<◌, ◌≤◌, List, [], ◌∷◌, length, get_or, refl, ap, ◌∙◌, arith}
use Rattle.std.specs.List.{flat_map}
use Rattle.std.proofs.lemmas.List.{same_lists, get_or_default}
use Rattle.sending.proofs.Rules.{numbers, rule_of}
use Rattle.sending.specs.Sendings.{Block, Sending, IsSending, last_part, message, block}

pub has_parts : (s : Sending) → IsSending s → 1 ≤ length s.parts
has_parts s is = (numbers s is).3

-- sendings with the same blocks have the same message
pub same_message : (s g : Sending) → IsSending s → IsSending g → ((k : ℕ) → k ≤ last_part s → block s k ≡ block g k)
    → message s ≡ message g
same_message s g one other h = λ i. record { number = same_number i; version = same_version i; bytes = flat_map (λ (p : List ℕ). p) (same_parts i) }
  where
    first : block s 0 ≡ block g 0
    first = h 0 (omega arith)

    same_number : s.number ≡ g.number
    same_number = ap (λ (x : Block). x.number) first

    same_version : s.version ≡ g.version
    same_version = ap (λ (x : Block). x.version) first

    same_last : last_part s ≡ last_part g
    same_last = ap (λ (x : Block). x.last) first

    same_length : length s.parts ≡ length g.parts
    same_length = let c = same_last in let a = has_parts s one in let b = has_parts g other in omega arith

    same_parts : s.parts ≡ g.parts
    same_parts =
        same_lists s.parts g.parts same_length
        (λ k d l.
        get_or_default s.parts k d [] l
        ∙ ap (λ (x : Block). x.body) (h k (omega arith))
        ∙ get_or_default g.parts k [] d (let c = same_length in omega arith))

-- a sending for examples
abbrev pub three : Sending
three = record { number = 7; version = 2; parts = (1 ∷ 2 ∷ []) ∷ (3 ∷ []) ∷ (4 ∷ 5 ∷ []) ∷ [] }

pub three_is : IsSending three
three_is = rule_of 7 2 three.parts refl refl (omega arith) bytes
  where
    bytes : (k i : ℕ) → k < 3 → i < length (get_or three.parts k []) → get_or (get_or three.parts k []) i 0 < 256
    bytes zero zero l m = omega arith
    bytes zero (suc zero) l m = omega arith
    bytes zero (suc (suc i)) l m = absurd (omega arith)
    bytes (suc zero) zero l m = omega arith
    bytes (suc zero) (suc i) l m = absurd (omega arith)
    bytes (suc (suc zero)) zero l m = omega arith
    bytes (suc (suc zero)) (suc zero) l m = omega arith
    bytes (suc (suc zero)) (suc (suc i)) l m = absurd (omega arith)
    bytes (suc (suc (suc k))) i l m = absurd (omega arith)
