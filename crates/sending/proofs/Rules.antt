-- The rule that every sending keeps: the one file that opens IsSending. What it gives, and what shows it.
use Rattle.std.proofs.Common.{◌≡◌, ℕ, ◌-◌, ◌<◌, ◌≤◌, false, List, [], length, get_or, None, sym, ap, ◌∙◌, subst, arith, Bor}
use Rattle.sending.specs.Sendings.{Sending, IsSending}
use Rattle.sending.specs.Storage.{Plain}
use Rattle.sending.specs.Given.{part_limit, first_long, texts, unsuited}
use Rattle.sending.proofs.Givens.{texts_length, suited, short_parts, limit_most, limit_last}

-- the numbers of a sending
pub numbers : (s : Sending) → IsSending s → (1 ≤ s.number) × (s.number ≤ 255) × (s.version ≤ 15) × (1 ≤ length s.parts) × (length s.parts ≤ 4)
numbers s r = (r.number_stands.0, r.number_stands.1, r.version_stands, r.one_to_four.0, r.one_to_four.1)

-- how long a part is
pub part_short : (s : Sending) → IsSending s → (k : ℕ) → k < length s.parts → length (get_or s.parts k []) ≤ 51
part_short s r k h = r.parts_fit k h

-- what lies in a part
pub part_bytes : (s : Sending) → IsSending s → (k i : ℕ) → k < length s.parts → i < length (get_or s.parts k []) → get_or (get_or s.parts k []) i 0 < 256
part_bytes s r k i h l = r.bytes_stand k i h l

-- what makes a sending
pub rule_of : (n v : ℕ) (ps : List (List ℕ)) → first_long (length ps) 0 ps ≡ None → unsuited n v (length ps) ≡ false → n < 256 → Plain ps → IsSending (record { number = n; version = v; parts = ps })
rule_of n v ps short suits small plain =
    let s = suited n v (length ps) suits in
    let f : (k : ℕ) → k < length ps → length (get_or ps k []) ≤ part_limit (length ps) k =
    λ k h. subst (λ m. length (get_or ps k []) ≤ part_limit (length ps) m) (omega arith) (short_parts (length ps) 0 ps short k h) in
    record {
      number_stands = (s.0, omega arith);
      version_stands = s.1;
      one_to_four = (s.2, s.3);
      parts_fit = λ k h. omega (arith, f k h, limit_most (length ps) k);
      last_fits = λ h. omega (arith, f (length ps - 1) (omega arith), limit_last (length ps) (length ps - 1) h (omega arith));
      bytes_stand = plain;
    }

-- the same, of what lies in given slices
pub rule_given : (n v : ℕ) (given : List (Bor (List ℕ))) (ps : List (List ℕ)) → None ≡ first_long (length (texts given)) 0 (texts given) → false ≡ unsuited n v (length given) → n < 256 → ps ≡ texts given → Plain ps
    → IsSending (record { number = n; version = v; parts = ps })
rule_given n v given ps short suits small is plain =
    rule_of n v ps (ap (λ qs. first_long (length qs) 0 qs) is ∙ sym short) (ap (λ qs. unsuited n v (length qs)) is ∙ ap (unsuited n v) (texts_length given) ∙ sym suits) small plain
