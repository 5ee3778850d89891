-- Why bytes are refused as a line.
use Rattle.std.proofs.Common.{◌≡◌, ℕ, ◌+◌, ◌*◌, ◌/◌, ◌%◌, ◌<◌, List, length, get_or, Some, ap, ◌∙◌, inl, inr, arith}
use Rattle.std.proofs.lemmas.List.FromFn.{length-map-range_with_len}
use Rattle.std.proofs.lemmas.Bool.{cond-true, cond-false, cases_Bool, cases_eq, eq-eqb, ne_eqb}
use Rattle.refusal.specs.declared.Refusal.TheVariants.{SampleCount}
use Rattle.line.specs.declared.depth.Depth.{Depth}
use Rattle.line.specs.Lines.{good_count, line_fault}
use Rattle.line.proofs.Sizes.{count_parts}
use Rattle.capture.specs.Readings.{samples_of, bytes_fault}

-- bytes hold half as many samples
pub length_samples : (bytes : List ℕ) → length (samples_of bytes) ≡ length bytes / 2
length_samples bytes = length-map-range_with_len (λ i. get_or bytes (2 * i) 0 + 256 * get_or bytes (2 * i + 1) 0) 0 (length bytes / 2)

-- whole samples are refused as their line is
pub whole_fault : (d : Depth) (bytes : List ℕ) → length bytes % 2 ≡ 0 → bytes_fault d bytes ≡ line_fault d (samples_of bytes)
whole_fault d bytes even = cond-true _ _ _ (eq-eqb (length bytes % 2) 0 even)

-- half a sample is refused
pub odd_fault : (d : Depth) (bytes : List ℕ) → (length bytes % 2 ≡ 0 → ⊥) → bytes_fault d bytes ≡ Some (SampleCount (length bytes / 2))
odd_fault d bytes odd = cond-false _ _ _ (ne_eqb (length bytes % 2) 0 odd)

-- so are more samples than a line has
pub long_fault : (d : Depth) (bytes : List ℕ) → 3840 < length bytes / 2 → bytes_fault d bytes ≡ Some (SampleCount (length bytes / 2))
long_fault d bytes long =
    let size = length_samples bytes in
    elim (cases_eq (length bytes % 2) 0) [
      | inr odd ↦ odd_fault d bytes odd
      | inl even ↦
          elim (cases_Bool (good_count (length (samples_of bytes)))) [
            | inl ok ↦ (let parts = count_parts (length (samples_of bytes)) ok in absurd (let none : ⊥ = omega (arith, parts.2) in none))
            | inr bad ↦ whole_fault d bytes even ∙ cond-false _ _ _ bad ∙ ap (λ n. Some (SampleCount n)) size
          ]
    ]
