-- Bytes that carry a payload are read as that payload.
use Rattle.std.proofs.Common.{◌≡◌, ℕ, ◌≤◌, List, length, Some, None, Ok, ap, ◌∙◌, inl, inr}
use Rattle.std.proofs.lemmas.Bool.{cond-false, le-ltb}
use Rattle.line.specs.Depths.{depth_of}
use Rattle.line.specs.Lines.{line_fault, read_answer}
use Rattle.system.specs.Either.{found_else}
use Rattle.onex.specs.OneLaws.{one_reading}
use Rattle.twox.specs.TwoX.{two_found}
use Rattle.twox.specs.TwoLaws.{two_reading}
use Rattle.twox.specs.Apart.{none_in_two}
use Rattle.capture.specs.Readings.{samples_of, one_two_found, bytes_answer, bytes_found, Carry}
use Rattle.capture.proofs.Faults.{whole_fault}

carried_legal : (bits : ℕ) (bytes p : List ℕ) (c : Carry bits bytes p) → line_fault c.depth (samples_of bytes) ≡ None
carried_legal bits bytes p c = elim c.carried [ inl one ↦ one.5.legal | inr two ↦ two.2.legal ]

carried_found : (bits : ℕ) (bytes p : List ℕ) (c : Carry bits bytes p) → one_two_found c.depth (samples_of bytes) ≡ Some p
carried_found bits bytes p c =
    let d = c.depth in
    let line = samples_of bytes in
    elim c.carried [
      | inl one ↦ ap (λ f. found_else f (two_found d line)) (one_reading d line p one)
      | inr two ↦ ap (λ f. found_else f (two_found d line)) (none_in_two d d line p two) ∙ two_reading d line p two
    ]

pub found_carried : (bits : ℕ) (bytes p : List ℕ) → Carry bits bytes p → bytes_found (depth_of bits) bytes ≡ Some p
found_carried bits bytes p c = ap (λ d. bytes_found d bytes) c.depth_is ∙ carried_found bits bytes p c

pub answer_carried : (bits : ℕ) (bytes p : List ℕ) (room : ℕ) → Carry bits bytes p → 60 ≤ room → bytes_answer (depth_of bits) bytes room ≡ Ok (Some (length p))
answer_carried bits bytes p room c enough =
    let d = c.depth in
    ap (λ x. bytes_answer x bytes room) c.depth_is
    ∙ ap (λ f. read_answer f (one_two_found d (samples_of bytes)) room) (whole_fault d bytes c.whole ∙ carried_legal bits bytes p c)
    ∙ ap (λ o. read_answer None o room) (carried_found bits bytes p c)
    ∙ cond-false _ _ _ (le-ltb room 60 enough)
