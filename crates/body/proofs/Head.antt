-- What is wrong with a content, by what was read of it.
use Rattle.std.proofs.Common.{◌≡◌, ℕ, ◌+◌, ◌-◌, ◌%◌, ◌≤◌, Bool, true, List, [], ◌∷◌, length, take, drop, min, nat_le, nat_lt, Ok, Option, sym, ap, ◌∙◌, arith}
use Rattle.std.specs.Prelude.{slice_index, slice_index_or}
use Rattle.std.proofs.lemmas.List.{get_or-take, get_or-drop}
use Rattle.std.proofs.lemmas.Bool.{ltb-false}
use Rattle.refusal.specs.declared.Refusal.TheVariants.{Body}
use Rattle.buffers.specs.Places.{unless, wrong, part, present, first, shifted}
use Rattle.buffers.proofs.Steps.{clear, not_wrong}
use Rattle.body.specs.declared.message.Time.{Time}
use Rattle.body.specs.Format.{id_place}
use Rattle.body.specs.Identifiers.{length_fits, misspelt}
use Rattle.body.specs.Reading.{reading, type_of, size_of, has_until, until_of, until_fault, time_at, time_fault, id_at, id_of, content_fault}
use Rattle.body.specs.Tests.{content_fault_at_id}
use Rattle.body.proofs.Parts.{there, place_read}

module _ (ok : ℕ → Bool) where
  -- the tests of the identifier are left
  pub id_tests : (b h : List ℕ) (v : Option Time) (p m : ℕ) (o : Option ℕ) → Ok h ≡ unless Body (wrong (nat_lt (length b) 3) (length b)) (take 2 (drop 1 b)) → true ≡ length_fits (slice_index h 0 % 64) (slice_index h 1)
      → Ok v ≡ unless Body (part (nat_le 64 (slice_index h 0 % 128)) (time_fault 3 b)) (present (nat_le 64 (slice_index h 0 % 128)) (time_at 3 b)) → p ≡ id_place v → m ≡ min (length b) (p + slice_index h 1)
      → o ≡ misspelt ok (slice_index h 0 % 64) (take (m - p) (drop p b)) → content_fault ok b ≡ first (shifted p o ∷ wrong (nat_lt (length b) (p + slice_index h 1)) (length b) ∷ [])
  id_tests b h v p m o he fit ue pe me oe =
      let head = clear Body _ _ _ he in
      let l : 3 ≤ length b = ltb-false _ _ (not_wrong _ _ head.0) in
      let ty : slice_index_or h 0 0 ≡ slice_index_or b 1 0 = ap (λ x. slice_index_or x 0 0) head.1 ∙ (get_or-take 2 (drop 1 b) 0 0 (omega arith) ∙ get_or-drop 1 b 0 0) in
      let sz : slice_index_or h 1 0 ≡ size_of b = ap (λ x. slice_index_or x 1 0) head.1 ∙ (get_or-take 2 (drop 1 b) 1 0 (omega arith) ∙ get_or-drop 1 b 1 0) in
      let u : Ok v ≡ reading until_fault until_of b = ue ∙ ap (λ x. unless Body (part (nat_le 64 (x % 128)) (time_fault 3 b)) (present (nat_le 64 (x % 128)) (time_at 3 b))) ty in
      let w = clear Body _ _ _ u in
      let place : p ≡ id_at b = pe ∙ (ap id_place w.1 ∙ place_read (has_until b) (time_at 3 b)) in
      let fits : length_fits (type_of b) (size_of b) ≡ true = sym (fit ∙ (ap (λ x. length_fits (x % 64) (slice_index h 1)) ty ∙ ap (length_fits (type_of b)) sz)) in
      let ids : take (m - p) (drop p b) ≡ id_of b = ap (λ x. take (x - p) (drop p b)) me ∙ (there b p (slice_index h 1) ∙ (ap (λ x. take x (drop p b)) sz ∙ ap (λ x. take (size_of b) (drop x b)) place)) in
      let spelt : o ≡ misspelt ok (type_of b) (id_of b) = oe ∙ (ap (λ x. misspelt ok (x % 64) (take (m - p) (drop p b))) ty ∙ ap (misspelt ok (type_of b)) ids) in
      content_fault_at_id ok b l fits w.0 ∙ (λ i. first (shifted (sym place i) (sym spelt i) ∷ wrong (nat_lt (length b) (sym place i + sym sz i)) (length b) ∷ []))
