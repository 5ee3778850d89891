-- The tests of a content ID body, one after another.
use Rattle.std.specs.Prelude.{◌≡◌, ℕ, ◌<◌, ◌≤◌, Bool, true, List, length, Some, None, Option, nat_lt, slice_index}
use Rattle.std.proofs.Common.{◌∙◌}
use Rattle.std.proofs.lemmas.Bool.{le-ltb, lt-ltb, not_from_true}
use Rattle.buffers.specs.Places.{wrong, or_else}
use Rattle.buffers.proofs.Steps.{skip, stop, only, passes, fails}
use Rattle.body.specs.Identifiers.{length_fits}
use Rattle.body.specs.Reading.{type_of, size_of, channel_at, end_of, until_fault, id_fault, content_fault, content_part_fault, channel_part_fault, content_id_fault}

abbrev pub channel_part : List ℕ → Option ℕ
channel_part b = channel_part_fault (channel_at b) b

abbrev pub end_part : List ℕ → Option ℕ
end_part b = wrong (nat_lt (end_of b) (length b)) (end_of b)

module _ (ok : ℕ → Bool) where
  pub content_fault_at_id : (b : List ℕ) → 3 ≤ length b → length_fits (type_of b) (size_of b) ≡ true → until_fault b ≡ None → content_fault ok b ≡ id_fault ok b
  content_fault_at_id b h f u =
      skip _ _ (passes _ (length b) (le-ltb _ _ h)) ∙ (skip _ _ (passes _ 2 (not_from_true _ f)) ∙ (skip (until_fault b) _ u ∙ only (id_fault ok b)))

  pub empty_fault : (b : List ℕ) → length b < 1 → content_id_fault ok b ≡ Some (length b)
  unfolding content_id_fault
  empty_fault b h = stop _ _ _ (fails _ (length b) (lt-ltb _ _ h))

  pub flags_fault : (b : List ℕ) → 1 ≤ length b → slice_index b 0 < 64 → content_id_fault ok b ≡ Some 0
  unfolding content_id_fault
  flags_fault b h k = skip _ _ (passes _ (length b) (le-ltb _ _ h)) ∙ stop _ _ _ (fails _ 0 (lt-ltb _ _ k))

  pub fault_at_content : (b : List ℕ) → 1 ≤ length b → 64 ≤ slice_index b 0 → content_id_fault ok b ≡ or_else (content_part_fault ok b) (or_else (channel_part b) (or_else (end_part b) None))
  unfolding content_id_fault
  fault_at_content b h k = skip _ _ (passes _ (length b) (le-ltb _ _ h)) ∙ skip _ _ (passes _ 0 (le-ltb _ _ k))

  pub fault_at_channel : (b : List ℕ) → 1 ≤ length b → 64 ≤ slice_index b 0 → content_part_fault ok b ≡ None → content_id_fault ok b ≡ or_else (channel_part b) (or_else (end_part b) None)
  fault_at_channel b h k e = fault_at_content b h k ∙ skip (content_part_fault ok b) _ e

  pub fault_at_end : (b : List ℕ) → 1 ≤ length b → 64 ≤ slice_index b 0 → content_part_fault ok b ≡ None → channel_part b ≡ None → content_id_fault ok b ≡ end_part b
  fault_at_end b h k e d = fault_at_channel b h k e ∙ (skip (channel_part b) _ d ∙ only (end_part b))

  pub content_fault_until : (b : List ℕ) (p : ℕ) → 3 ≤ length b → length_fits (type_of b) (size_of b) ≡ true → until_fault b ≡ Some p → content_fault ok b ≡ Some p
  content_fault_until b p h f u =
      skip _ _ (passes _ (length b) (le-ltb _ _ h)) ∙ (skip _ _ (passes _ 2 (not_from_true _ f)) ∙ stop (until_fault b) _ p u)
