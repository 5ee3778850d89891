-- What asking for a block answers, how long it is, and what writing it answers and leaves.
use Rattle.std.proofs.Common.{◌≡◌, ℕ, ◌+◌, ◌<◌, ◌≤◌, List, [], length, Ok, Err, Result, sym, refl, ap, ◌∙◌, ⊎_elim, arith}
use Rattle.refusal.specs.declared.Refusal.{Refusal}
use Rattle.refusal.specs.declared.Refusal.TheVariants.{OutputLength, NotOfASending}
use Rattle.std.specs.Result.{result_unwrap_or}
use Rattle.std.proofs.lemmas.List.{get_or_past}
use Rattle.std.proofs.lemmas.Bool.Decides.{nat_tests}
use Rattle.std.proofs.lemmas.Bool.{cases_lt}
use Rattle.buffers.specs.Laid.{laid}
use Rattle.sending.specs.Sendings.{Sending, Block, IsSending, block}
use Rattle.wire.specs.Wire.{check_bytes, block_bytes, Fits}
use Rattle.wire.specs.Writing.{size, wanted_size, writing, written}
use Rattle.sending.specs.Wanted.{wanted}
use Rattle.sending.proofs.Rules.{numbers, part_short}
use Rattle.sending.proofs.Wants.{check_none}
use Rattle.wire.proofs.Wires.{length_block, length_check}

module _ (s : Sending) (i : ℕ) where
  pub wanted_ok : (b : Block) → Ok b ≡ wanted s i → (i < length s.parts) × (b ≡ block s i)
  unfolding wanted
  wanted_ok b e = grind (arith, nat_tests)

  pub wanted_err : (r : Refusal) → Err r ≡ wanted s i → (length s.parts ≤ i) × (r ≡ NotOfASending)
  unfolding wanted
  wanted_err r e = grind (arith, nat_tests)

  pub size_is : size s i ≡ length (block_bytes (block s i))
  unfolding size
  size_is = refl

  pub size_above : length s.parts ≤ i → size s i ≡ 7
  unfolding size
  size_above h =
      let none : length (check_bytes (block s i).check) ≡ 0 = ap (λ k. length (check_bytes k)) (sym (check_none s i h)) in
      omega (arith, length_block (block s i), none, ap length (get_or_past s.parts i [] h))

  pub size_some : 7 ≤ size s i
  unfolding size
  size_some = omega (arith, length_block (block s i))

  pub size_most : IsSending s → i < length s.parts → size s i ≤ 62
  unfolding size
  size_most r h = omega (arith, length_block (block s i), length_check (block s i).check, part_short s r i h)

  pub fits : IsSending s → i < length s.parts → Fits (block s i)
  fits r h = let n = numbers s r in record { body = part_short s r i h; version = omega arith; part = omega arith; last = omega arith }

  pub length_none : length s.parts ≤ i → Err NotOfASending ≡ wanted_size s i
  unfolding wanted_size
  length_none h = grind (arith, nat_tests)

  pub length_some : i < length s.parts → Ok (size s i) ≡ wanted_size s i
  unfolding wanted_size
  length_some h = grind (arith, nat_tests)

  -- the length, with that of a block without body where there is none
  pub size_found : (r : Result ℕ Refusal) (n : ℕ) → r ≡ wanted_size s i → n ≡ result_unwrap_or r 7 → n ≡ size s i
  size_found r n e is =
      is ∙ ap (λ r. result_unwrap_or r 7) e
      ∙ ⊎_elim
      (λ (h : i < length s.parts). ap (λ r. result_unwrap_or r 7) (sym (length_some h)))
      (λ (h : length s.parts ≤ i). ap (λ r. result_unwrap_or r 7) (sym (length_none h)) ∙ sym (size_above h))
      (cases_lt i (length s.parts))

  module _ (at : ℕ) (out : List ℕ) where
    pub write_short : length out < at + size s i → (Err (OutputLength (length out)) ≡ writing s i at (length out)) × (out ≡ written s i at out)
    unfolding writing written
    write_short h = (grind (arith, nat_tests), grind (arith, nat_tests))

    pub write_above : at + size s i ≤ length out → length s.parts ≤ i → (Err NotOfASending ≡ writing s i at (length out)) × (out ≡ written s i at out)
    unfolding writing written
    write_above h l = (grind (arith, nat_tests), grind (arith, nat_tests))

    pub write_fits : at + size s i ≤ length out → i < length s.parts → (Ok (at + size s i) ≡ writing s i at (length out)) × (laid out at (block_bytes (block s i)) ≡ written s i at out)
    unfolding writing written
    write_fits h l = (grind (arith, nat_tests), grind (arith, nat_tests))
