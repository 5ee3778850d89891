-- Which block is meant, and the block's check.
use Rattle.std.proofs.Common.{◌≡◌, ℕ, ◌<◌, ◌≤◌, List, [], length, get_or, Some, None, Ok, Err, sym, arith}
use Rattle.std.specs.List.{slice_get}
use Rattle.refusal.specs.declared.Refusal.TheVariants.{NotOfASending}
use Rattle.std.proofs.lemmas.Bool.Decides.{nat_tests}
use Rattle.std.proofs.lemmas.Option.{slice_get-get_or, slice_get_within, get_or_from_slice_get}
use Rattle.sending.specs.Sendings.{Sending, block}
use Rattle.sending.specs.Wanted.{wanted}

pub block_none : (s : Sending) (i : ℕ) → None ≡ slice_get s.parts i → Err NotOfASending ≡ wanted s i
unfolding wanted
block_none s i e = grind (arith, nat_tests, slice_get-get_or s.parts i [])

pub block_some : (s : Sending) (i : ℕ) (p : List ℕ) → Some p ≡ slice_get s.parts i → (p ≡ get_or s.parts i []) × (Ok (block s i) ≡ wanted s i)
unfolding wanted
block_some s i p e =
    let h : i < length s.parts = slice_get_within s.parts i p (sym e) in
    (sym (get_or_from_slice_get s.parts i p [] (sym e)), grind (arith, nat_tests))

-- a block above the last carries no message CRC
pub check_none : (s : Sending) (i : ℕ) → length s.parts ≤ i → None ≡ (block s i).check
check_none s i h = grind (arith, nat_tests)
