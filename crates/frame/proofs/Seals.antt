-- What sealing leaves.
use Rattle.std.proofs.Common.{◌≡◌, ℕ, ◌+◌, ◌-◌, ◌≤◌, List, [], ◌++◌, length, take, drop, replicate, sym, ap, ◌∙◌, append_assoc, append-nil, arith}
use mathlib.Core.Logic.{∥∥₁_map}
use borrow.Rule.Slice.PartMut.{put_mid}
use Rattle.std.proofs.lemmas.List.{length-take-le, length-drop, length-append, length-replicate, drop-drop, drop_all, take_at, replicate-append-replicate}
use Rattle.sending.specs.Sendings.{Block}
use Rattle.frame.specs.Frames.{Holds, Sealed, Filled, SealedOver}

all_cleared : (a : ℕ) (xs ys : List ℕ) → length xs ≡ 60 → a ≤ 60 → ys ≡ replicate (length (take (60 - a) (drop a xs))) 0 → put_mid a (60 - a) xs ys ≡ take a xs ++ replicate (60 - a) 0
all_cleared a xs ys n h e =
    let l : length (take (60 - a) (drop a xs)) ≡ 60 - a = length-take-le (60 - a) (drop a xs) (rw length-drop (omega arith)) in
    let d : drop (60 - a) (drop a xs) ≡ [] = drop-drop (60 - a) a xs ∙ drop_all (a + (60 - a)) xs (omega arith) in
    ap (λ t. take a xs ++ (ys ++ t)) d ∙ ap (λ t. take a xs ++ t) (append-nil ys ∙ e ∙ ap (λ m. replicate m 0) l)

front_zeros : (ps : List ℕ) (n m : ℕ) → length ps ≤ n → n - length ps ≤ m → take n (ps ++ replicate m 0) ≡ ps ++ replicate (n - length ps) 0
front_zeros ps n m h k =
    let z : ℕ = n - length ps in
    let e : replicate z 0 ++ replicate (m - z) 0 ≡ replicate m 0 = replicate-append-replicate z (m - z) 0 ∙ ap (λ i. replicate i 0) (omega arith) in
    ap (take n) (ap (λ t. ps ++ t) (sym e) ∙ sym (append_assoc ps (replicate z 0) (replicate (m - z) 0)))
    ∙ take_at (ps ++ replicate z 0) (replicate (m - z) 0) n (length-append ps (replicate z 0) ∙ ap (λ i. length ps + i) (length-replicate z 0) ∙ omega arith)

-- bytes filled up to a mark and then zeros are sealed over the blocks that they hold
pub holds_sealed : (a n : ℕ) (xs p : List ℕ) → length xs ≡ 60 → 2 ≤ n → a ≤ n → n ≤ 60 → p ≡ take a xs ++ replicate (n - a) 0 → (bs : List Block) → Holds (take a xs) bs → Sealed p bs
holds_sealed a n xs p l low h k e bs f =
    let t : length (take a xs) ≡ a = length-take-le a xs (omega arith) in
    let m : length p ≡ n = ap length e ∙ length-append (take a xs) (replicate (n - a) 0) ∙ ap (λ i. length (take a xs) + i) (length-replicate (n - a) 0) ∙ omega arith in
    record {
      each = f.each;
      zeros = n - a;
      bytes = e ∙ ap (λ q. q ++ replicate (n - a) 0) f.bytes;
      least = omega arith;
      most = omega arith;
    }

module _ (a n : ℕ) (xs ys : List ℕ) (l : length xs ≡ 60) (low : 2 ≤ n) (h : a ≤ n) (k : n ≤ 60) (e : ys ≡ replicate (length (take (60 - a) (drop a xs))) 0) where
  -- the payload: what lies below the mark, and zeros
  pub sealed_payload : take n (put_mid a (60 - a) xs ys) ≡ take a xs ++ replicate (n - a) 0
  sealed_payload =
      let t : length (take a xs) ≡ a = length-take-le a xs (omega arith) in
      ap (take n) (all_cleared a xs ys l (omega arith) e) ∙ front_zeros (take a xs) n (60 - a) (omega arith) (omega arith) ∙ ap (λ i. take a xs ++ replicate (n - i) 0) t

  pub sealed_blocks : (bs : List Block) → Holds (take a xs) bs → Sealed (take n (put_mid a (60 - a) xs ys)) bs
  sealed_blocks bs f = holds_sealed a n xs (take n (put_mid a (60 - a) xs ys)) l low h k sealed_payload bs f

  pub sealed_over : Filled (take a xs) → SealedOver (take n (put_mid a (60 - a) xs ys))
  sealed_over f = ∥∥₁_map f (λ p. (p.0, sealed_blocks p.0 p.1))
