-- Every byte of a sealed payload is one, so that a payload of a drawn length can be drawn.
use Rattle.std.proofs.Common.{◌≡◌, ℕ, zero, suc, ◌<◌, Bool, true, false, cond, ◌&&◌, List, [], ◌∷◌, ◌++◌, length, get_or, replicate, Some, None, Ok, Err, Option, sym, refl, subst, arith}
use mathlib.Core.HLevel.{Π_prop}
use mathlib.Core.Logic.{∥∥₁_elim}
use native.Mathlib.Bridge.{le_prop}
use Rattle.std.specs.List.{AllByRecursion}
use Rattle.std.proofs.ByRecursion.{All-append, All-get_or, All-from_get_or}
use Rattle.refusal.specs.declared.Refusal.TheVariants.{SampleCount, Payload}
use Rattle.crc.specs.Crc.{crc}
use Rattle.line.specs.Lines.{Drawable, good_count, begins, draw_answer}
use Rattle.sending.specs.Sendings.{Sending, Block, IsSending, block}
use Rattle.wire.specs.Wire.{word_bytes, check_bytes, count, head, covered, block_bytes}
use Rattle.sending.proofs.Rules.{numbers, part_short, part_bytes}
use Rattle.wire.proofs.Wires.{length_check}
use Rattle.walk.specs.Laws.{OfASending}
use Rattle.frame.specs.Frames.{wires, Sealed, SealedOver}

-- each is a byte
abbrev Small : List ℕ → Type 0
Small xs = AllByRecursion (λ b. b < 256) xs

small_word : (n : ℕ) → Small (word_bytes n)
small_word n = (omega arith, (omega arith, (omega arith, (omega arith, tt))))

small_check : (c : Option ℕ) → Small (check_bytes c)
small_check None = tt
small_check (Some w) = small_word w

small_zeros : (n : ℕ) → Small (replicate n 0)
small_zeros zero = tt
small_zeros (suc n) = (omega arith, small_zeros n)

small_head : (s : Sending) (i : ℕ) → IsSending s → i < length s.parts → Small (head (block s i))
unfolding head count
small_head s i r h =
    let n = numbers s r in
    (omega (arith, n.1), (omega (arith, part_short s r i h, length_check (block s i).check), (omega (arith, n.2, n.3, n.4), tt)))

small_body : (s : Sending) (i : ℕ) → IsSending s → i < length s.parts → Small (get_or s.parts i [])
small_body s i r h = All-from_get_or (λ b. b < 256) (get_or s.parts i []) 0 (λ k l. part_bytes s r i k h l)

small_block : (s : Sending) (i : ℕ) → IsSending s → i < length s.parts → Small (block_bytes (block s i))
unfolding block_bytes covered
small_block s i r h =
    let b = block s i in
    All-append (λ x. x < 256) ((head b ++ b.body) ++ check_bytes b.check) (word_bytes (crc ((head b ++ b.body) ++ check_bytes b.check)))
    (All-append (λ x. x < 256) (head b ++ b.body) (check_bytes b.check) (All-append (λ x. x < 256) (head b) b.body (small_head s i r h) (small_body s i r h)) (small_check b.check))
    (small_word (crc ((head b ++ b.body) ++ check_bytes b.check)))

small_wires : (bs : List Block) → AllByRecursion OfASending bs → Small (wires bs)
small_wires [] h = tt
small_wires (b ∷ bs) h =
    let s = h.0 in
    All-append (λ x. x < 256) (block_bytes b) (wires bs)
    (subst (λ q. Small (block_bytes q)) (sym s.1.1.2) (small_block s.0 s.1.1.0 s.1.0 s.1.1.1)) (small_wires bs h.1)

-- a sealed payload is bytes
pub sealed_small : (p : List ℕ) (bs : List Block) → Sealed p bs → Small p
sealed_small p bs h =
    subst Small (sym h.bytes) (omega arith, (omega arith, All-append (λ x. x < 256) (wires bs) (replicate h.zeros 0) (small_wires bs h.each) (small_zeros h.zeros)))

pub over_small : (p : List ℕ) → SealedOver p → Small p
over_small p h =
    All-from_get_or (λ b. b < 256) p 0
    (∥∥₁_elim h (Π_prop (λ k. Π_prop (λ l. le_prop))) (λ s k l. All-get_or (λ b. b < 256) p k 0 l (sealed_small p s.0 s.1)))

tests : (a b c : Bool) (n : ℕ) (x : Unit {0}) → Ok x ≡ cond a (cond (b && c) (Ok tt) (Err Payload)) (Err (SampleCount n)) → (a ≡ true) × (b ≡ true) × (c ≡ true)
tests true true true n x e = (refl, refl, refl)
tests true true false n x e = absurd (cc)
tests true false c n x e = absurd (cc)
tests false b c n x e = absurd (cc)

-- a drawing that is not refused is of a payload that can be drawn
pub drawable : (draws : ℕ → Bool) (p : List ℕ) (n : ℕ) (x : Unit {0}) → SealedOver p → Ok x ≡ draw_answer draws p n → (good_count n ≡ true) × Drawable draws p
drawable draws p n x s e =
    let t = tests (good_count n) (draws (length p)) (begins p) n x e in
    (t.0, record { size = t.1; front = t.2; bytes = over_small p s })
