-- A sealed frame's payload can be drawn, and its lines carry it, over any system that shows its laws.
use Rattle.std.proofs.Common.{◌≡◌, ℕ, Bool, true, List, length, ap}
use Rattle.line.specs.Lines.{begins, Drawable, good_count}
use Rattle.sending.specs.Sendings.{Block}
use Rattle.frame.specs.Frames.{Sealed}
use Rattle.frame.proofs.Bytes.{sealed_small}
use Rattle.reader.specs.Marks.{Carrying, EachDrawnOrToleratedLineCarriesItsFrame}

pub sealed_drawable : (draws : ℕ → Bool) (payload : List ℕ) (bs : List Block) → Sealed payload bs → draws (length payload) ≡ true → Drawable draws payload
sealed_drawable draws payload bs sealed size = record { size = size; front = ap begins sealed.bytes; bytes = sealed_small payload bs sealed }

pub lines_carry : (draws : ℕ → Bool) (drawn : List ℕ → ℕ → List ℕ) (tolerates carries : Carrying) →
    ((p : List ℕ) (count : ℕ) → Drawable draws p → good_count count ≡ true → carries (drawn p count) p) →
    ((line p : List ℕ) → tolerates line p → carries line p) →
    EachDrawnOrToleratedLineCarriesItsFrame draws drawn tolerates carries
lines_carry draws drawn tolerates carries drawing tolerance payload bs sealed =
    ((λ count size ok. drawing payload count (sealed_drawable draws payload bs sealed size) ok), (λ line t. tolerance line payload t))
