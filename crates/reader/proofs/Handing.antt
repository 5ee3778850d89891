-- A message handed over stands behind those before it.
use Rattle.std.proofs.Common.{◌≡◌, ℕ, ◌+◌, ◌*◌, ◌≤◌, ◌||◌, List, [], ◌∷◌, ◌++◌, length, Some, None, ap, arith}
use Rattle.std.specs.List.{flat_map, AllByRecursion}
use Rattle.std.proofs.lemmas.List.{flat_map_more, length-append}
use Rattle.std.proofs.lemmas.Bool.{cond-false, le-ltb}
use Rattle.buffers.proofs.Lays.{length_laid}
use Rattle.sending.specs.Sendings.{Message}
use Rattle.tray.specs.Trays.{message_bytes, IsMessage}
use Rattle.tray.specs.Writing.{message_unfit, message_end, holding, behind}

-- the place behind one message more
pub behind_more : (ms : List Message) (m : Message) → behind (ms ++ m ∷ []) ≡ behind ms + length (message_bytes m)
behind_more ms m = let e = ap length (flat_map_more message_bytes [] ms m) in let n = length-append (flat_map message_bytes ms) (message_bytes m) in omega arith

-- a message that fits is written, and ends behind itself
pub message_fits : (m : Message) (at n : ℕ) → length m.bytes ≤ 200 → at + length (message_bytes m) ≤ n → message_end m at n ≡ Some (at + length (message_bytes m))
unfolding message_end
message_fits m at n short room =
    cond-false (message_unfit m at n) None (Some (at + length (message_bytes m))) (λ i. le-ltb 200 (length m.bytes) short i || le-ltb n (at + length (message_bytes m)) room i)

-- what stands in a tray keeps its length
pub holding_length : (old : List ℕ) (ms : List Message) → behind ms ≤ length old → length (holding old ms) ≡ length old
holding_length old ms h = length_laid old 1 (flat_map message_bytes ms) h

-- messages of at most 200 bytes each
pub behind_most : (ms : List Message) → AllByRecursion IsMessage ms → behind ms ≤ 1 + 203 * length ms
behind_most [] e = omega arith
behind_most (m ∷ ms) e =
    let t = behind_most ms e.1 in
    let l = e.0.length_stands in
    let n = length-append (message_bytes m) (flat_map message_bytes ms) in
    omega arith

pub every_more : {X : Type 0} (P : X → Type 0) (xs : List X) (x : X) → AllByRecursion P xs → P x → AllByRecursion P (xs ++ x ∷ [])
every_more P [] x e p = (p, tt)
every_more P (y ∷ ys) x e p = (e.0, every_more P ys x e.1 p)
