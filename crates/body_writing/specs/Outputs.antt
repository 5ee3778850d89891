-- What writing answers and leaves: by the place of a wrong value, the body, and the output that is lent.
use Rattle.std.specs.Prelude.{◌≡◌, ℕ, ◌+◌, ◌≤◌, cond, List, [], length, Some, None, Err, Option, Result, nat_lt}
use Rattle.buffers.specs.Laid.{laid}
use Rattle.buffers.specs.Places.{unless}
use Rattle.refusal.specs.declared.Refusal.{Refusal}
use Rattle.refusal.specs.declared.Refusal.TheVariants.{OutputLength, Body}
use Rattle.body.specs.Format.{Reserved, ones}
use Rattle.body.specs.Messages.{Said}

-- an output too short for a body is refused first, with its length; then a wrong value, at its place; else the answer is the body's length
abbrev pub answer_for : Option ℕ → List ℕ → List ℕ → Result ℕ Refusal
answer_for wrong body out = cond (nat_lt (length out) (length body)) (Err (OutputLength (length out))) (unless Body wrong (length body))

-- a message with a wrong value leaves the output as it was, any other is written at its front, and the bytes past it stay
abbrev pub left : Option ℕ → List ℕ → List ℕ → List ℕ
left (Some p) body out = out
left None body out = laid out 0 body

-- an output too short stays as it was
abbrev pub output_for : Option ℕ → List ℕ → List ℕ → List ℕ
output_for wrong body out = cond (nat_lt (length out) (length body)) out (left wrong body out)

-- what writing a message answers, by its format: its wrong values and its bytes, reserved bits as ones
abbrev pub write_answer : (Said → Option ℕ) → (Reserved → Said → List ℕ) → Said → List ℕ → Result ℕ Refusal
write_answer wrong bytes m out = answer_for (wrong m) (bytes ones m) out

-- every byte of the output afterwards
abbrev pub output_after : (Said → Option ℕ) → (Reserved → Said → List ℕ) → Said → List ℕ → List ℕ
output_after wrong bytes m out = output_for (wrong m) (bytes ones m) out

-- the bytes of a part, none where it lacks
abbrev pub or_nothing : Option (List ℕ) → List ℕ
or_nothing (Some bytes) = bytes
or_nothing None = []

-- where bytes fit at a place they are written there, and the answer is where they end
abbrev pub Lays : ℕ → List ℕ → List ℕ → Option ℕ → List ℕ → Type 0
Lays at bytes old result new = at + length bytes ≤ length old → (result ≡ Some (at + length bytes)) × (new ≡ laid old at bytes)
