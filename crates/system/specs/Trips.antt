-- What drawing a payload and reading it back comes to, by what the drawing answers.
use Rattle.std.specs.Prelude.{ℕ, List, ◌++◌, length, drop, Some, Ok, Err, Option, Result}
use Rattle.refusal.specs.declared.Refusal.{Refusal}

-- the payload's length, or what the drawing refuses
abbrev pub back_answer : Result Unit Refusal → List ℕ → Result (Option ℕ) Refusal
back_answer (Ok x) p = Ok (Some (length p))
back_answer (Err e) p = Err e

-- the payload at the front of the buffer, or the buffer as it was
abbrev pub back_buffer : Result (Option ℕ) Refusal → List ℕ → List ℕ → List ℕ
back_buffer (Ok x) p old = p ++ drop (length p) old
back_buffer (Err e) p old = old
