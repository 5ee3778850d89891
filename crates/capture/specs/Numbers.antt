-- What a reading comes to, in the numbers that a program in C is told.
use Rattle.std.specs.Prelude.{ℕ, Some, None, Ok, Err, Option, Result}
use Rattle.refusal.specs.declared.Refusal.{Refusal}
use Rattle.refusal.specs.Refusals.{refusal_number, refusal_place}
use Rattle.capture.specs.declared.answer.LineReading.{LineReading}

-- a refusal's number and place, with length 0; else number and place 0, and the payload's length, 0 where no run-in is found
abbrev pub in_numbers : Result (Option ℕ) Refusal → LineReading
in_numbers (Err e) = record { refusal = refusal_number e; place = refusal_place e; length = 0 }
in_numbers (Ok None) = record { refusal = 0; place = 0; length = 0 }
in_numbers (Ok (Some n)) = record { refusal = 0; place = 0; length = n }
