-- What an offer comes to, in the numbers that a program in C is told.
use Rattle.std.specs.Prelude.{Ok, Err, Result}
use Rattle.refusal.specs.declared.Refusal.{Refusal}
use Rattle.refusal.specs.Refusals.{refusal_number, refusal_place}
use Rattle.runs.specs.Pasts.{Figures}
use Rattle.rounds.specs.declared.answer.OfferReading.{OfferReading}

-- a refusal's number and place, with all figures 0; else number and place 0, and the figures
abbrev pub in_numbers : Result Figures Refusal → OfferReading
in_numbers (Err e) = record { refusal = refusal_number e; place = refusal_place e; length = 0; used = 0; skipped = 0 }
in_numbers (Ok a) = record { refusal = 0; place = 0; length = a.length_found; used = a.used; skipped = a.skipped }
