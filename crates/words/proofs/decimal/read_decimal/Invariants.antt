use Rattle.std.proofs.Common.{◌≡◌, ◌≤◌, drop}
use Rattle.words.specs.Digits.{with_digits, number_of}
use Rattle.words.proofs.decimal.read_decimal.Given as goal

-- the digits that are left lead from here to where all lead from the start
abbrev pub invariant-loop-c : goal.invariant-loop-c
invariant-loop-c l =
    (with_digits l.most l.value (drop l.c-index l.word) ≡ number_of l.most l.word) × (l.value ≤ l.most)
