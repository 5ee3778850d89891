-- What digits write.
use Rattle.std.specs.Prelude.{ℕ, ◌+◌, ◌-◌, ◌*◌, cond, List, [], ◌∷◌, Some, None, Option, Ok, Err, Result, nat_lt, ◌≡◌, ◌≢◌, codes}
use Rattle.hex.specs.declared.error.FromHexError.{FromHexError}
use Rattle.hex.specs.declared.error.FromHexError.TheVariants.{InvalidHexCharacter, OddLength, InvalidStringLength, OutOfMemory}
use Rattle.words.specs.declared.stop.Stop.{Stop}
use Rattle.words.specs.declared.stop.Stop.TheVariants.{What, Memory}

-- a value with one more decimal digit behind it; none for another character, and above the most
abbrev pub with_digit : ℕ → ℕ → ℕ → Option ℕ
with_digit most value c =
    cond (nat_lt c 48) None (cond (nat_lt 57 c) None (cond (nat_lt most (10 * value + (c - 48))) None (Some (10 * value + (c - 48)))))

-- what follows where there is a value
abbrev pub onward : Option ℕ → (ℕ → Option ℕ) → Option ℕ
onward None next = None
onward (Some value) next = next value

-- a value with more digits behind it
abbrev pub with_digits : ℕ → ℕ → List ℕ → Option ℕ
with_digits most value [] = Some value
with_digits most value (c ∷ cs) = onward (with_digit most value c) (λ v. with_digits most v cs)

-- the number that a word writes: one or more decimal digits, at most so much
abbrev pub number_of : ℕ → List ℕ → Option ℕ
number_of most [] = None
number_of most (c ∷ cs) = with_digits most 0 (c ∷ cs)

-- why a word that fails to be read as hexadecimal stops its case
abbrev pub stop_of : FromHexError → Stop
stop_of (InvalidHexCharacter c i) = What
stop_of OddLength = What
stop_of InvalidStringLength = What
stop_of OutOfMemory = Memory

-- a number that a word writes, as its type has it: by what the conversion may give, and what is read
abbrev pub NumberRead : {T E : Type 0} → (ℕ → Result T E → Type 0) → Option ℕ → Result T Stop → Type 0
NumberRead gives None r = r ≡ Err What
NumberRead gives (Some n) (Ok x) = gives n (Ok x)
NumberRead {E = E} gives (Some n) (Err e) = (e ≡ What) × ((why : E) × gives n (Err why))

-- a result of a word that is none for `-` alone, and else what may be read of the word
abbrev pub OrNone : {T : Type 0} → List ℕ → (Result T Stop → Type 0) → Result (Option T) Stop → Type 0
OrNone word Read (Ok None) = word ≡ codes "-"
OrNone word Read (Ok (Some x)) = (word ≢ codes "-") × Read (Ok x)
OrNone word Read (Err e) = (word ≢ codes "-") × Read (Err e)
