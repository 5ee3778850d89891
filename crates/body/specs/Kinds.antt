-- Which message numbers are of which kind.
use Rattle.std.specs.Prelude.{◌≡◌, ℕ, ◌+◌, ◌<◌, ◌≤◌, Bool, true, false, cond, not, ◌&&◌, ◌||◌, Some, None, Option, ◌==◌}
use Rattle.body.specs.declared.numbers.KindName.{KindName}
use Rattle.body.specs.declared.numbers.KindName.TheVariants.{ContentId, PresentationTime, Plain}
use Rattle.body.specs.Identifiers.{within}

-- content IDs have number 1
abbrev pub is_content_id : ℕ → Bool
is_content_id n = n == 1

-- presentation times have number 2
abbrev pub is_presentation : ℕ → Bool
is_presentation n = n == 2

-- plain bytes have every other message number
abbrev pub is_plain : ℕ → Bool
is_plain n = within 1 255 n && not (is_content_id n || is_presentation n)

-- the kind of a number, none for what is no message number
abbrev pub kind_named : ℕ → Option KindName
kind_named n = cond (is_content_id n) (Some ContentId) (cond (is_presentation n) (Some PresentationTime) (cond (is_plain n) (Some Plain) None))

-- 1 for a yes
abbrev pub tick : Bool → ℕ
tick true = 1
tick false = 0

-- how many kinds a number is of
abbrev pub kinds_of : ℕ → ℕ
kinds_of n = tick (is_content_id n) + (tick (is_presentation n) + tick (is_plain n))

-- the three kinds split the numbers 1 to 255 without overlap, and have no other
pub record Split : Type 0 where
  pub each : (n : ℕ) → 1 ≤ n → n ≤ 255 → kinds_of n ≡ 1
  pub zero_has_none : kinds_of 0 ≡ 0
  pub above_has_none : (n : ℕ) → 255 < n → kinds_of n ≡ 0
