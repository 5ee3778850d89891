-- The 240 symbols of a line: their levels, the values they are read as, and the bytes those values write.
-- Only weight, level_at and symbol_at know how many samples a symbol has.
use Rattle.std.specs.Prelude.{◌≡◌, ℕ, zero, suc, ◌+◌, ◌-◌, ◌*◌, ◌/◌, ◌%◌, ◌^◌, ◌<◌, ◌≤◌, cond, List, map, length, take, drop, None, sum, count_by, nat_eq, nat_le, slice_index}
use Rattle.std.specs.List.{range_with_len}
use Rattle.line.specs.declared.depth.Depth.{Depth}
use Rattle.line.specs.Lines.{good_count, line_fault, Drawable}

-- the weight of a symbol, by the sample count: a symbol drawn with level v has level weight * v
unfoldable pub weight : ℕ → ℕ
weight count = cond (good_count count) (count / 240) 0

-- the level of symbol k: the sum of its samples
unfoldable pub level_at : List ℕ → ℕ → ℕ
level_at line k = sum (take (weight (length line)) (drop (k * weight (length line)) line))

-- the symbol whose level a sample is drawn with
unfoldable pub symbol_at : ℕ → ℕ → ℕ
symbol_at count i = i / weight count

-- a symbol has one bit or two, and a value for each
pub record Alphabet (bits values : ℕ) : Type 0 where
  pub low : 1 ≤ bits
  pub high : bits ≤ 2
  pub size : values ≡ 2 ^ bits

-- digit t of a byte, at w bits to a digit, the most significant first
abbrev pub digit : ℕ → ℕ → ℕ → ℕ
digit w byte t = (byte / 2 ^ (8 - w * (t + 1))) % 2 ^ w

-- symbol k of a payload, at w bits to a symbol
abbrev pub symbol_of : ℕ → List ℕ → ℕ → ℕ
symbol_of w p k = digit w (slice_index p (k / (8 / w))) (k % (8 / w))

-- the line drawn with a level for each value
abbrev pub drawn_by : ℕ → List ℕ → List ℕ → ℕ → List ℕ
drawn_by w levels p count = map (λ i. slice_index levels (symbol_of w p (symbol_at count i))) (range_with_len 0 count)

-- the value of a symbol: how many cuts its doubled level reaches
abbrev pub value_of : List ℕ → ℕ → ℕ
value_of cuts twice = count_by (λ c. nat_le c twice) cuts

-- the number that the values f 0 to f (n - 1) write in a base
abbrev pub gathered : ℕ → (ℕ → ℕ) → ℕ → ℕ
gathered base f zero = 0
gathered base f (suc n) = gathered base f n * base + f n

-- the payload that 240 values write, at w bits to a symbol
abbrev pub payload_of : ℕ → (ℕ → ℕ) → List ℕ
payload_of w f = map (λ j. gathered (2 ^ w) (λ t. f (j * (8 / w) + t)) (8 / w)) (range_with_len 0 (240 / (8 / w)))

-- two numbers at most e apart
abbrev pub Within : ℕ → ℕ → ℕ → Type 0
Within e a b = (a ≤ b + e) × (b ≤ a + e)

-- a line that the tests let pass, each sample at most e from the drawing of a payload
pub record Near (depth : Depth) (w : ℕ) (levels : List ℕ) (e : ℕ) (line p : List ℕ) : Type 0 where
  pub legal : line_fault depth line ≡ None
  pub payload : Drawable (λ n. nat_eq n (240 / (8 / w))) p
  pub near : (i : ℕ) → i < length line → Within e (slice_index line i) (slice_index (drawn_by w levels p (length line)) i)
