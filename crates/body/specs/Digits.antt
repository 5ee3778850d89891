-- Numbers as bytes and back, whatever stands in the reserved bits r beside them.
use Rattle.std.specs.Prelude.{◌≡◌, ℕ, ◌+◌, ◌*◌, ◌/◌, ◌%◌, ◌≤◌}
use Rattle.std.proofs.Common.{arith}

pub word_back : (n : ℕ) → n / 256 * 256 + n % 256 ≡ n
word_back n = omega arith

pub seconds_back : (s : ℕ) → (s / 16777216 * 256 + s / 65536 % 256) * 65536 + (s / 256 % 256 * 256 + s % 256) ≡ s
seconds_back s = omega arith

pub millis_back : (r m : ℕ) → m ≤ 1023 → (r * 4 + m / 256) % 4 * 256 + m % 256 ≡ m
millis_back r m h = omega arith

pub major_back : (r m n : ℕ) → m ≤ 1023 → n ≤ 1023 → (r * 16 + m / 64) % 16 * 64 + (m % 64 * 4 + n / 256) / 4 ≡ m
major_back r m n h k = omega arith

pub minor_back : (m n : ℕ) → n ≤ 1023 → (m % 64 * 4 + n / 256) % 4 * 256 + n % 256 ≡ n
minor_back m n k = omega arith
