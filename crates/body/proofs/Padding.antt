-- Digits with zeros before them, as a format writes them.
use Rattle.std.proofs.Common.{◌≡◌, ℕ, ◌-◌, ◌^◌, false, List, [], ◌++◌, length, replicate, append-nil, ap, arith}
use Rattle.std.specs.Fmt.{padded_integral, format_spec, char_count, before_digits}
use Rattle.body.specs.Texts.{zeros_before}

zeros : (width len : ℕ) → before_digits (format_spec 32 0 4 width (2 ^ 64 - 1)) false [] len ≡ replicate (width - len) 48
unfolding char_count
zeros width len =
    let n : width - len - 0 - 0 ≡ width - len = omega arith in
    ap (λ m. replicate m 48) n

pub padded_zeros : (width : ℕ) (ds : List ℕ) → padded_integral (format_spec 32 0 4 width (2 ^ 64 - 1)) false [] ds ≡ zeros_before width ds
unfolding padded_integral char_count
padded_zeros width ds = simp append-nil (ap (λ z. z ++ ds) (zeros width (length ds)))
