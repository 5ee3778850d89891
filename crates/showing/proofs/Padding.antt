-- Digits with blanks or zeros before them, as a format writes them.
use Rattle.std.proofs.Common.{◌≡◌, refl, ◌∙◌, ℕ, zero, suc, ◌-◌, ◌^◌, false, List, [], ◌∷◌, ◌++◌, length, replicate, encode_utf8, append-nil, ap, arith}
use Rattle.std.specs.List.{repeat}
use Rattle.std.specs.Fmt.{padded_integral, format_spec, char_count, before_digits}
use Rattle.body.specs.Texts.{zeros_before}
use Rattle.showing.specs.Texts.{blanks_before}

one_by_one : (n : ℕ) → repeat n (encode_utf8 32) ≡ replicate n 32
unfolding lib.Utf8.encode
one_by_one zero = refl
one_by_one (suc n) = ap (λ xs. 32 ∷ xs) (one_by_one n)

-- blanks before, and none behind
around : (all n : ℕ) (ds : List ℕ) → all ≡ n → repeat all (encode_utf8 32) ++ (ds ++ repeat (all - all) (encode_utf8 32)) ≡ replicate n 32 ++ ds
around all n ds e =
    let behind : all - all ≡ 0 = omega arith in
    let none : ds ++ repeat (all - all) (encode_utf8 32) ≡ ds = ap (λ m. ds ++ repeat m (encode_utf8 32)) behind ∙ append-nil ds in
    ap (λ z. repeat all (encode_utf8 32) ++ z) none ∙ ap (λ z. z ++ ds) (one_by_one all ∙ ap (λ m. replicate m 32) e)

pub padded_blanks : (width : ℕ) (ds : List ℕ) → padded_integral (format_spec 32 3 0 width (2 ^ 64 - 1)) false [] ds ≡ blanks_before width ds
unfolding padded_integral char_count
padded_blanks width ds = simp append-nil (around (width - length ds - 0 - 0) (width - length ds) ds (omega arith))

zeros : (width len : ℕ) → before_digits (format_spec 32 0 4 width (2 ^ 64 - 1)) false [] len ≡ replicate (width - len) 48
unfolding char_count
zeros width len =
    let n : width - len - 0 - 0 ≡ width - len = omega arith in
    ap (λ m. replicate m 48) n

pub padded_zeros : (width : ℕ) (ds : List ℕ) → padded_integral (format_spec 32 0 4 width (2 ^ 64 - 1)) false [] ds ≡ zeros_before width ds
unfolding padded_integral char_count
padded_zeros width ds = simp append-nil (ap (λ z. z ++ ds) (zeros width (length ds)))
