-- Eight shifts of a register, split into its top byte and the rest.
use Rattle.std.proofs.Common.{◌≡◌, ℕ, zero, suc, ◌+◌, ◌*◌, ◌/◌, ◌%◌, ◌^◌, ◌<◌, ◌≤◌, leb, sym, refl, ap, ◌∙◌, ⊎_elim, add-zero, mul_assoc, mul_comm, mul-le-mul_left, pow-suc, arith, pow_pos}
use lib.Bits.{bit_xor, xor_comm, xor_assoc, xor_self, xor_zero_l, xor_zero_r, xor_mod, xor_shr, xor_block, xor_lt, xor_shifted}
use Rattle.std.proofs.lemmas.Bool.{cond-true, cond-false, cond_both, le-leb, lt-leb, cases_lt}
use Rattle.crc.specs.Crc.{shifted, times, fed}

abbrev poly : ℕ
poly = 0x04C1_1DB7

abbrev twice : ℕ → ℕ
twice r = (r * 2 ^ 1) % 2 ^ 32

shl_xor : (a b k : ℕ) → bit_xor a b * 2 ^ k ≡ bit_xor (a * 2 ^ k) (b * 2 ^ k)
shl_xor a b k = let e = xor_block k a b 0 0 (pow_pos k) (pow_pos k) in sym (simp add-zero at e)

twice_xor : (a b : ℕ) → twice (bit_xor a b) ≡ bit_xor (twice a) (twice b)
twice_xor a b = ap (λ n. n % 2 ^ 32) (shl_xor a b 1) ∙ xor_mod (a * 2 ^ 1) (b * 2 ^ 1) 32

high : (r : ℕ) → 0x8000_0000 ≤ r → shifted r ≡ bit_xor (twice r) poly
unfolding shifted
high r h = cond-true (leb 0x8000_0000 r) _ _ (le-leb _ _ h)

low : (r : ℕ) → r < 0x8000_0000 → shifted r ≡ twice r
unfolding shifted
low r h = cond-false (leb 0x8000_0000 r) _ _ (lt-leb _ _ h)

pub shifted_below : (r : ℕ) → shifted r < 2 ^ 32
unfolding shifted
shifted_below r =
    let m : twice r < 2 ^ 32 = omega arith in
    cond_both (leb 0x8000_0000 r) _ _ (λ x. x < 2 ^ 32) (λ _. xor_lt 32 _ _ m (omega arith)) (λ _. m)

-- ---- the polynomial among two others
both_poly : (a b p : ℕ) → bit_xor (bit_xor a p) (bit_xor b p) ≡ bit_xor a b
both_poly a b p = xor_assoc a p (bit_xor b p) ∙ ap (bit_xor a) (ap (bit_xor p) (xor_comm b p) ∙ sym (xor_assoc p p b) ∙ ap (λ n. bit_xor n b) (xor_self p) ∙ xor_zero_l b)

left_poly : (a b p : ℕ) → bit_xor (bit_xor a p) b ≡ bit_xor (bit_xor a b) p
left_poly a b p = xor_assoc a p b ∙ ap (bit_xor a) (xor_comm p b) ∙ sym (xor_assoc a b p)

linear : (a b : ℕ) → a < 2 ^ 32 → b < 2 ^ 32 → shifted (bit_xor a b) ≡ bit_xor (shifted a) (shifted b)
linear a b ha hb =
    let top : bit_xor a b / 2 ^ 31 ≡ bit_xor (a / 2 ^ 31) (b / 2 ^ 31) = xor_shr a b 31 in
    ⊎_elim
    (λ la. let za : a / 2 ^ 31 ≡ 0 = omega arith in
    ⊎_elim
    (λ lb. let zb : b / 2 ^ 31 ≡ 0 = omega arith in let t : bit_xor a b / 2 ^ 31 ≡ 0 = top ∙ (λ i. bit_xor (za i) (zb i)) in
    low (bit_xor a b) (omega (arith, t)) ∙ twice_xor a b ∙ sym (λ i. bit_xor (low a la i) (low b lb i)))
    (λ hb'. let zb : b / 2 ^ 31 ≡ 1 = omega arith in let t : bit_xor a b / 2 ^ 31 ≡ 1 = top ∙ (λ i. bit_xor (za i) (zb i)) in
    high (bit_xor a b) (omega (arith, t)) ∙ ap (λ n. bit_xor n poly) (twice_xor a b) ∙ xor_assoc (twice a) (twice b) poly ∙ sym (λ i. bit_xor (low a la i) (high b hb' i)))
    (cases_lt b 0x8000_0000))
    (λ ha'. let za : a / 2 ^ 31 ≡ 1 = omega arith in
    ⊎_elim
    (λ lb. let zb : b / 2 ^ 31 ≡ 0 = omega arith in let t : bit_xor a b / 2 ^ 31 ≡ 1 = top ∙ (λ i. bit_xor (za i) (zb i)) in
    high (bit_xor a b) (omega (arith, t)) ∙ ap (λ n. bit_xor n poly) (twice_xor a b) ∙ sym (left_poly (twice a) (twice b) poly) ∙ sym (λ i. bit_xor (high a ha' i) (low b lb i)))
    (λ hb'. let zb : b / 2 ^ 31 ≡ 1 = omega arith in let t : bit_xor a b / 2 ^ 31 ≡ 0 = top ∙ (λ i. bit_xor (za i) (zb i)) in
    low (bit_xor a b) (omega (arith, t)) ∙ twice_xor a b ∙ sym (both_poly (twice a) (twice b) poly) ∙ sym (λ i. bit_xor (high a ha' i) (high b hb' i)))
    (cases_lt b 0x8000_0000))
    (cases_lt a 0x8000_0000)

times_linear : (n a b : ℕ) → a < 2 ^ 32 → b < 2 ^ 32 → times n shifted (bit_xor a b) ≡ bit_xor (times n shifted a) (times n shifted b)
times_linear zero a b ha hb = refl
times_linear (suc n) a b ha hb = ap (times n shifted) (linear a b ha hb) ∙ times_linear n (shifted a) (shifted b) (shifted_below a) (shifted_below b)

-- bits below the top byte only move up
times_low : (n x : ℕ) → x * 2 ^ n < 2 ^ 32 → times n shifted x ≡ x * 2 ^ n
times_low zero x h = omega arith
times_low (suc n) x h =
    let p = 2 ^ n in
    let e : (x * 2) * p ≡ x * 2 ^ suc n = mul_assoc x 2 p ∙ ap (λ m. x * m) (mul_comm 2 p ∙ sym (pow-suc 2 n)) in
    let one : 1 ≤ p = pow_pos n in
    let more : x * 2 * 1 ≤ x * 2 * p = mul-le-mul_left (x * 2) one in
    let small : x * 2 < 2 ^ 32 = omega (arith, e, h, more) in
    let once : shifted x ≡ x * 2 = low x (omega arith) ∙ omega arith in
    ap (times n shifted) once ∙ times_low n (x * 2) (omega (arith, e, h)) ∙ e

pub fed_split : (r b t : ℕ) → r < 2 ^ 32 → b < 256 → t ≡ times 8 shifted (bit_xor (r / 2 ^ 24) b * 2 ^ 24) → bit_xor ((r * 2 ^ 8) % 2 ^ 32) t ≡ fed r b
unfolding fed
fed_split r b t hr hb is =
    let hi = r / 2 ^ 24 in
    let lo = r % 2 ^ 24 in
    let x = bit_xor hi b in
    let small : lo < 2 ^ 24 = omega arith in
    let top : x < 2 ^ 8 = xor_lt 8 hi b (omega arith) (omega arith) in
    let parts : r ≡ hi * 2 ^ 24 + lo = omega arith in
    let byte : (b * 2 ^ 24) % 2 ^ 32 ≡ b * 2 ^ 24 + 0 = omega arith in
    let split : bit_xor r ((b * 2 ^ 24) % 2 ^ 32) ≡ bit_xor (x * 2 ^ 24) lo =
    (λ i. bit_xor (parts i) (byte i)) ∙ xor_block 24 hi b lo 0 small (omega arith) ∙ ap (λ n. x * 2 ^ 24 + n) (xor_zero_r lo) ∙ sym (xor_shifted x 24 lo small) in
    let moved : times 8 shifted lo ≡ (r * 2 ^ 8) % 2 ^ 32 = times_low 8 lo (omega arith) ∙ omega arith in
    sym (ap (times 8 shifted) split ∙ times_linear 8 (x * 2 ^ 24) lo (omega arith) (omega arith) ∙ (λ i. bit_xor (sym is i) (moved i)) ∙ xor_comm t ((r * 2 ^ 8) % 2 ^ 32))
