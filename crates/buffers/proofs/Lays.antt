-- The laws of a write into a buffer.
use Rattle.std.proofs.Common.{◌≡◌, ℕ, ◌+◌, ◌-◌, ◌<◌, ◌≤◌, ◌⊎◌, List, [], ◌∷◌, ◌++◌, length, get_or, take, drop, set, sym, refl, ap, ◌∙◌, inl, inr, ⊎_elim, append_assoc, add-zero, add-one, arith}
use borrow.Rule.Slice.PartMut.{put_mid, mid_of}
use lib.Seq.{set_split}
use Rattle.std.proofs.lemmas.List.{length-append, length-take-le, length-drop, take-append-drop, take_at, take-append-le, take-take, drop_at, drop-drop, get_or_append_left, get_or-append_right, get_or-drop}
use Rattle.std.proofs.lemmas.Bool.{cases_lt}
use Rattle.buffers.specs.Laid.{laid}

pub laid_from_mid : (a k : ℕ) (xs ys zs : List ℕ) → ys ≡ zs → k ≡ length zs → put_mid a k xs ys ≡ laid xs a zs
unfolding laid
laid_from_mid a k xs ys zs e h =
    rw (e, h) (ap (λ t. take a xs ++ (zs ++ t)) (drop-drop (length zs) a xs))

pub laid_none : (xs : List ℕ) (a : ℕ) → laid xs a [] ≡ xs
unfolding laid
laid_none xs a = rw add-zero (take-append-drop a xs)

pub length_laid : (xs : List ℕ) (a : ℕ) (ys : List ℕ) → a + length ys ≤ length xs → length (laid xs a ys) ≡ length xs
unfolding laid
length_laid xs a ys h =
    let l : length (take a xs) ≡ a = length-take-le a xs (omega arith) in
    simp (length-append, length-drop) (omega arith)

laid_split : (xs : List ℕ) (a : ℕ) (ys : List ℕ) → laid xs a ys ≡ (take a xs ++ ys) ++ drop (a + length ys) xs
unfolding laid
laid_split xs a ys = sym (append_assoc (take a xs) ys (drop (a + length ys) xs))

front_length : (xs : List ℕ) (a : ℕ) (ys : List ℕ) → a ≤ length xs → length (take a xs ++ ys) ≡ a + length ys
front_length xs a ys h =
    let l : length (take a xs) ≡ a = length-take-le a xs h in
    simp length-append (omega arith)

-- what lies up to the end of what was written
pub take_laid : (xs : List ℕ) (a : ℕ) (ys : List ℕ) → a ≤ length xs → take (a + length ys) (laid xs a ys) ≡ take a xs ++ ys
take_laid xs a ys h =
    ap (take (a + length ys)) (laid_split xs a ys) ∙ take_at (take a xs ++ ys) (drop (a + length ys) xs) (a + length ys) (front_length xs a ys h)

-- what lies below the place stays
pub take_laid_below : (xs : List ℕ) (a : ℕ) (ys : List ℕ) (n : ℕ) → n ≤ a → a ≤ length xs → take n (laid xs a ys) ≡ take n xs
unfolding laid
take_laid_below xs a ys n h k =
    let l : n ≤ length (take a xs) = rw (length-take-le a xs k) h in
    take-append-le n (take a xs) (ys ++ drop (a + length ys) xs) l ∙ take-take n a xs h

-- what lies past it stays
pub drop_laid : (xs : List ℕ) (a : ℕ) (ys : List ℕ) (n : ℕ) → a + length ys ≤ n → a + length ys ≤ length xs → drop n (laid xs a ys) ≡ drop n xs
drop_laid xs a ys n h k =
    let m : ℕ = a + length ys in
    let e : m + (n - m) ≡ n = omega arith in
    let d : drop m (laid xs a ys) ≡ drop m xs = ap (drop m) (laid_split xs a ys) ∙ drop_at (take a xs ++ ys) (drop m xs) m (front_length xs a ys (omega arith)) in
    ap (λ i. drop i (laid xs a ys)) (sym e) ∙ sym (drop-drop (n - m) m (laid xs a ys)) ∙ ap (drop (n - m)) d ∙ drop-drop (n - m) m xs ∙ ap (λ i. drop i xs) e

-- one write straight after another is one write
pub laid_laid : (xs : List ℕ) (a : ℕ) (ys : List ℕ) (b : ℕ) (zs : List ℕ) → b ≡ a + length ys → b + length zs ≤ length xs → laid (laid xs a ys) b zs ≡ laid xs a (ys ++ zs)
unfolding laid
laid_laid xs a ys b zs e h =
    let t : take b (laid xs a ys) ≡ take a xs ++ ys = ap (λ i. take i (laid xs a ys)) e ∙ take_laid xs a ys (omega arith) in
    let d : drop (b + length zs) (laid xs a ys) ≡ drop (b + length zs) xs = drop_laid xs a ys (b + length zs) (omega arith) (omega arith) in
    let n : b + length zs ≡ a + length (ys ++ zs) = simp length-append (omega arith) in
    ap (λ l. l ++ (zs ++ drop (b + length zs) (laid xs a ys))) t
    ∙ ap (λ l. (take a xs ++ ys) ++ (zs ++ l)) (d ∙ ap (λ i. drop i xs) n)
    ∙ simp append_assoc

-- the same, of what two calls leave
pub laid_more : (xs ys zs : List ℕ) (a b : ℕ) (ps qs : List ℕ) → ys ≡ laid xs a ps → b ≡ a + length ps → b + length qs ≤ length xs → zs ≡ laid ys b qs → zs ≡ laid xs a (ps ++ qs)
laid_more xs ys zs a b ps qs e n h d = d ∙ ap (λ l. laid l b qs) e ∙ laid_laid xs a ps b qs n h

-- what was written, read back
pub mid_laid : (xs : List ℕ) (a : ℕ) (ys : List ℕ) (k : ℕ) → k ≡ length ys → a ≤ length xs → mid_of a k (laid xs a ys) ≡ ys
unfolding laid
mid_laid xs a ys k e h =
    let d : drop a (laid xs a ys) ≡ ys ++ drop (a + length ys) xs = drop_at (take a xs) (ys ++ drop (a + length ys) xs) a (length-take-le a xs h) in
    ap (take k) d ∙ take_at ys (drop (a + length ys) xs) k (sym e)

-- a place past the mark holds what it held, or a byte of what was written
pub laid_place : (xs : List ℕ) (a : ℕ) (ps qs : List ℕ) (k : ℕ) → a + length ps ≤ length xs → a ≤ k → (get_or (laid xs a ps) k 0 ≡ get_or xs k 0) ⊎ (get_or (laid xs a ps) k 0 ≡ get_or (ps ++ qs) (k - a) 0)
unfolding laid
laid_place xs a ps qs k h le =
    let l : length (take a xs) ≡ a = length-take-le a xs (omega arith) in
    let e : get_or (laid xs a ps) k 0 ≡ get_or (ps ++ drop (a + length ps) xs) (k - a) 0 = get_or-append_right (take a xs) (ps ++ drop (a + length ps) xs) a k 0 l le in
    ⊎_elim
    (λ (lt : k - a < length ps). inr (e ∙ get_or_append_left ps (drop (a + length ps) xs) 0 (k - a) lt ∙ sym (get_or_append_left ps qs 0 (k - a) lt)))
    (λ (ge : length ps ≤ k - a).
    let n : a + length ps + (k - a - length ps) ≡ k = omega arith in
    inl (e ∙ get_or-append_right ps (drop (a + length ps) xs) (length ps) (k - a) 0 refl ge ∙ get_or-drop (a + length ps) xs (k - a - length ps) 0 ∙ ap (λ i. get_or xs i 0) n))
    (cases_lt (k - a) (length ps))

-- three writes in a row
pub laid_three : (x0 x1 x2 x3 : List ℕ) (a b c : ℕ) (p q r : List ℕ) → x1 ≡ laid x0 a p → b ≡ a + length p → x2 ≡ laid x1 b q → c ≡ b + length q → x3 ≡ laid x2 c r → c + length r ≤ length x0 → x3 ≡ laid x0 a (p ++ (q ++ r))
laid_three x0 x1 x2 x3 a b c p q r e1 eb e2 ec e3 h =
    let two : x2 ≡ laid x0 a (p ++ q) = laid_more x0 x1 x2 a b p q e1 eb (omega arith) e2 in
    let n : length (p ++ q) ≡ length p + length q = length-append p q in
    laid_more x0 x2 x3 a c (p ++ q) r two (omega arith) h e3 ∙ ap (laid x0 a) (append_assoc p q r)

-- writing one byte is a write of one byte
pub set_laid : (xs : List ℕ) (a b : ℕ) → a < length xs → set xs a b ≡ laid xs a (b ∷ [])
unfolding laid
set_laid xs a b h = set_split xs a b h ∙ ap (λ n. take a xs ++ b ∷ drop n xs) (sym (add-one a))

-- one byte straight after a write
pub laid_byte : (xs ys : List ℕ) (a : ℕ) (ps : List ℕ) (e b : ℕ) → ys ≡ laid xs a ps → e ≡ a + length ps → e < length xs → set ys e b ≡ laid xs a (ps ++ b ∷ [])
laid_byte xs ys a ps e b is at h =
    let l : length ys ≡ length xs = ap length is ∙ length_laid xs a ps (omega arith) in
    set_laid ys e b (omega arith) ∙ ap (λ t. laid t e (b ∷ [])) is ∙ laid_laid xs a ps e (b ∷ []) at (omega arith)
