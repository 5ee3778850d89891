-- Why a group is put or refused.
use Rattle.std.proofs.Common.{◌≡◌, ℕ, suc, ◌+◌, ◌<◌, ◌≤◌, List, [], ◌∷◌, ◌++◌, length, Ok, Err, Result, sym, refl, ap, subst, inl, inr, ⊎_elim, arith}
use Rattle.std.proofs.lemmas.List.{length-append}
use Rattle.std.proofs.lemmas.Bool.{cases_lt}
use Rattle.refusal.specs.declared.Refusal.{Refusal}
use Rattle.refusal.specs.declared.Refusal.TheVariants.{FrameEnd, NotOfASending}
use Rattle.wire.specs.Wire.{block_bytes}
use Rattle.frame.specs.Frames.{wires}
use Rattle.frame.specs.Groups.{Want, block_of, size_of, blocks, then_answer, put_answer, Fits, Reason, Open, putting, WholeOrNot}
use Rattle.frame.proofs.Tries.{tried_not, tried_past, tried_fits, size_bytes}

-- the same from the i-th block on
record Later (n mark i : ℕ) (ws : List Want) (e : Refusal) : Type 0 where
  front : List Want
  wanted : Want
  others : List Want
  order : ws ≡ front ++ wanted ∷ others
  fits : Fits n mark front
  reason : Reason n (mark + length (wires (blocks front))) (i + length front) wanted e

abbrev Why : ℕ → ℕ → ℕ → List Want → Result Unit Refusal → Type 0
Why n mark i ws (Ok x) = Fits n mark ws
Why n mark i ws (Err e) = Later n mark i ws e

wires_more : (w : Want) (ws : List Want) → length (wires (blocks (w ∷ ws))) ≡ length (block_bytes (block_of w)) + length (wires (blocks ws))
wires_more w ws = length-append (block_bytes (block_of w)) (wires (blocks ws))

fits_more : (n mark : ℕ) (w : Want) (ws : List Want) → w.index < length w.sending.parts → Fits n (mark + size_of w) ws → Fits n mark (w ∷ ws)
fits_more n mark w ws h f =
    record { each = (h, f.each); ends = omega (arith, f.ends, wires_more w ws, size_bytes n mark 0 w) }

why_more : (n mark i : ℕ) (w : Want) (ws : List Want) → w.index < length w.sending.parts → (r : Result Unit Refusal) → Why n (mark + size_of w) (i + 1) ws r → Why n mark i (w ∷ ws) r
why_more n mark i w ws h (Ok x) f = fits_more n mark w ws h f
why_more n mark i w ws h (Err e) f =
    let m : (mark + size_of w) + length (wires (blocks f.front)) ≡ mark + length (wires (blocks (w ∷ f.front))) = omega (arith, wires_more w f.front, size_bytes n mark 0 w) in
    let j : (i + 1) + length f.front ≡ i + suc (length f.front) = omega arith in
    record {
      front = w ∷ f.front;
      wanted = f.wanted;
      others = f.others;
      order = ap (λ l. w ∷ l) f.order;
      fits = fits_more n mark w f.front h f.fits;
      reason = subst (λ q. Reason n q (i + suc (length f.front)) f.wanted e) m (subst (λ q. Reason n ((mark + size_of w) + length (wires (blocks f.front))) q f.wanted e) j f.reason);
    }

why_first : (n mark i : ℕ) (w : Want) (ws : List Want) (e : Refusal) → mark ≤ n → Reason n mark i w e → Later n mark i (w ∷ ws) e
why_first n mark i w ws e h r =
    record {
      front = [];
      wanted = w;
      others = ws;
      order = refl;
      fits = record { each = tt; ends = omega arith };
      reason = subst (λ q. Reason n q (i + 0) w e) (omega arith) (subst (λ q. Reason n mark q w e) (omega arith) r);
    }

why : (n mark i : ℕ) (ws : List Want) → mark ≤ n → Why n mark i ws (put_answer n mark i ws)
why n mark i [] h = record { each = tt; ends = omega arith }
why n mark i (w ∷ ws) h =
    let go = put_answer n (mark + size_of w) (i + 1) ws in
    ⊎_elim
    (λ (there : w.index < length w.sending.parts).
    ⊎_elim
    (λ (past : n < mark + size_of w).
    subst (λ r. Why n mark i (w ∷ ws) (then_answer r go)) (tried_past n mark i w there past)
    (why_first n mark i w ws (FrameEnd i) h (inr (refl, there, omega (arith, size_bytes n mark i w)))))
    (λ (room : mark + size_of w ≤ n).
    subst (λ r. Why n mark i (w ∷ ws) (then_answer r go)) (tried_fits n mark i w there room)
    (why_more n mark i w ws there go (why n (mark + size_of w) (i + 1) ws room)))
    (cases_lt n (mark + size_of w)))
    (λ (above : length w.sending.parts ≤ w.index).
    subst (λ r. Why n mark i (w ∷ ws) (then_answer r go)) (tried_not n mark i w above) (why_first n mark i w ws NotOfASending h (inl (refl, above))))
    (cases_lt w.index (length w.sending.parts))

from_first : (f : Open) (ws : List Want) (r : Result Unit Refusal) → Why f.size f.mark 0 ws r → WholeOrNot f ws r
from_first f ws (Ok x) g = g
from_first f ws (Err e) g =
    record {
      front = g.front;
      wanted = g.wanted;
      others = g.others;
      order = g.order;
      fits = g.fits;
      reason = subst (λ q. Reason f.size (f.mark + length (wires (blocks g.front))) q g.wanted e) (omega arith) g.reason;
    }

-- what is answered to a group says whether it fits, and if not, why
pub whole_or_not : (f : Open) (ws : List Want) → f.mark ≤ f.size → (r : Result Unit Refusal) → r ≡ putting f ws → WholeOrNot f ws r
whole_or_not f ws h r e = from_first f ws r (subst (Why f.size f.mark 0 ws) (sym e) (why f.size f.mark 0 ws h))
