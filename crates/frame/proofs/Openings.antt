-- The answer to opening a frame, by its length.
use Rattle.std.proofs.Common.{◌≡◌, ℕ, Bool, true, false, cond, ◌∷◌, replicate, Ok, Err, Result, refl}
use Rattle.refusal.specs.declared.Refusal.{Refusal}
use Rattle.refusal.specs.declared.Refusal.TheVariants.{Payload}
use Rattle.frame.specs.Groups.{Open}
use Rattle.frame.specs.Marking.{frame_length, opening}

-- a frame as it is opened
abbrev pub begun : ℕ → Open
begun n = record { bytes = 235 ∷ 82 ∷ replicate 58 0; size = n; mark = 2 }

ok_opened : (t : Bool) (f g : Open) (e : Refusal) → ◌≡◌ {A = Result Open Refusal} (Ok f) (cond t (Ok g) (Err e)) → (t ≡ true) × (f ≡ g)
ok_opened true f g e is = (refl, cc)
ok_opened false f g e is = absurd (cc)

err_opened : (t : Bool) (r : Refusal) (g : Open) (e : Refusal) → ◌≡◌ {A = Result Open Refusal} (Err r) (cond t (Ok g) (Err e)) → (t ≡ false) × (r ≡ e)
err_opened true r g e is = absurd (cc)
err_opened false r g e is = (refl, cc)

pub opening_ok : (n : ℕ) (f : Open) → Ok f ≡ opening n → (frame_length n ≡ true) × (f ≡ begun n)
unfolding opening
opening_ok n f e = ok_opened (frame_length n) f (begun n) Payload e

pub opening_err : (n : ℕ) (r : Refusal) → Err r ≡ opening n → (frame_length n ≡ false) × (r ≡ Payload)
unfolding opening
opening_err n r e = err_opened (frame_length n) r (begun n) Payload e
