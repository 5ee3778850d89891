-- One wanted block tried at a mark: what asking for its length, its room and its writing come to.
use Rattle.std.proofs.Common.{◌≡◌, ℕ, ◌+◌, ◌<◌, ◌≤◌, Bool, true, false, cond, ltb, List, length, Ok, Err, Result, sym, refl, ap, ◌∙◌}
use Rattle.std.proofs.lemmas.Bool.{lt-ltb, le-ltb, ltb-true}
use Rattle.refusal.specs.declared.Refusal.{Refusal}
use Rattle.refusal.specs.declared.Refusal.TheVariants.{FrameEnd, NotOfASending}
use Rattle.buffers.specs.Laid.{laid}
use Rattle.wire.specs.Wire.{block_bytes}
use Rattle.wire.specs.Writing.{size, wanted_size, writing, written}
use Rattle.wire.proofs.Writings.{write_fits}
use Rattle.frame.specs.Groups.{Want, size_of, block_of, block_answer}

ok_size : (t : Bool) (x y : ℕ) (e : Refusal) → ◌≡◌ {A = Result ℕ Refusal} (Ok x) (cond t (Ok y) (Err e)) → (t ≡ true) × (x ≡ y)
ok_size true x y e is = (refl, cc)
ok_size false x y e is = absurd (cc)

err_size : (t : Bool) (r : Refusal) (y : ℕ) (e : Refusal) → ◌≡◌ {A = Result ℕ Refusal} (Err r) (cond t (Ok y) (Err e)) → (t ≡ false) × (r ≡ e)
err_size true r y e is = absurd (cc)
err_size false r y e is = (refl, cc)

ok_not_err : (x : ℕ) (e : Refusal) (r : Result ℕ Refusal) → Err e ≡ r → Ok x ≡ r → ⊥
ok_not_err x e r a b = cc

ok_same : (x y : ℕ) (r : Result ℕ Refusal) → Ok x ≡ r → Ok y ≡ r → x ≡ y
ok_same x y r a b = cc

module _ (n mark i : ℕ) (w : Want) where
  abbrev there : Bool
  there = ltb w.index (length w.sending.parts)

  abbrev past : Bool
  past = ltb n (mark + size_of w)

  -- the length that is asked for tells whether there is such a block
  pub size_ok : (x : ℕ) → Ok x ≡ wanted_size w.sending w.index → (w.index < length w.sending.parts) × (x ≡ size_of w)
  unfolding wanted_size
  size_ok x e = let p = ok_size there x (size_of w) NotOfASending e in (ltb-true w.index (length w.sending.parts) p.0, p.1)

  pub tried_above : (r : Refusal) → Err r ≡ wanted_size w.sending w.index → Err r ≡ block_answer n mark i w
  unfolding wanted_size block_answer
  tried_above r e =
      let p = err_size there r (size_of w) NotOfASending e in
      ap Err p.1 ∙ sym (ap (λ t. cond t (cond past (Err (FrameEnd i)) (Ok tt)) (Err NotOfASending)) p.0)

  pub tried_not : length w.sending.parts ≤ w.index → Err NotOfASending ≡ block_answer n mark i w
  unfolding block_answer
  tried_not h = sym (ap (λ t. cond t (cond past (Err (FrameEnd i)) (Ok tt)) (Err NotOfASending)) (le-ltb w.index (length w.sending.parts) h))

  pub tried_past : w.index < length w.sending.parts → n < mark + size_of w → Err (FrameEnd i) ≡ block_answer n mark i w
  unfolding block_answer
  tried_past h k =
      sym (ap (λ t. cond t (cond past (Err (FrameEnd i)) (Ok tt)) (Err NotOfASending)) (lt-ltb w.index (length w.sending.parts) h)
      ∙ ap (λ t. cond t (Err (FrameEnd i)) (Ok tt)) (lt-ltb n (mark + size_of w) k))

  pub tried_fits : w.index < length w.sending.parts → mark + size_of w ≤ n → Ok tt ≡ block_answer n mark i w
  unfolding block_answer
  tried_fits h k =
      sym (ap (λ t. cond t (cond past (Err (FrameEnd i)) (Ok tt)) (Err NotOfASending)) (lt-ltb w.index (length w.sending.parts) h)
      ∙ ap (λ t. cond t (Err (FrameEnd i)) (Ok tt)) (le-ltb n (mark + size_of w) k))

  pub size_bytes : size_of w ≡ length (block_bytes (block_of w))
  unfolding size
  size_bytes = refl

  -- a block with room is written
  module _ (out : List ℕ) (h : w.index < length w.sending.parts) (k : mark + size_of w ≤ length out) where
    pub never_refused : (r : Refusal) → Err r ≡ writing w.sending w.index mark (length out) → ⊥
    never_refused r e = ok_not_err (mark + size_of w) r (writing w.sending w.index mark (length out)) e (write_fits w.sending w.index mark out k h).0

    pub ends_at : (x : ℕ) → Ok x ≡ writing w.sending w.index mark (length out) → x ≡ mark + size_of w
    ends_at x e = ok_same x (mark + size_of w) (writing w.sending w.index mark (length out)) e (write_fits w.sending w.index mark out k h).0

    pub is_laid : written w.sending w.index mark out ≡ laid out mark (block_bytes (block_of w))
    is_laid = sym (write_fits w.sending w.index mark out k h).1
