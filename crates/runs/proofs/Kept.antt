-- What a slot keeps when a block arrives.
use Rattle.std.proofs.Common.{◌≡◌, ℕ, ◌+◌, ◌≤◌, Bool, true, false, ◌&&◌, eqb, ltb, ◌⊎◌, Some, None, Option, sym, ap, ◌∙◌, subst, inl, inr}
use Rattle.std.proofs.lemmas.Bool.{and_parts, and_from, cases_eq, cases_Bool, eqb-true, ltb-false, eq-eqb, ne_eqb, le-ltb, cond-true, cond-false}
use Rattle.sending.specs.Sendings.{Block}
use Rattle.gather.specs.Gathering.{Part, Slot, agreeing, recent, kept}
use Rattle.runs.proofs.Basics.{none≢some, some_same}

-- the part of an arriving block
abbrev pub new : ℕ → Block → Part
new t b = record { body = b.body; check = b.check; frame = t }

-- part h was held before, agrees with the block, and is recent
abbrev pub Stayed : ℕ → Block → Slot → ℕ → Part → Type 0
Stayed t b s k h = (s.held k ≡ Some h) × (s.version ≡ b.version) × (s.last ≡ b.last) × (t ≤ h.frame + 255)

-- what is kept is the block's part, or was held before
pub kept_cases : (t : ℕ) (b : Block) (s : Slot) (k : ℕ) (h : Part) → kept t b s k ≡ Some h
    → ((k ≡ b.part) × (h ≡ new t b)) ⊎ ((k ≡ b.part → ⊥) × Stayed t b s k h)
kept_cases t b s k h e = go (cases_eq k b.part)
  where
    agrees : Bool
    agrees = eqb s.version b.version && eqb s.last b.last

    old : (o : Option Part) → recent t o ≡ Some h → (o ≡ Some h) × (t ≤ h.frame + 255)
    old None r = absurd (none≢some r)
    old (Some g) r = at (cases_Bool (ltb (g.frame + 255) t))
      where
        at : (ltb (g.frame + 255) t ≡ true) ⊎ (ltb (g.frame + 255) t ≡ false) → (Some g ≡ Some h) × (t ≤ h.frame + 255)
        at (inl c) = absurd (none≢some (sym (cond-true _ None (Some g) c) ∙ r))
        at (inr c) =
            let same : Some g ≡ Some h = sym (cond-false _ None (Some g) c) ∙ r in
            (same, subst (λ (x : Part). t ≤ x.frame + 255) (some_same same) (ltb-false _ _ c))

    stayed : recent t (agreeing s b k) ≡ Some h → Stayed t b s k h
    stayed r = at (cases_Bool agrees)
      where
        at : (agrees ≡ true) ⊎ (agrees ≡ false) → Stayed t b s k h
        at (inl c) =
            let both = and_parts (eqb s.version b.version) (eqb s.last b.last) c in
            let was = old (agreeing s b k) r in
            (sym (cond-true agrees (s.held k) None c) ∙ was.0, eqb-true _ _ both.0, eqb-true _ _ both.1, was.1)
        at (inr c) = absurd (none≢some (sym (cond-false agrees (s.held k) None c) ∙ (old (agreeing s b k) r).0))

    go : (k ≡ b.part) ⊎ (k ≡ b.part → ⊥) → ((k ≡ b.part) × (h ≡ new t b)) ⊎ ((k ≡ b.part → ⊥) × Stayed t b s k h)
    go (inl c) = inl (c, some_same (sym e ∙ cond-true _ (Some (new t b)) _ (eq-eqb k b.part c)))
    go (inr c) = inr (c, stayed (sym (cond-false _ (Some (new t b)) (recent t (agreeing s b k)) (ne_eqb k b.part c)) ∙ e))

-- a part that agrees and is recent stays
pub kept_stays : (t : ℕ) (b : Block) (s : Slot) (k : ℕ) (h : Part) → (k ≡ b.part → ⊥) → Stayed t b s k h → kept t b s k ≡ Some h
kept_stays t b s k h c was =
    cond-false _ (Some (new t b)) (recent t (agreeing s b k)) (ne_eqb k b.part c)
    ∙ ap (recent t) (cond-true _ (s.held k) None (and_from _ _ (eq-eqb _ _ was.1) (eq-eqb _ _ was.2)) ∙ was.0)
    ∙ cond-false _ None (Some h) (le-ltb _ _ was.3)

pub kept_new : (t : ℕ) (b : Block) (s : Slot) (k : ℕ) → k ≡ b.part → kept t b s k ≡ Some (new t b)
kept_new t b s k c = cond-true _ (Some (new t b)) _ (eq-eqb k b.part c)
