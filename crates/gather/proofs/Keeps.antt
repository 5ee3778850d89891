-- What a slot's state and bytes mean, through each thing that the code does to them.
use Rattle.std.proofs.Common.{◌≡◌, ℕ, zero, suc, ◌+◌, ◌<◌, ◌≤◌, min, Bool, true, false, cond, ◌&&◌, eqb, ltb, List, [], ◌∷◌, map, length, get_or, take, set, replicate, Some, None, Option, sym, refl, ap, ◌∙◌, arith}
use mathlib.Core.Path.{fun_ext}
use lib.ListN.{length-map}
use Rattle.std.proofs.lemmas.List.{length-set}
use Rattle.std.proofs.lemmas.Bool.{eqb-true}
use Rattle.std.proofs.lemmas.Bool.Decides.{nat_tests}
use Rattle.sending.specs.Sendings.{Block}
use Rattle.gather.specs.Gathering as value
use Rattle.gather.specs.declared.slot.Part.{Part}
use Rattle.gather.specs.declared.slot.State.{State}
use Rattle.gather.specs.declared.slot.State.TheVariants.{Empty, Gathering}
use Rattle.gather.specs.States.{last_in, parts_in}
use Rattle.gather.specs.Model.{room, part_in, held_in, slot_in}
use Rattle.gather.specs.Keeping.{fresh_part, renewed, noted, with_part}

aged : (b : Bool) (k : ℕ) (p : Part) (bs : List ℕ) → part_in k (cond b None (Some p)) bs ≡ cond b None (part_in k (Some p) bs)
aged true k p bs = refl
aged false k p bs = refl

fresh_is : (t k : ℕ) (p : Option Part) (bs : List ℕ) → part_in k (fresh_part t p) bs ≡ value.recent t (part_in k p bs)
fresh_is t k None bs = refl
fresh_is t k (Some p) bs = aged (ltb (p.frame + 255) t) k p bs

-- one place of a list to which f is done, where f leaves nothing as it is
fresh_at : (t : ℕ) (ps : List (Option Part)) (k : ℕ) → get_or (map (fresh_part t) ps) k None ≡ fresh_part t (get_or ps k None)
fresh_at t [] k = refl
fresh_at t (p ∷ ps) zero = refl
fresh_at t (p ∷ ps) (suc k) = fresh_at t ps k

abbrev none : Option Part
none = None

none_at : (n k : ℕ) → get_or (replicate n none) k none ≡ none
none_at zero k = refl
none_at (suc n) zero = refl
none_at (suc n) (suc k) = none_at n k

-- every place of a list in which one is set
set_at : {X : Type 0} (xs : List X) (x k : ℕ) (y d : X) → x < length xs → get_or (set xs x y) k d ≡ cond (eqb k x) y (get_or xs k d)
set_at [] x k y d l = absurd (omega arith)
set_at (z ∷ xs) zero zero y d l = refl
set_at (z ∷ xs) zero (suc k) y d l = grind (arith, nat_tests)
set_at (z ∷ xs) (suc x) zero y d l = grind (arith, nat_tests)
set_at (z ∷ xs) (suc x) (suc k) y d l = let more = set_at xs x k y d (omega arith) in grind (arith, nat_tests)

held_put : (qs : List (Option Part)) (bss : List (List ℕ)) (k : ℕ) (p : Part) (bs : List ℕ) (j : ℕ) → k < length qs → k < length bss
    → held_in (set qs k (Some p)) (set bss k bs) j ≡ cond (eqb j k) (part_in k (Some p) bs) (held_in qs bss j)
held_put qs bss k p bs j h h' =
    ap (λ (o : Option Part). part_in j o (get_or (set bss k bs) j [])) (set_at qs k j (Some p) None h)
    ∙ ap (λ (c : List ℕ). part_in j (cond (eqb j k) (Some p) (get_or qs j None)) c) (set_at bss k j bs [] h')
    ∙ go (eqb j k) (eqb-true j k)
  where
    go : (e : Bool) → (e ≡ true → j ≡ k) → part_in j (cond e (Some p) (get_or qs j None)) (cond e bs (get_or bss j [])) ≡ cond e (part_in k (Some p) bs) (held_in qs bss j)
    go true h = ap (λ (i : ℕ). part_in i (Some p) bs) (h refl)
    go false h = refl

-- a state has a place for each of four parts
four_renewed : (t : ℕ) (b : Block) (s : State) → length (parts_in s) ≡ 4 → length (parts_in (renewed t b.version b.last s)) ≡ 4
four_renewed t b Empty h = refl
four_renewed t b (Gathering v l ps) h = go (eqb v b.version) (eqb l b.last)
  where
    go : (c d : Bool) → length (parts_in (cond c (cond d (Gathering b.version b.last (map (fresh_part t) ps)) (Gathering b.version b.last (replicate 4 None))) (Gathering b.version b.last (replicate 4 None)))) ≡ 4
    go true true = length-map ps (fresh_part t) ∙ h
    go true false = refl
    go false d = refl

four_noted : (k : ℕ) (p : Part) (s : State) → length (parts_in (noted k p s)) ≡ length (parts_in s)
four_noted k p Empty = refl
four_noted k p (Gathering v l ps) = length-set ps k (Some p)

module _ (t : ℕ) (b : Block) (bss : List (List ℕ)) where
  recent_none : (c : Bool) → value.recent t (cond c None None) ≡ None
  recent_none true = refl
  recent_none false = refl

  start : (j : ℕ) → held_in (replicate 4 None) bss j ≡ None
  start j = ap (λ (o : Option Part). part_in j o (get_or bss j [])) (none_at 4 j)

  -- what a renewed state is
  abbrev Renewed : State → State → Type 0
  Renewed s r = (qs : List (Option Part)) × (r ≡ Gathering b.version b.last qs) × ((j : ℕ) → held_in qs bss j ≡ value.recent t (value.agreeing (slot_in s bss) b j))

  renewed_is : (s : State) → Renewed s (renewed t b.version b.last s)
  renewed_is Empty = (replicate 4 None, refl, λ j. start j ∙ sym (recent_none (eqb 0 b.version && eqb 0 b.last)))
  renewed_is (Gathering w m ps) = go (eqb w b.version) (eqb m b.last)
    where
      go : (c d : Bool) → (qs : List (Option Part))
          × (cond c (cond d (Gathering b.version b.last (map (fresh_part t) ps)) (Gathering b.version b.last (replicate 4 None))) (Gathering b.version b.last (replicate 4 None)) ≡ Gathering b.version b.last qs)
          × ((j : ℕ) → held_in qs bss j ≡ value.recent t (cond (c && d) (held_in ps bss j) None))
      go true true = (map (fresh_part t) ps, refl, λ j. ap (λ (o : Option Part). part_in j o (get_or bss j [])) (fresh_at t ps j) ∙ fresh_is t j (get_or ps j None) (get_or bss j []))
      go true false = (replicate 4 None, refl, start)
      go false d = (replicate 4 None, refl, start)

  new_part : (size : ℕ) (bs : List ℕ) → size ≡ length b.body → size ≤ room b.part → take size bs ≡ b.body
      → part_in b.part (Some (record { size = size; frame = t; check = b.check })) bs ≡ Some (record { body = b.body; check = b.check; frame = t })
  new_part size bs e fits is =
      let m : min size (room b.part) ≡ size = omega arith in
      ap (λ (xs : List ℕ). Some (record { body = xs; check = b.check; frame = t })) (ap (λ (n : ℕ). take n bs) m ∙ is)

  -- the three steps by which a block's part is kept
  pub kept_is : (s s' s'' : State) (size : ℕ) (bs : List ℕ) → b.part < length bss → b.part < 4
      → size ≡ length b.body → size ≤ room b.part → take size bs ≡ b.body
      → s' ≡ renewed t b.version b.last s → length (parts_in s) ≡ 4 → s'' ≡ noted b.part (record { size = size; frame = t; check = b.check }) s'
      → slot_in s'' (set bss b.part bs) ≡ with_part t b (slot_in s bss)
  kept_is s s' s'' size bs h h' e fits is e' four e'' =
      let r = renewed_is s in
      let qs = r.0 in
      let p : Part = record { size = size; frame = t; check = b.check } in
      let at : s' ≡ Gathering b.version b.last qs = e' ∙ r.1 in
      let long : length qs ≡ 4 = sym (ap length (ap parts_in r.1)) ∙ four_renewed t b s four in
      let l : b.part < length qs = omega arith in
      ap (λ (z : State). slot_in z (set bss b.part bs)) (e'' ∙ ap (noted b.part p) at)
      ∙ ap (λ (f : ℕ → Option value.Part). record { version = b.version; last = b.last; held = f })
      (fun_ext (λ (j : ℕ). held_put qs bss b.part p bs j l h
      ∙ ap (λ (o : Option value.Part). cond (eqb j b.part) o (held_in qs bss j)) (new_part size bs e fits is)
      ∙ ap (cond (eqb j b.part) (Some (record { body = b.body; check = b.check; frame = t }))) (r.2 j)))

pub few_kept : (t : ℕ) (b : Block) (s s' s'' : State) (p : Part) → b.last ≤ 3 → s' ≡ renewed t b.version b.last s → s'' ≡ noted b.part p s' → last_in s'' ≤ 3
few_kept t b s s' s'' p h e e' =
    let r = renewed_is t b [] s in
    let l = ap last_in (e' ∙ ap (noted b.part p) (e ∙ r.1)) in
    omega (arith, l)

pub four_kept : (t : ℕ) (b : Block) (s s' s'' : State) (p : Part) → length (parts_in s) ≡ 4 → s' ≡ renewed t b.version b.last s → s'' ≡ noted b.part p s' → length (parts_in s'') ≡ 4
four_kept t b s s' s'' p h e e' =
    ap length (ap parts_in (e' ∙ ap (noted b.part p) e)) ∙ four_noted b.part p (renewed t b.version b.last s) ∙ four_renewed t b s h
