-- The joining of a slot's parts, step by step.
use Rattle.std.proofs.Common.{◌≡◌, ℕ, zero, suc, ◌+◌, ◌*◌, ◌<◌, ◌≤◌, min, Bool, true, false, ◌&&◌, List, [], ◌∷◌, ◌++◌, length, get_or, take, is_some, Some, None, Option, Iter, Bor, sym, refl, ap, ◌∙◌, subst, add-one, arith, length-append, length-take, append-nil}
use Rattle.std.specs.List.{range_with_len, flat_map, enumerate_from, zip, list_all}
use Rattle.std.specs.declared.iter.Enumerate.{Enumerate}
use Rattle.std.specs.declared.iter.Zip.{Zip}
use Rattle.std.specs.Iterator.{Yields}
use Rattle.std.specs.Iterator.Adapters.{enumerate_source, enumerate_count, enumerate_steps, zip_first, zip_second}
use Rattle.std.specs.Slice.Iter.{iter_rest}
use Rattle.std.proofs.iter.Yields.{fronts}
use Rattle.std.proofs.lemmas.Iterator.{YieldsList, YieldsList-from_slice, YieldsList-from_zip, zips}
use Rattle.std.proofs.lemmas.Iterator.Consumers.{YieldsList-from_enumerate, YieldsList-turn, YieldsList-end}
use Rattle.std.proofs.lemmas.List.{flat_map_more, get_or_read, get_or-take}
use Rattle.std.proofs.lemmas.List.Folds.{list_all_more}
use Rattle.std.proofs.lemmas.List.FromFn.{length-enumerate_from, get_or-enumerate_from}
use Rattle.std.proofs.lemmas.Slice.Zip.{length-zip, get_or-zip}
use Rattle.std.proofs.lemmas.Bool.Decides.{nat_tests}
use Rattle.gather.specs.Gathering as value
use Rattle.gather.specs.Gathering.{body_of, full, whole}
use Rattle.gather.specs.declared.slot.Part.{Part}
use Rattle.gather.specs.declared.slot.State.{State}
use Rattle.gather.specs.declared.slot.State.TheVariants.{Empty, Gathering}
use Rattle.gather.specs.Model.{room, part_in, held_in, slot_in}

counting_more : (a n : ℕ) → range_with_len a (suc n) ≡ range_with_len a n ++ (a + n) ∷ []
counting_more a zero = let e : a + 0 ≡ a = omega arith in ap (λ (m : ℕ). m ∷ []) (sym e)
counting_more a (suc n) = let e : a + 1 + n ≡ a + suc n = omega arith in ap (◌∷◌ a) (counting_more (a + 1) n ∙ ap (λ (m : ℕ). range_with_len (a + 1) n ++ m ∷ []) e)

-- the bodies of the first k parts
abbrev pub front : ℕ → (ℕ → Option value.Part) → List ℕ
front k held = flat_map (λ (j : ℕ). body_of (held j)) (range_with_len 0 k)

-- one part more
pub front_more : (k : ℕ) (held : ℕ → Option value.Part) → front (k + 1) held ≡ front k held ++ body_of (held k)
front_more k held =
    ap (λ (n : ℕ). front n held) (add-one k)
    ∙ ap (flat_map (λ (j : ℕ). body_of (held j))) (counting_more 0 k)
    ∙ sym (flat_map_more (λ (j : ℕ). body_of (held j)) [] (range_with_len 0 k) (0 + k))
    ∙ ap (λ (j : ℕ). front k held ++ body_of (held j)) (let e : 0 + k ≡ k = omega arith in e)

pub front_whole : (k n : ℕ) (held : ℕ → Option value.Part) → k ≡ n + 1 → front k held ≡ whole n held
front_whole k n held e = ap (λ (m : ℕ). front m held) (e ∙ add-one n)

room_most : (k : ℕ) → room k ≤ 51
room_most k = grind (arith, nat_tests)

body_short : (s : State) (bss : List (List ℕ)) (k : ℕ) → length (body_of ((slot_in s bss).held k)) ≤ room k
body_short Empty bss k = omega arith
body_short (Gathering v l ps) bss k = go (get_or ps k None) (get_or bss k [])
  where
    go : (o : Option Part) (bs : List ℕ) → length (body_of (part_in k o bs)) ≤ room k
    go None bs = omega arith
    go (Some p) bs = let n = length-take (min p.size (room k)) bs in grind arith

front_short : (k : ℕ) (s : State) (bss : List (List ℕ)) → length (front k (slot_in s bss).held) ≤ 51 * k
front_short zero s bss = omega arith
front_short (suc k) s bss =
    let held = (slot_in s bss).held in
    let more = front_short k s bss in
    let n = ap length (front_more k held) ∙ length-append (front k held) (body_of (held k)) in
    let short = body_short s bss k in
    let most = room_most k in
    let next : length (front (k + 1) held) ≤ 51 * suc k = omega (arith, n) in
    subst (λ (m : ℕ). length (front m held) ≤ 51 * suc k) (add-one k) next

-- a part fits behind those before it
pub room_left : (k n : ℕ) (s : State) (bss : List (List ℕ)) → k < 4 → n ≤ room k → length (front k (slot_in s bss).held) + n ≤ 200
room_left k n s bss h h' = let most = front_short k s bss in grind (arith, nat_tests)

-- a part is held in the memory as it is in the model
pub held_some : (k : ℕ) (p : Option Part) (bs : List ℕ) → is_some (part_in k p bs) ≡ is_some p
held_some k None bs = refl
held_some k (Some p) bs = refl

both_ways : (a b : Bool) → (a && b) ≡ (b && a)
both_ways true true = refl
both_ways true false = refl
both_ways false true = refl
both_ways false false = refl

-- parts that are all held, by the list and by their numbers
pub all_full : (n : ℕ) (ps : List (Option Part)) (bss : List (List ℕ)) → n < length ps → list_all is_some (take (n + 1) ps) ≡ full n (held_in ps bss)
all_full n ps bss h =
    list_all_more is_some ps n None h ∙ go n h
  where
    at : (k : ℕ) → is_some (get_or ps k None) ≡ is_some (held_in ps bss k)
    at k = sym (held_some k (get_or ps k None) (get_or bss k []))

    go : (m : ℕ) → m < length ps → (list_all is_some (take m ps) && is_some (get_or ps m None)) ≡ full m (held_in ps bss)
    go zero h = at 0
    go (suc m) h =
        let more : list_all is_some (take (suc m) ps) ≡ full m (held_in ps bss) = ap (λ (k : ℕ). list_all is_some (take k ps)) (sym (add-one m)) ∙ list_all_more is_some ps m None (omega arith) ∙ go m (omega arith) in
        ap (λ (b : Bool). b && is_some (get_or ps (suc m) None)) more
        ∙ both_ways (full m (held_in ps bss)) (is_some (get_or ps (suc m) None))
        ∙ ap (λ (b : Bool). b && full m (held_in ps bss)) (at (suc m))

-- the loop over the parts and their bytes
module _ (ps : List (Option Part)) (bss : List (List ℕ)) (s : Enumerate (Zip (Iter (Option Part)) (Iter (List ℕ))))
    (count : enumerate_count s ≡ 0) (first : iter_rest (zip_first (enumerate_source s)) ≡ ps) (second : iter_rest (zip_second (enumerate_source s)) ≡ bss) where
  road : YieldsList (enumerate_steps (zips fronts fronts)) (λ p. (p.0, (p.1.0.now, p.1.1.now))) s (enumerate_from 0 (zip ps bss))
  road = YieldsList-from_enumerate (YieldsList-from_zip (YieldsList-from_slice ps first) (YieldsList-from_slice bss second)) count

  -- where the item of a turn lies
  pub turn : (xs : List (ℕ × (Bor (Option Part) × Bor (List ℕ)))) (t u : Enumerate (Zip (Iter (Option Part)) (Iter (List ℕ)))) (r : Option (ℕ × (Bor (Option Part) × Bor (List ℕ)))) (x : ℕ × (Bor (Option Part) × Bor (List ℕ)))
      → Yields (enumerate_steps (zips fronts fronts)) s xs t → r ≡ Some x → enumerate_steps (zips fronts fronts) t r u
      → (x.0 ≡ length xs) × (length xs < length ps) × (x.1.0.now ≡ get_or ps (length xs) None) × (x.1.1.now ≡ get_or bss (length xs) [])
  turn xs t u r x y is step =
      let i = length xs in
      let at = YieldsList-turn road xs t y r u x is step in
      let n = length-enumerate_from 0 (zip ps bss) ∙ length-zip ps bss in
      let a : i < length (zip ps bss) = omega (arith, at.0, length-enumerate_from 0 (zip ps bss)) in
      let h : i < length ps = omega (arith, at.0, n) in
      let h' : i < length bss = omega (arith, at.0, n) in
      let all = at.1 ∙ get_or-enumerate_from 0 (zip ps bss) i _ a in
      let pair = ap (λ (z : ℕ × (Option Part × List ℕ)). z.1) all ∙ get_or-zip ps bss i _ h h' in
      let k : 0 + i ≡ i = omega arith in (
        ap (λ (z : ℕ × (Option Part × List ℕ)). z.0) all ∙ k,
        h,
        get_or_read ps i _ h (ap (λ (z : Option Part × List ℕ). z.0) pair) None,
        get_or_read bss i _ h' (ap (λ (z : Option Part × List ℕ). z.1) pair) [],
      )

  -- how many turns there were
  pub turns : (xs : List (ℕ × (Bor (Option Part) × Bor (List ℕ)))) (t u : Enumerate (Zip (Iter (Option Part)) (Iter (List ℕ)))) (r : Option (ℕ × (Bor (Option Part) × Bor (List ℕ))))
      → Yields (enumerate_steps (zips fronts fronts)) s xs t → r ≡ None → enumerate_steps (zips fronts fronts) t r u → length xs ≡ min (length ps) (length bss)
  turns xs t u r y is step =
      (YieldsList-end road xs t y r u is step).1 ∙ length-enumerate_from 0 (zip ps bss) ∙ length-zip ps bss

-- the bodies of a state that gathers
module _ (s : State) (bss : List (List ℕ)) (v l : ℕ) (ps : List (Option Part)) (is : s ≡ Gathering v l ps) where
  bodies_more : (k : ℕ) (o : Option Part) → o ≡ get_or ps k None → front (k + 1) (slot_in s bss).held ≡ front k (slot_in s bss).held ++ body_of (part_in k o (get_or bss k []))
  bodies_more k o e =
      let held = (slot_in s bss).held in
      front_more k held
      ∙ ap (λ (b : List ℕ). front k held ++ b) (ap (λ (z : State). body_of ((slot_in z bss).held k)) is ∙ ap (λ (z : Option Part). body_of (part_in k z (get_or bss k []))) (sym e))

  module _ (k : ℕ) (o : Option Part) (w : List ℕ) (within : k < l + 1) (so_far : w ≡ front k (slot_in s bss).held) (here : o ≡ get_or (take (l + 1) ps) k None) where
    at : o ≡ get_or ps k None
    at = here ∙ get_or-take (l + 1) ps k None within

    -- a part that is held is put behind the others
    pub some_more : (p : Part) (bs body : List ℕ) → o ≡ Some p → bs ≡ get_or bss k [] → body ≡ take (min p.size (room k)) bs → w ++ body ≡ front (k + 1) (slot_in s bss).held
    some_more p bs body e e' e'' =
        ap (λ (b : List ℕ). b ++ body) so_far
        ∙ ap (λ (b : List ℕ). front k (slot_in s bss).held ++ b) (e'' ∙ ap (take (min p.size (room k))) e' ∙ ap (λ (z : Option Part). body_of (part_in k z (get_or bss k []))) (sym e))
        ∙ sym (bodies_more k o at)

    -- a part that isn't held adds nothing
    pub none_more : ((p : Part) → o ≡ Some p → ⊥) → w ≡ front (k + 1) (slot_in s bss).held
    none_more none = so_far ∙ sym (bodies_more k o at ∙ go o none)
      where
        go : (z : Option Part) → ((p : Part) → z ≡ Some p → ⊥) → front k (slot_in s bss).held ++ body_of (part_in k z (get_or bss k [])) ≡ front k (slot_in s bss).held
        go None none = append-nil (front k (slot_in s bss).held)
        go (Some p) none = absurd (none p refl)

  pub bodies_all : (k : ℕ) → k ≡ l + 1 → front k (slot_in s bss).held ≡ whole (slot_in s bss).last (slot_in s bss).held
  bodies_all k e = front_whole k (slot_in s bss).last (slot_in s bss).held (e ∙ ap (λ (z : State). (slot_in z bss).last + 1) (sym is))
