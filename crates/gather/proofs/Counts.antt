-- How many parts are held.
use Rattle.std.proofs.Common.{◌≡◌, ℕ, Bool, true, false, cond, List, [], ◌∷◌, length, get_or, is_some, Some, None, Option, sym, ap, ◌∙◌, arith}
use Rattle.std.specs.List.{filter}
use Rattle.gather.specs.declared.slot.Part.{Part}
use Rattle.gather.specs.Model.{held_in}
use Rattle.gather.specs.Arriving as value
use Rattle.gather.specs.Arriving.{watched}
use Rattle.gather.specs.Gathering.{Slot}
use Rattle.gather.specs.Serving.{counted, parts_held, held_for}
use Rattle.gather.proofs.Joins.{held_some}

-- those that are held, counted over the list and by their numbers
pub count_four : (ps : List (Option Part)) (bss : List (List ℕ)) → length ps ≡ 4 → length (filter is_some ps) ≡ counted 4 (held_in ps bss)
count_four [] bss e = absurd (omega arith)
count_four (p ∷ []) bss e = absurd (omega arith)
count_four (p ∷ q ∷ []) bss e = absurd (omega arith)
count_four (p ∷ q ∷ r ∷ []) bss e = absurd (omega arith)
count_four (p ∷ q ∷ r ∷ s ∷ []) bss e = go p q r s
  where
    go : (p q r s : Option Part) → length (filter is_some (p ∷ q ∷ r ∷ s ∷ [])) ≡ counted 4 (held_in (p ∷ q ∷ r ∷ s ∷ []) bss)
    go p q r s = grind (arith, held_some 0 p (get_or bss 0 []), held_some 1 q (get_or bss 1 []), held_some 2 r (get_or bss 2 []), held_some 3 s (get_or bss 3 []))
count_four (p ∷ q ∷ r ∷ s ∷ t ∷ ps) bss e = absurd (omega arith)

pub held_watched : (watch : List ℕ) (table : value.Table) (n : ℕ) (s : Slot) → watched watch n ≡ true → table n ≡ s → Some (parts_held s) ≡ held_for watch table n
held_watched watch table n s is at =
    ap (λ (z : Slot). Some (parts_held z)) (sym at) ∙ ap (λ (z : Bool). cond z (Some (parts_held (table n))) None) (sym is)

pub held_absent : (watch : List ℕ) (table : value.Table) (n : ℕ) → watched watch n ≡ false → None ≡ held_for watch table n
held_absent watch table n is = ap (λ (z : Bool). cond z (Some (parts_held (table n))) None) (sym is)
