-- The frames taken since a restart never fall.
use Rattle.std.proofs.Common.{◌≡◌, ℕ, zero, suc, ◌≤◌, List, [], ◌∷◌, Some, None, Option, sym, refl, ap, ◌∙◌, subst, le_of_eq, arith}
use Rattle.std.specs.List.{slice_get}
use Rattle.sending.specs.Sendings.{Block}
use Rattle.runs.specs.Sightings.{Event, restarted, refused, taken, Place, Sighted, Restarted, Taken, Within}
use Rattle.runs.proofs.Basics.{none≢some, some_same}

-- each frame taken is at least the last one taken since a restart, here floor
abbrev pub Ordered : ℕ → List Event → Type 0
Ordered floor [] = Unit {0}
Ordered floor (restarted ∷ es) = Ordered 0 es
Ordered floor (refused ∷ es) = Ordered floor es
Ordered floor (taken t bs ∷ es) = (floor ≤ t) × Ordered t es

-- between two restarts the frames never fall
abbrev pub WellOrdered : List Event → Type 0
WellOrdered events =
    (x y t u : ℕ) → x ≤ y → ((z : ℕ) → Within x y z → Restarted events z → ⊥) → Taken events x t → Taken events y u → t ≤ u

abbrev pub IsTaken : Option Event → Type 0
IsTaken None = ⊥
IsTaken (Some restarted) = ⊥
IsTaken (Some refused) = ⊥
IsTaken (Some (taken t bs)) = Unit {0}

-- a taken event is no restart
pub not_both : (events : List Event) (x t : ℕ) → Taken events x t → Restarted events x → ⊥
not_both events x t k r = subst IsTaken (sym k.1 ∙ r) tt

pub frame_same : {t u : ℕ} {bs cs : List Block} → Some (taken t bs) ≡ Some (taken u cs) → t ≡ u
frame_same {t = t} h = ap frame h
  where
    frame : Option Event → ℕ
    frame None = t
    frame (Some restarted) = t
    frame (Some refused) = t
    frame (Some (taken u cs)) = u

pub blocks_same : {t u : ℕ} {bs cs : List Block} → Some (taken t bs) ≡ Some (taken u cs) → bs ≡ cs
blocks_same {bs = bs} h = ap blocks h
  where
    blocks : Option Event → List Block
    blocks None = bs
    blocks (Some restarted) = bs
    blocks (Some refused) = bs
    blocks (Some (taken t cs)) = cs

-- one block stands at a place
pub one_block : (events : List Event) (p q : Place) (t u : ℕ) (b c : Block) → p ≡ q → Sighted events p t b → Sighted events q u c → b ≡ c
one_block events p q t u b c same x y =
    let x' : Sighted events q t b = subst (λ (r : Place). Sighted events r t b) same x in
    some_same (sym x'.2 ∙ ap (λ (l : List Block). slice_get l q.index) (blocks_same (sym x'.1 ∙ y.1)) ∙ y.2)

-- what comes before the next restart is at least the floor
above : (events : List Event) (floor y u : ℕ) → Ordered floor events → ((z : ℕ) → z ≤ y → Restarted events z → ⊥) → Taken events y u → floor ≤ u
above [] floor y u o quiet k = absurd (none≢some k.1)
above (restarted ∷ es) floor y u o quiet k = absurd (quiet 0 (omega arith) refl)
above (refused ∷ es) floor zero u o quiet k = absurd (subst IsTaken (sym k.1) tt)
above (refused ∷ es) floor (suc y) u o quiet k = above es floor y u o (λ z l r. quiet (suc z) (omega arith) r) k
above (taken t bs ∷ es) floor zero u o quiet k = let c = frame_same k.1 in let d = o.0 in omega arith
above (taken t bs ∷ es) floor (suc y) u o quiet k =
    let c : t ≤ u = above es t y u o.1 (λ z l r. quiet (suc z) (omega arith) r) k in
    let d = o.0 in
    omega arith

rest_ordered : (v : Event) (es : List Event) (floor : ℕ) → Ordered floor (v ∷ es) → (f : ℕ) × Ordered f es
rest_ordered restarted es floor o = (0, o)
rest_ordered refused es floor o = (floor, o)
rest_ordered (taken t bs) es floor o = (t, o.1)

pub well_ordered : (events : List Event) (floor : ℕ) → Ordered floor events → WellOrdered events
well_ordered [] floor o x y t u l quiet k m = absurd (none≢some k.1)
well_ordered (v ∷ es) floor o zero zero t u l quiet k m = le_of_eq (frame_same (sym k.1 ∙ m.1))
well_ordered (restarted ∷ es) floor o zero (suc y) t u l quiet k m = absurd (subst IsTaken (sym k.1) tt)
well_ordered (refused ∷ es) floor o zero (suc y) t u l quiet k m = absurd (subst IsTaken (sym k.1) tt)
well_ordered (taken w bs ∷ es) floor o zero (suc y) t u l quiet k m =
    let c : w ≤ u = above es w y u o.1 (λ z a r. quiet (suc z) (omega arith) r) m in
    let d = frame_same k.1 in
    omega arith
well_ordered (v ∷ es) floor o (suc x) zero t u l quiet k m = absurd (omega arith)
well_ordered (v ∷ es) floor o (suc x) (suc y) t u l quiet k m =
    let r = rest_ordered v es floor o in
    well_ordered es r.0 r.1 x y t u (omega arith) (λ z a c. quiet (suc z) (omega arith) c) k m
