-- Two parts of a sending, read 255 and 256 frames apart.
use Rattle.std.proofs.Common.{◌≡◌, ℕ, Bool, true, false, cond, ◌&&◌, eqb, ltb, List, [], ◌∷◌, ◌++◌, length, is_some, Some, None, sym, refl, ap, ◌∙◌, arith}
use Rattle.std.proofs.lemmas.Bool.{cond-true, cond-false, and_from, eq-eqb, le-leb}
use Rattle.crc.specs.Crc.{crc}
use Rattle.sending.specs.Sendings.{Sending, IsSending, block, message}
use Rattle.gather.specs.Gathering.{Slot, nothing, agreeing, recent, kept, full, whole, body_of, settled, right, silent, handed, answer}
use Rattle.gather.specs.Arriving.{Table, watched, arrive}
use Rattle.gather.specs.Watching.{fits_slot}
use Rattle.gather.specs.Serving.{empty, reply, next_table}
use Rattle.cases.specs.Words.{after_first}

either_way : {A : Type 0} (b : Bool) (x : A) → cond b x x ≡ x
either_way true x = refl
either_way false x = refl

-- a sending of two parts
abbrev pair : ℕ → ℕ → List ℕ → List ℕ → Sending
pair n v x y = record { number = n; version = v; parts = x ∷ y ∷ [] }

-- what part 0 leaves in an empty slot
abbrev held_first : ℕ → ℕ → List ℕ → List ℕ → Slot
held_first n v x y = record { version = v; last = 1; held = kept 1000 (block (pair n v x y) 0) nothing }

module _ (n v : ℕ) (x y : List ℕ) where
  abbrev s : Sending
  s = pair n v x y

  abbrev first : Slot
  first = held_first n v x y

  pub settled_first : settled 1000 (block s 0) nothing ≡ first
  settled_first =
      let alone : kept 1000 (block s 0) nothing 1 ≡ None = ap (recent 1000) (either_way (eqb 0 v && eqb 0 1) None) in
      cond-false _ _ _ (ap (λ o. is_some o && full 0 (kept 1000 (block s 0) nothing)) alone)

  agrees_first : agreeing first (block s 1) 0 ≡ Some (record { body = x; check = None; frame = 1000 })
  agrees_first = cond-true _ _ _ (and_from (eqb v v) (eqb 1 1) (eq-eqb v v refl) refl)

  module _ (t : ℕ) (soon : ltb 1255 t ≡ false) where
    still_there : kept t (block s 1) first 0 ≡ Some (record { body = x; check = None; frame = 1000 })
    still_there = ap (recent t) agrees_first ∙ cond-false _ _ _ soon

    joined_is : whole 1 (kept t (block s 1) first) ≡ (message s).bytes
    joined_is = ap (λ o. body_of o ++ (y ++ [])) still_there

    pub joins : answer t (block s 1) first ≡ handed (message s)
    joins =
        let all : full 1 (kept t (block s 1) first) ≡ true = ap is_some still_there in
        let check : right 1 (kept t (block s 1) first) ≡ true = eq-eqb _ _ (ap crc (sym joined_is)) in
        cond-true _ _ _ all ∙ cond-true _ _ _ check ∙ ap (λ w. handed (record { number = n; version = v; bytes = w })) joined_is

  module _ (t : ℕ) (late : ltb 1255 t ≡ true) where
    gone : kept t (block s 1) first 0 ≡ None
    gone = ap (recent t) agrees_first ∙ cond-true _ _ _ late

    lacks : full 1 (kept t (block s 1) first) ≡ false
    lacks = ap is_some gone

    pub silent_then : answer t (block s 1) first ≡ silent
    silent_then = cond-false _ _ _ lacks

    pub dropped : (settled t (block s 1) first).held 0 ≡ None
    dropped = ap (λ (z : Slot). z.held 0) (cond-false _ _ _ lacks) ∙ gone

-- parts of a sending can be gathered
module _ (n v : ℕ) (x y : List ℕ) (is : IsSending (pair n v x y)) where
  pub first_fits : fits_slot (block (pair n v x y) 0) ≡ true
  unfolding fits_slot
  first_fits = le-leb (length x) 51 (is.parts_fit 0 (omega arith))

  pub last_fits : fits_slot (block (pair n v x y) 1) ≡ true
  unfolding fits_slot
  last_fits = le-leb (length y) 47 (is.last_fits (omega arith))

-- the same in the table of a reader that watches the number
module _ (watch : List ℕ) (n v : ℕ) (x y : List ℕ) (is : IsSending (pair n v x y)) (w : watched watch n ≡ true) where
  here : watched watch n && eqb n n ≡ true
  here = and_from (watched watch n) (eqb n n) w (eq-eqb n n refl)

  slot_is : after_first watch (pair n v x y) n ≡ held_first n v x y
  slot_is =
      ap (λ (t : Table). t n) (cond-true (fits_slot (block (pair n v x y) 0)) (arrive watch 1000 (block (pair n v x y) 0) empty) empty (first_fits n v x y is))
      ∙ cond-true _ _ _ here ∙ settled_first n v x y

  replies : (t : ℕ) → reply watch t (block (pair n v x y) 1) (after_first watch (pair n v x y)) ≡ answer t (block (pair n v x y) 1) (held_first n v x y)
  replies t = cond-true _ _ _ (last_fits n v x y is) ∙ cond-true _ _ _ w ∙ ap (answer t (block (pair n v x y) 1)) slot_is

  pub table_joins : (t : ℕ) → ltb 1255 t ≡ false → reply watch t (block (pair n v x y) 1) (after_first watch (pair n v x y)) ≡ handed (message (pair n v x y))
  table_joins t soon = replies t ∙ joins n v x y t soon

  pub table_drops : (t : ℕ) → ltb 1255 t ≡ true → (reply watch t (block (pair n v x y) 1) (after_first watch (pair n v x y)) ≡ silent)
      × ((next_table watch t (block (pair n v x y) 1) (after_first watch (pair n v x y)) n).held 0 ≡ None)
  table_drops t late =
      let b = block (pair n v x y) 1 in
      let table = after_first watch (pair n v x y) in (
        replies t ∙ silent_then n v x y t late,
        ap (λ (u : Table). (u n).held 0) (cond-true (fits_slot b) (arrive watch t b table) table (last_fits n v x y is))
            ∙ ap (λ (z : Slot). z.held 0) (cond-true _ _ _ here ∙ ap (settled t b) slot_is)
            ∙ dropped n v x y t late,
      )

-- what holds of every two parts holds of every sending of two parts
by_list : (P : Sending → Type 0) → ((n v : ℕ) (x y : List ℕ) → P (pair n v x y)) → (n v : ℕ) (ps : List (List ℕ)) → length ps ≡ 2 → P (record { number = n; version = v; parts = ps })
by_list P each n v [] two = absurd (let none : ⊥ = omega arith in none)
by_list P each n v (x ∷ []) two = absurd (let none : ⊥ = omega arith in none)
by_list P each n v (x ∷ y ∷ []) two = each n v x y
by_list P each n v (x ∷ y ∷ z ∷ zs) two = absurd (let none : ⊥ = omega arith in none)

-- up to frame 1255 the parts join
pub sending_joins : (t : ℕ) → ltb 1255 t ≡ false → (watch : List ℕ) (s : Sending) → IsSending s → length s.parts ≡ 2 → watched watch s.number ≡ true
    → reply watch t (block s 1) (after_first watch s) ≡ handed (message s)
sending_joins t soon watch s is two w =
    by_list (λ s. IsSending s → watched watch s.number ≡ true → reply watch t (block s 1) (after_first watch s) ≡ handed (message s))
    (λ n v x y is w. table_joins watch n v x y is w t soon) s.number s.version s.parts two is w

-- from frame 1256 on part 0 is dropped
pub sending_drops : (t : ℕ) → ltb 1255 t ≡ true → (watch : List ℕ) (s : Sending) → IsSending s → length s.parts ≡ 2 → watched watch s.number ≡ true
    → (reply watch t (block s 1) (after_first watch s) ≡ silent) × ((next_table watch t (block s 1) (after_first watch s) s.number).held 0 ≡ None)
sending_drops t late watch s is two w =
    by_list (λ s. IsSending s → watched watch s.number ≡ true
    → (reply watch t (block s 1) (after_first watch s) ≡ silent) × ((next_table watch t (block s 1) (after_first watch s) s.number).held 0 ≡ None))
    (λ n v x y is w. table_drops watch n v x y is w t late) s.number s.version s.parts two is w
