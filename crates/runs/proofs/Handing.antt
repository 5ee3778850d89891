-- A sending that is read whole, and nothing that disagrees with it, is handed over.
use Rattle.std.proofs.Common.{◌≡◌, ℕ, suc, ◌+◌, ◌<◌, ◌≤◌, min, true, false, ◌⊎◌, List, length, Some, None, Option, sym, ap, ◌∙◌, subst, ap₂, inl, inr, arith}
use Rattle.std.specs.List.{slice_get}
use Rattle.std.proofs.lemmas.Bool.{cases_eq, cases_lt, cases_Bool, both_ways, cond-false}
use Rattle.sending.specs.Sendings.{Block, Sending, IsSending, last_part, message, block}
use Rattle.gather.specs.Gathering.{Part, Slot, nothing, kept, full, settled, Answer, handed, answer}
use Rattle.runs.specs.Histories.{Step, cleared, passed, read, next, reply, replies, Reads, Rising, Belongs}
use Rattle.runs.proofs.Basics.{nth_below, holds_full}
use Rattle.runs.proofs.Sendings.{same_message}
use Rattle.runs.proofs.Kept.{new, kept_new, kept_stays}
use Rattle.runs.proofs.Origins.{walk, AtRest, nothing_rests, step_rests}
use Rattle.runs.proofs.Joining.{one_read, answer_is}

abbrev IsPassed : Option Step → Type 0
IsPassed None = ⊥
IsPassed (Some cleared) = ⊥
IsPassed (Some passed) = Unit {0}
IsPassed (Some (read t b)) = ⊥

passed≢read : {t : ℕ} {b : Block} → Some passed ≡ Some (read t b) → ⊥
passed≢read h = subst IsPassed h tt

module _ (steps : List Step) (given : ℕ → Sending) (rising : Rising steps) (belongs : Belongs steps given)
    (s : Sending) (is : IsSending s) (lo hi : ℕ)
    (quiet : (z : ℕ) → lo ≤ z → z < hi → slice_get steps z ≡ Some cleared → ⊥)
    (close : (x y t u : ℕ) (b c : Block) → lo ≤ x → x ≤ y → y < hi → Reads steps x t b → Reads steps y u c → u ≤ t + 255)
    (all : (k : ℕ) → k ≤ last_part s → (x : ℕ) × (t : ℕ) × (lo ≤ x) × (x < hi) × Reads steps x t (block s k))
    (only : (x t : ℕ) (b : Block) → lo ≤ x → x < hi → Reads steps x t b → (b.version ≡ s.version) × (b.last ≡ last_part s)) where
  abbrev told : List Answer
  told = replies steps nothing

  -- the message was handed over
  abbrev Done : Type 0
  Done = (x : ℕ) × (lo ≤ x) × (x < hi) × (slice_get told x ≡ Some (handed (message s)))

  -- part k is held, as fresh as frame t
  abbrev HasPart : ℕ → ℕ → Slot → Type 0
  HasPart k t slot = (h : Part) × (slot.held k ≡ Some h) × (t ≤ h.frame) × (slot.version ≡ s.version) × (slot.last ≡ last_part s)

  -- every part read before step x is held
  abbrev Holds : ℕ → Slot → Type 0
  Holds x slot = (k t p : ℕ) → Reads steps p t (block s k) → lo ≤ p → p < x → HasPart k t slot

  -- two steps in this range have the same sending
  alike : (x y t u : ℕ) (b c : Block) → lo ≤ x → x < hi → lo ≤ y → y < hi → Reads steps x t b → Reads steps y u c → given x ≡ given y
  alike x y t u b c a d e f r q = go (cases_lt y x)
    where
      same : b.version ≡ c.version
      same = (only x t b a d r).0 ∙ sym (only y u c e f q).0

      go : (y < x) ⊎ (x ≤ y) → given x ≡ given y
      go (inl l) =
          sym (belongs.1 y x u t c b (omega arith) (λ z g h. quiet z (omega arith) (omega arith)) q r (close y x u t c b e (omega arith) d q r) (sym same))
      go (inr l) = belongs.1 x y t u b c l (λ z g h. quiet z (omega arith) (omega arith)) r q (close x y t u b c a l f r q) same

  -- a block in this range is of the same message
  same_sent : (x t : ℕ) (b : Block) → lo ≤ x → x < hi → Reads steps x t b → message (given x) ≡ message s
  same_sent x t b from to see = sym (same_message s (given x) is (belongs.0 x t b see).0 blocks)
    where
      blocks : (k : ℕ) → k ≤ last_part s → block s k ≡ block (given x) k
      blocks k l =
          let q = all k l in
          let r = belongs.0 q.0 q.1 (block s k) q.4 in
          let same : r.1.0 ≡ k = ap (λ (y : Block). y.part) (sym r.1.2) in
          r.1.2 ∙ ap₂ (block) (alike q.0 x q.1 t (block s k) b q.2 q.3 from to q.4 see) same

  -- a block that fills the slot
  fills : (x t : ℕ) (b : Block) (slot : Slot) → lo ≤ x → x < hi → Reads steps x t b → slice_get told x ≡ Some (answer t b slot) → AtRest steps told x slot
      → full b.last (kept t b slot) ≡ true → Done
  fills x t b slot from to see tells rest f = (
    x,
    from,
    to,
    tells
        ∙ ap Some
        (answer_is steps told given belongs x t b slot see rest f ∙ ap handed (same_sent x t b from to see)),
  )

  -- a block that doesn't
  adds : (x t : ℕ) (b : Block) (slot : Slot) → lo ≤ x → x < hi → Reads steps x t b → Holds x slot
      → Holds (suc x) (record { version = b.version; last = b.last; held = kept t b slot })
  adds x t b slot from to see holds k u p one start before = go (cases_eq k b.part) (cases_eq p x)
    where
      now : (b.version ≡ s.version) × (b.last ≡ last_part s)
      now = only x t b from to see

      go : (k ≡ b.part) ⊎ (k ≡ b.part → ⊥) → (p ≡ x) ⊎ (p ≡ x → ⊥)
          → HasPart k u (record { version = b.version; last = b.last; held = kept t b slot })
      go (inl d) e = (
        new t b,
        kept_new t b slot k d,
        rising p x u t (block s k) b (omega arith) (λ z g h. quiet z (omega arith) (omega arith)) one see,
        now.0,
        now.1,
      )
      go (inr d) (inl e) =
          absurd (d (ap (λ (y : Block). y.part) (one_read steps x u t (block s k) b (subst (λ (y : ℕ). Reads steps y u (block s k)) e one) see).1))
      go (inr d) (inr e) =
          let r = holds k u p one start (omega arith) in
          let near : t ≤ u + 255 = close p x u t (block s k) b start (omega arith) to one see in
          let late = r.2 in
          (r.0, kept_stays t b slot k r.0 d (r.1, r.3 ∙ sym now.0, r.4 ∙ sym now.1, omega arith), r.2, now.0, now.1)

  -- one step on
  inside : (x : ℕ) (v : Step) (slot : Slot) → lo ≤ x → x < hi → slice_get steps x ≡ Some v → slice_get told x ≡ Some (reply v slot) → AtRest steps told x slot
      → Holds x slot → Done ⊎ Holds (suc x) (next v slot)
  inside x cleared slot from to c d rest holds = absurd (quiet x from to c)
  inside x passed slot from to c d rest holds = inr (λ k t p one start before. go k t p one start before (cases_eq p x))
    where
      go : (k t p : ℕ) → Reads steps p t (block s k) → lo ≤ p → p < suc x → (p ≡ x) ⊎ (p ≡ x → ⊥) → HasPart k t slot
      go k t p one start before (inl e) = absurd (passed≢read (sym c ∙ subst (λ (y : ℕ). Reads steps y t (block s k)) e one))
      go k t p one start before (inr e) = holds k t p one start (omega arith)
  inside x (read t b) slot from to c d rest holds = go (cases_Bool (full b.last (kept t b slot)))
    where
      go : (full b.last (kept t b slot) ≡ true) ⊎ (full b.last (kept t b slot) ≡ false) → Done ⊎ Holds (suc x) (settled t b slot)
      go (inl f) = inl (fills x t b slot from to c d rest f)
      go (inr f) = inr (subst (Holds (suc x)) (sym (cond-false _ nothing _ f)) (adds x t b slot from to c holds))

  -- before step x of the range the message is handed over, or all that was read is held
  abbrev SoFar : ℕ → Slot → Type 0
  SoFar x slot = AtRest steps told x slot × (x ≤ hi → Done ⊎ Holds x slot)

  along : (x : ℕ) (v : Step) (slot : Slot) → slice_get steps x ≡ Some v → slice_get told x ≡ Some (reply v slot) → SoFar x slot → SoFar (suc x) (next v slot)
  along x v slot c d g = (step_rests steps told x v slot c d g.0, λ to. go to (g.1 (omega arith)) (cases_lt x lo))
    where
      go : suc x ≤ hi → Done ⊎ Holds x slot → (x < lo) ⊎ (lo ≤ x) → Done ⊎ Holds (suc x) (next v slot)
      go to (inl e) l = inl e
      go to (inr e) (inl l) = inr (λ k t p one start before. absurd (omega arith))
      go to (inr e) (inr l) = inside x v slot l (omega arith) c d g.0 e

  pub done : Done
  done = go (w.1.1 (omega arith))
    where
      end : ℕ
      end = min hi (length steps)

      w : (slot : Slot) × SoFar end slot × ((v : Step) → slice_get steps end ≡ Some v → slice_get told end ≡ Some (reply v slot))
      w =
          walk SoFar steps nothing along (nothing_rests steps told 0, λ a. inr (λ k t p one from before. absurd (omega arith)))
          end (omega arith)

      go : Done ⊎ Holds end w.0 → Done
      go (inl d) = d
      go (inr holds) = absurd (both_ways _ w.1.0.lacks filled)
        where
          has : (k : ℕ) (l : k ≤ last_part s) → HasPart k (all k l).1 w.0
          has k l =
              let q = all k l in
              let c = nth_below steps q.0 (read q.1 (block s k)) q.4 in
              let to = q.3 in
              holds k q.1 q.0 q.4 q.2 (omega arith)

          filled : full w.0.last w.0.held ≡ true
          filled =
              holds_full w.0.last w.0.held
              (λ k l. let a = (has 0 (omega arith)).4 in let r = has k (omega arith) in (r.0, r.1))
