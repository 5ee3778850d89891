-- The parts that a slot holds stem from blocks read in its history.
use Rattle.std.proofs.Common.{◌≡◌, ℕ, zero, suc, ◌+◌, ◌<◌, ◌≤◌, true, false, ◌⊎◌, List, [], ◌∷◌, length, Some, None, Option, sym, refl, ap, ◌∙◌, subst, inl, inr, arith}
use Rattle.std.specs.List.{slice_get}
use Rattle.std.proofs.lemmas.Bool.{cases_eq, cases_Bool, cond-true, cond-false}
use Rattle.sending.specs.Sendings.{Block, Message}
use Rattle.gather.specs.Gathering.{Part, Slot, nothing, kept, full, settled, Answer, silent, handed, faulty}
use Rattle.runs.specs.Histories.{Step, cleared, passed, read, next, reply, replies, after, Reads}
use Rattle.runs.proofs.Basics.{none≢some, some_same}
use Rattle.runs.proofs.Kept.{new, Stayed, kept_cases}

-- from step to step
pub walk : (P : ℕ → Slot → Type 0) (steps : List Step) (start : Slot)
    → ((x : ℕ) (v : Step) (slot : Slot) → slice_get steps x ≡ Some v → slice_get (replies steps start) x ≡ Some (reply v slot) → P x slot
    → P (suc x) (next v slot))
    → P 0 start → (x : ℕ) → x ≤ length steps
    → (slot : Slot) × P x slot × ((v : Step) → slice_get steps x ≡ Some v → slice_get (replies steps start) x ≡ Some (reply v slot))
walk P [] start step base zero l = (start, base, λ v c. absurd (none≢some c))
walk P [] start step base (suc x) l = absurd (omega arith)
walk P (v ∷ vs) start step base zero l = (start, base, λ u c. ap (λ (w : Step). Some (reply w start)) (some_same c))
walk P (v ∷ vs) start step base (suc x) l =
    walk (λ (y : ℕ) (slot : Slot). P (suc y) slot) vs (next v start) (λ i u slot c d p. step (suc i) u slot c d p)
    (step zero v start refl refl base) x (omega arith)

-- to the end
pub walk_end : (P : ℕ → Slot → Type 0) (steps : List Step) (start : Slot)
    → ((x : ℕ) (v : Step) (slot : Slot) → slice_get steps x ≡ Some v → slice_get (replies steps start) x ≡ Some (reply v slot) → P x slot
    → P (suc x) (next v slot))
    → P 0 start → P (length steps) (after steps start)
walk_end P [] start step base = base
walk_end P (v ∷ vs) start step base =
    walk_end (λ (y : ℕ) (slot : Slot). P (suc y) slot) vs (next v start) (λ i u slot c d p. step (suc i) u slot c d p) (step zero v start refl refl base)

abbrev IsHanded : Answer → Type 0
IsHanded silent = ⊥
IsHanded (handed m) = Unit {0}
IsHanded faulty = ⊥

pub silent≢handed : {m : Message} → silent ≡ handed m → ⊥
silent≢handed h = subst IsHanded (sym h) tt

abbrev pub Goes : Option Step → Type 0
Goes None = Unit {0}
Goes (Some cleared) = ⊥
Goes (Some passed) = Unit {0}
Goes (Some (read t b)) = Unit {0}

module _ (steps : List Step) (told : List Answer) where
  -- Part h, held as number k, was read at step p, before step up. Up to step x nothing was cleared since, and it comes after each
  -- message handed over.
  pub record Origin (x up version last k : ℕ) (h : Part) (p : ℕ) : Type 0 where
    pub origin : Block
    pub reads : Reads steps p h.frame origin
    pub version_is : origin.version ≡ version
    pub last_is : origin.last ≡ last
    pub part_is : origin.part ≡ k
    pub body_is : h.body ≡ origin.body
    pub check_is : h.check ≡ origin.check
    pub before : p < up
    pub unbroken : (z : ℕ) → p ≤ z → z < x → slice_get steps z ≡ Some cleared → ⊥
    pub unused : (y : ℕ) (m : Message) → y < x → slice_get told y ≡ Some (handed m) → y < p

  -- a slot at rest before step x
  pub record AtRest (x : ℕ) (s : Slot) : Type 0 where
    pub lacks : full s.last s.held ≡ false
    pub stems : (k : ℕ) (h : Part) → s.held k ≡ Some h → (p : ℕ) × Origin x x s.version s.last k h p

  pub nothing_rests : (x : ℕ) → AtRest x nothing
  nothing_rests x = record { lacks = refl; stems = λ k h c. absurd (none≢some c) }

  -- what is kept at step x, where a block is read, stems from blocks read too
  pub kept_stems : (x t : ℕ) (b : Block) (s : Slot) → Reads steps x t b → AtRest x s → (k : ℕ) (h : Part) → kept t b s k ≡ Some h
      → (p : ℕ) × Origin x (suc x) b.version b.last k h p × (t ≤ h.frame + 255) × (k ≡ b.part → p ≡ x)
  kept_stems x t b s see rest k h c = go (kept_cases t b s k h c)
    where
      go : ((k ≡ b.part) × (h ≡ new t b)) ⊎ ((k ≡ b.part → ⊥) × Stayed t b s k h)
          → (p : ℕ) × Origin x (suc x) b.version b.last k h p × (t ≤ h.frame + 255) × (k ≡ b.part → p ≡ x)
      go (inl q) = (
        x,
        record {
          origin = b;
          reads = subst (λ (u : ℕ). Reads steps x u b) (sym (ap (λ (a : Part). a.frame) q.1)) see;
          version_is = refl;
          last_is = refl;
          part_is = sym q.0;
          body_is = ap (λ (a : Part). a.body) q.1;
          check_is = ap (λ (a : Part). a.check) q.1;
          before = omega arith;
          unbroken = λ z l m r. absurd (omega arith);
          unused = λ y m l d. l;
        },
        let same : h.frame ≡ t = ap (λ (a : Part). a.frame) q.1 in omega arith,
        λ same. refl,
      )
      go (inr q) =
          let o = rest.stems k h q.1.0 in (
            o.0,
            record {
              origin = o.1.origin;
              reads = o.1.reads;
              version_is = o.1.version_is ∙ q.1.1;
              last_is = o.1.last_is ∙ q.1.2;
              part_is = o.1.part_is;
              body_is = o.1.body_is;
              check_is = o.1.check_is;
              before = let l = o.1.before in omega arith;
              unbroken = o.1.unbroken;
              unused = o.1.unused;
            },
            q.1.3,
            λ same. absurd (q.0 same),
          )

  -- one step on, where nothing was cleared and no message handed over
  on : (x up v l k : ℕ) (h : Part) (p : ℕ) → up ≤ suc x → (slice_get steps x ≡ Some cleared → ⊥) → ((m : Message) → slice_get told x ≡ Some (handed m) → ⊥)
      → Origin x up v l k h p → Origin (suc x) (suc x) v l k h p
  on x up v l k h p close going quiet o =
      record {
        origin = o.origin;
        reads = o.reads;
        version_is = o.version_is;
        last_is = o.last_is;
        part_is = o.part_is;
        body_is = o.body_is;
        check_is = o.check_is;
        before = let a = o.before in omega arith;
        unbroken = λ z a b r. still z a b r (cases_eq z x);
        unused = λ y m a d. later y m a d (cases_eq y x);
      }
    where
      still : (z : ℕ) → p ≤ z → z < suc x → slice_get steps z ≡ Some cleared → (z ≡ x) ⊎ (z ≡ x → ⊥) → ⊥
      still z a b r (inl c) = going (subst (λ (y : ℕ). slice_get steps y ≡ Some cleared) c r)
      still z a b r (inr c) = o.unbroken z a (omega arith) r

      later : (y : ℕ) (m : Message) → y < suc x → slice_get told y ≡ Some (handed m) → (y ≡ x) ⊎ (y ≡ x → ⊥) → y < p
      later y m a d (inl c) = absurd (quiet m (subst (λ (z : ℕ). slice_get told z ≡ Some (handed m)) c d))
      later y m a d (inr c) = o.unused y m (omega arith) d

  -- a step that reads or passes does not clear
  pub not_cleared : (x : ℕ) (o : Option Step) → slice_get steps x ≡ o → Goes o → slice_get steps x ≡ Some cleared → ⊥
  not_cleared x o c g r = subst Goes (sym c ∙ r) g

  -- the slot stays at rest
  pub step_rests : (x : ℕ) (v : Step) (s : Slot) → slice_get steps x ≡ Some v → slice_get told x ≡ Some (reply v s)
      → AtRest x s → AtRest (suc x) (next v s)
  step_rests x cleared s c d rest = nothing_rests (suc x)
  step_rests x passed s c d rest =
      record {
        lacks = rest.lacks;
        stems = λ k h e.
            let o = rest.stems k h e in
            (o.0, on x x _ _ k h o.0 (omega arith) (not_cleared x _ c tt) (λ m r. silent≢handed (some_same (sym d ∙ r))) o.1);
      }
  step_rests x (read t b) s c d rest = go (cases_Bool (full b.last (kept t b s)))
    where
      go : (full b.last (kept t b s) ≡ true) ⊎ (full b.last (kept t b s) ≡ false) → AtRest (suc x) (settled t b s)
      go (inl f) = subst (AtRest (suc x)) (sym (cond-true _ nothing _ f)) (nothing_rests (suc x))
      go (inr f) =
          subst (AtRest (suc x)) (sym (cond-false _ nothing _ f))
          (record {
            lacks = f;
            stems = λ k h e.
                let o = kept_stems x t b s c rest k h e in (
                  o.0,
                  on x (suc x) _ _ k h o.0 (omega arith) (not_cleared x _ c tt)
                      (λ m r. silent≢handed (sym (cond-false _ _ silent f) ∙ some_same (sym d ∙ r))) o.1,
                );
          })
