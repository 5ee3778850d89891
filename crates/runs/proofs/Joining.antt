-- A block that fills a slot completes the message of the sending given to it.
use Rattle.std.proofs.Common.{◌≡◌, ℕ, suc, ◌+◌, ◌<◌, ◌≤◌, true, ◌⊎◌, List, [], length, get_or, Some, None, Option, sym, refl, ap, ◌∙◌, subst, ap₂, inl, inr, arith}
use Rattle.std.specs.List.{range_with_len, flat_map, slice_get}
use Rattle.std.proofs.lemmas.Bool.{and_from, or_left, or_right, cases_eq, cases_lt, eq-eqb, lt-ltb, cond-true}
use Rattle.crc.specs.Crc.{crc}
use Rattle.sending.specs.Sendings.{Block, Message, Sending, last_part, message, block, IsBlockOf}
use Rattle.gather.specs.Gathering.{Part, Slot, kept, full, body_of, whole, bears, Answer, silent, handed, faulty, right, answer}
use Rattle.runs.specs.Histories.{Step, cleared, passed, read, Reads, Unbroken, Belongs, JoinedFrom}
use Rattle.runs.proofs.Basics.{joined_parts, full_holds}
use Rattle.runs.proofs.Sendings.{has_parts}
use Rattle.runs.proofs.Origins.{Origin, AtRest, kept_stems, not_cleared}

-- a part whose block carries a check bears it
bears_is : (o : Option Part) (h : Part) (c : ℕ) → o ≡ Some h → h.check ≡ Some c → bears o c ≡ true
bears_is o h c e f = ap (λ (p : Option Part). bears p c) e ∙ bears_part h.body h.frame h.check f
  where
    bears_part : (body : List ℕ) (frame : ℕ) (check : Option ℕ) → check ≡ Some c
        → bears (Some (record { body = body; check = check; frame = frame })) c ≡ true
    bears_part body frame check f =
        ap (λ (x : Option ℕ). bears (Some (record { body = body; check = x; frame = frame })) c) f ∙ eq-eqb c c refl

-- one step reads one block
pub step_of : {t u : ℕ} {b c : Block} → Some (read t b) ≡ Some (read u c) → (t ≡ u) × (b ≡ c)
step_of {t = t} {b = b} h = (ap frame h, ap block_of h)
  where
    frame : Option Step → ℕ
    frame None = t
    frame (Some (read u c)) = u
    frame (Some cleared) = t
    frame (Some passed) = t

    block_of : Option Step → Block
    block_of None = b
    block_of (Some (read u c)) = c
    block_of (Some cleared) = b
    block_of (Some passed) = b

pub one_read : (steps : List Step) (x t u : ℕ) (b c : Block) → Reads steps x t b → Reads steps x u c → (t ≡ u) × (b ≡ c)
one_read steps x t u b c r s = step_of (sym r ∙ s)

module _ (steps : List Step) (told : List Answer) (given : ℕ → Sending) (belongs : Belongs steps given)
    (x t : ℕ) (b : Block) (s : Slot) (see : Reads steps x t b) (rest : AtRest steps told x s)
    (filled : full b.last (kept t b s) ≡ true) where
  -- what is known of step p, which read part k
  record Known (k p : ℕ) : Type 0 where
    part : Part
    held : kept t b s k ≡ Some part
    stems : Origin steps told x (suc x) b.version b.last k part p
    near : t ≤ part.frame + 255
    own : k ≡ b.part → p ≡ x

  pick : (k : ℕ) → (p : ℕ) × (k ≤ b.last → Known k p)
  pick k = go (cases_lt b.last k)
    where
      go : (b.last < k) ⊎ (k ≤ b.last) → (p : ℕ) × (k ≤ b.last → Known k p)
      go (inl c) = (x, λ l. absurd (omega arith))
      go (inr c) =
          let f = full_holds b.last (kept t b s) filled k c in
          let o = kept_stems steps told x t b s see rest k f.0 f.1 in
          (o.0, λ l. record { part = f.0; held = f.1; stems = o.1; near = o.2; own = o.3 })

  pub source : ℕ → ℕ
  source k = (pick k).0

  known : (k : ℕ) → k ≤ b.last → Known k (source k)
  unfolding source
  known k l = (pick k).1 l

  abbrev sent : Sending
  sent = given x

  unbroken : (k : ℕ) → k ≤ b.last → Unbroken steps (source k) x
  unbroken k l z a c r = go (cases_eq z x)
    where
      go : (z ≡ x) ⊎ (z ≡ x → ⊥) → ⊥
      go (inl d) = not_cleared steps told x (Some (read t b)) see tt (subst (λ (y : ℕ). slice_get steps y ≡ Some cleared) d r)
      go (inr d) = (known k l).stems.unbroken z a (omega arith) r

  not_later : (k : ℕ) → k ≤ b.last → source k ≤ x
  not_later k l = let c = (known k l).stems.before in omega arith

  -- the sending is given to all of them
  alike : (k : ℕ) → k ≤ b.last → given (source k) ≡ sent
  alike k l =
      let c = known k l in
      belongs.1 (source k) x c.part.frame t c.stems.origin b (not_later k l) (unbroken k l) c.stems.reads see c.near c.stems.version_is

  mine : IsBlockOf sent b
  mine = belongs.0 x t b see

  last_is : b.last ≡ last_part sent
  last_is = ap (λ (y : Block). y.last) mine.1.2

  count : length sent.parts ≡ suc b.last
  count = let l = last_is in let c = has_parts sent mine.0 in omega arith

  part_is : b.part ≡ mine.1.0
  part_is = ap (λ (y : Block). y.part) mine.1.2

  -- they read its blocks
  block_is : (k : ℕ) (l : k ≤ b.last) → (known k l).stems.origin ≡ block sent k
  block_is k l =
      let o = (known k l).stems in
      let r = belongs.0 (source k) (known k l).part.frame o.origin o.reads in
      let same : r.1.0 ≡ k = ap (λ (y : Block). y.part) (sym r.1.2) ∙ o.part_is in
      r.1.2 ∙ ap₂ (block) (alike k l) same

  body_at : (k : ℕ) → k < length sent.parts → body_of (kept t b s (0 + k)) ≡ get_or sent.parts k []
  body_at k l =
      let m : k ≤ b.last = let c = count in omega arith in
      let c = known k m in
      ap (λ (y : ℕ). body_of (kept t b s y)) (omega arith) ∙ ap body_of c.held ∙ c.stems.body_is ∙ ap (λ (y : Block). y.body) (block_is k m)

  whole_is : whole b.last (kept t b s) ≡ (message sent).bytes
  whole_is =
      subst (λ (y : ℕ). flat_map (λ (k : ℕ). body_of (kept t b s k)) (range_with_len 0 y) ≡ (message sent).bytes) count
      (joined_parts (λ (k : ℕ). body_of (kept t b s k)) sent.parts 0 body_at)

  check_at : 0 < b.last → bears (kept t b s b.last) (crc (whole b.last (kept t b s))) ≡ true
  check_at l =
      let c = known b.last (omega arith) in
      bears_is (kept t b s b.last) c.part _ c.held
      (c.stems.check_is ∙ ap (λ (y : Block). y.check) (block_is b.last (omega arith))
      ∙ cond-true _ _ None (and_from _ _ (lt-ltb 0 b.last l) (eq-eqb b.last (last_part sent) last_is))
      ∙ ap (λ (y : List ℕ). Some (crc y)) (sym whole_is))

  right_is : right b.last (kept t b s) ≡ true
  right_is = go (cases_eq b.last 0)
    where
      go : (b.last ≡ 0) ⊎ (b.last ≡ 0 → ⊥) → right b.last (kept t b s) ≡ true
      go (inl c) = or_left _ _ (eq-eqb _ _ c)
      go (inr c) = or_right _ _ (check_at (omega arith))

  -- the block hands the message over
  pub answer_is : answer t b s ≡ handed (message sent)
  answer_is =
      cond-true _ _ silent filled
      ∙ cond-true _ _ faulty right_is
      ∙ ap handed
      (λ i. record { number = (mine.1.2 i).number; version = (mine.1.2 i).version; bytes = whole_is i })

  below : (k : ℕ) → k ≤ last_part sent → k ≤ b.last
  below k l = let c = last_is in omega arith

  pub joined_from : (m : Message) → m ≡ message sent → JoinedFrom steps told given x m source
  joined_from m same =
      record {
        is_sending = mine.0;
        message_is = same;
        block_read = λ k l.
            let c = known k (below k l) in
            (c.part.frame, subst (Reads steps (source k) c.part.frame) (block_is k (below k l)) c.stems.reads);
        given_same = λ k l. alike k (below k l);
        not_later = λ k l. not_later k (below k l);
        unbroken = λ k l. unbroken k (below k l);
        recent = λ k u v c d l r now.
            let o = known k (below k l) in
            let e = (one_read steps (source k) u o.part.frame c o.stems.origin r o.stems.reads).0 in
            let f = (one_read steps x v t d b now see).0 in
            let near = o.near in
            omega arith;
        own =
            let l : b.part ≤ b.last = let c = count in let i = mine.1.1 in let q = part_is in omega arith in
            (b.part, let c = last_is in omega arith, (known b.part l).own refl);
        unused = λ k y n l e d. (known k (below k l)).stems.unused y n e d;
      }
