-- Groups that are put into a frame one after the other, and the frame that comes of them.
use Rattle.std.proofs.Common.{◌≡◌, ℕ, suc, ◌+◌, ◌-◌, ◌<◌, ◌≤◌, Bool, true, false, cond, List, [], ◌∷◌, ◌++◌, length, get_or, take, drop, set, replicate, None, Ok, Err, Option, Result, sym, refl, ap, ◌∙◌, subst, append_assoc, append-nil, add-zero, arith}
use Rattle.std.specs.Result.{result_err}
use Rattle.std.proofs.lemmas.List.{take_more, drop_more, take_all, length-append, length-take-le, set_at}
use Rattle.std.proofs.lemmas.Bool.{lt-ltb, le-ltb}
use Rattle.refusal.specs.declared.Refusal.{Refusal}
use Rattle.refusal.specs.declared.Refusal.TheVariants.{OutputLength, Payload}
use Rattle.sending.specs.Sendings.{Block}
use Rattle.walk.specs.Laws.{payload_of}
use Rattle.frame.specs.Frames.{wires, Holds}
use Rattle.frame.specs.Groups.{Want, blocks, put_answer, put_blocks, unless_refused, Open, After}
use Rattle.frame.specs.Marking.{frame_length, groups_blocks, groups_refusals, frame_blocks, frame_payload, frame_of, not_refused}
use Rattle.frame.proofs.Openings.{begun}
use Rattle.frame.proofs.Puts.{wires_append}

-- the mark after some groups
abbrev end_of : ℕ → ℕ → List (List Want) → ℕ
end_of n m gs = m + length (wires (groups_blocks n m gs))

end_shift : (n m : ℕ) (g : List Want) (gs : List (List Want)) → end_of n (m + length (wires (put_blocks n m g))) gs ≡ end_of n m (g ∷ gs)
end_shift n m g gs =
    let a = wires_append (put_blocks n m g) (groups_blocks n (m + length (wires (put_blocks n m g))) gs) in
    omega (arith, ap length a, length-append (wires (put_blocks n m g)) (wires (groups_blocks n (m + length (wires (put_blocks n m g))) gs)))

blocks_then : (n m : ℕ) (gs hs : List (List Want)) → groups_blocks n m (gs ++ hs) ≡ groups_blocks n m gs ++ groups_blocks n (end_of n m gs) hs
blocks_then n m [] hs = ap (λ q. groups_blocks n q hs) (omega arith)
blocks_then n m (g ∷ gs) hs =
    let m' = m + length (wires (put_blocks n m g)) in
    ap (λ l. put_blocks n m g ++ l) (blocks_then n m' gs hs ∙ ap (λ q. groups_blocks n m' gs ++ groups_blocks n q hs) (end_shift n m g gs))
    ∙ sym (append_assoc (put_blocks n m g) (groups_blocks n m' gs) (groups_blocks n (end_of n m (g ∷ gs)) hs))

refusals_then : (n m : ℕ) (gs hs : List (List Want)) → groups_refusals n m (gs ++ hs) ≡ groups_refusals n m gs ++ groups_refusals n (end_of n m gs) hs
refusals_then n m [] hs = ap (λ q. groups_refusals n q hs) (omega arith)
refusals_then n m (g ∷ gs) hs =
    let m' = m + length (wires (put_blocks n m g)) in
    ap (λ l. result_err (put_answer n m 0 g) ∷ l) (refusals_then n m' gs hs ∙ ap (λ q. groups_refusals n m' gs ++ groups_refusals n q hs) (end_shift n m g gs))

refusals_many : (n m : ℕ) (gs : List (List Want)) → length (groups_refusals n m gs) ≡ length gs
refusals_many n m [] = refl
refusals_many n m (g ∷ gs) = ap suc (refusals_many n (m + length (wires (put_blocks n m g))) gs)

-- the mark and the length after a group
pub after_mark : (f g : Open) (ws : List Want) (r : Result Unit Refusal) → r ≡ put_answer f.size f.mark 0 ws → After f ws r g → (g.mark ≡ f.mark + length (wires (put_blocks f.size f.mark ws))) × (g.size ≡ f.size)
after_mark f g ws (Ok x) e t =
    (t.mark ∙ ap (λ r. f.mark + length (wires (unless_refused r (blocks ws)))) e, t.size)
after_mark f g ws (Err x) e t =
    (t.mark ∙ sym (add-zero f.mark) ∙ ap (λ r. f.mark + length (wires (unless_refused r (blocks ws)))) e, t.size)

-- the first i groups have been put into a frame of n bytes from the mark old, which has come to mark
pub record Marking (n old : ℕ) (start : List ℕ) (all : List (Option Refusal)) (gs : List (List Want)) (i size mark : ℕ) (filled : List ℕ) (out : List (Option Refusal)) : Type 0 where
  pub size_same : size ≡ n
  pub place : mark ≡ end_of n old (take i gs)
  pub holds : (bs : List Block) → Holds start bs → Holds filled (bs ++ groups_blocks n old (take i gs))
  pub noted : out ≡ groups_refusals n old (take i gs) ++ drop i all

module _ {n old : ℕ} {start : List ℕ} {all : List (Option Refusal)} {gs : List (List Want)} (room : length gs ≤ length all) where
  pub marking_none : Marking n old start all gs 0 n old start all
  marking_none = record { size_same = refl; place = omega arith; holds = λ bs h. subst (Holds start) (sym (append-nil bs)) h; noted = refl }

  module _ {i size mark : ℕ} {filled : List ℕ} {out : List (Option Refusal)} (m : Marking n old start all gs i size mark filled out) where
    pub marking_more : i < length gs → (g : List Want) → g ≡ get_or gs i g → (r : Result Unit Refusal) → r ≡ put_answer size mark 0 g
        → (size' mark' : ℕ) (filled' : List ℕ) → size' ≡ size → mark' ≡ mark + length (wires (put_blocks size mark g))
        → ((bs : List Block) → Holds filled bs → Holds filled' (bs ++ put_blocks size mark g))
        → (out' : List (Option Refusal)) → out' ≡ set out i (result_err r) → Marking n old start all gs (i + 1) size' mark' filled' out'
    marking_more lt g e r a size' mark' filled' sz mk hold out' o =
        let front = take i gs in
        let t : take (i + 1) gs ≡ front ++ g ∷ [] = take_more gs i g lt ∙ ap (λ x. front ++ x ∷ []) (sym e) in
        let q : put_blocks size mark g ≡ put_blocks n (end_of n old front) g = ap (λ z. put_blocks z mark g) m.size_same ∙ ap (λ z. put_blocks n z g) m.place in
        let bs : groups_blocks n old (take (i + 1) gs) ≡ groups_blocks n old front ++ put_blocks size mark g =
        ap (groups_blocks n old) t ∙ blocks_then n old front (g ∷ []) ∙ ap (λ l. groups_blocks n old front ++ l) (append-nil (put_blocks n (end_of n old front) g) ∙ sym q) in
        let rs : groups_refusals n old (take (i + 1) gs) ≡ groups_refusals n old front ++ result_err r ∷ [] =
        ap (groups_refusals n old) t ∙ refusals_then n old front (g ∷ [])
        ∙ ap (λ z. groups_refusals n old front ++ result_err z ∷ []) (sym (a ∙ ap (λ z. put_answer z mark 0 g) m.size_same ∙ ap (λ z. put_answer n z 0 g) m.place)) in
        let many : length (groups_refusals n old front) ≡ i = refusals_many n old front ∙ length-take-le i gs (omega arith) in
        record {
          size_same = sz ∙ m.size_same;
          place = omega (arith, mk, m.place, ap (λ l. length (wires l)) bs, ap length (wires_append (groups_blocks n old front) (put_blocks size mark g)), length-append (wires (groups_blocks n old front)) (wires (put_blocks size mark g)));
          holds = λ cs h. subst (Holds filled') (append_assoc cs (groups_blocks n old front) (put_blocks size mark g) ∙ ap (λ l. cs ++ l) (sym bs)) (hold (cs ++ groups_blocks n old front) (m.holds cs h));
          noted = o ∙ ap (λ l. set l i (result_err r)) (m.noted ∙ ap (λ l. groups_refusals n old front ++ l) (drop_more all i None (omega arith)))
              ∙ set_at (groups_refusals n old front) (get_or all i None) (drop (i + 1) all) (result_err r) i many
              ∙ sym (append_assoc (groups_refusals n old front) (result_err r ∷ []) (drop (i + 1) all)) ∙ ap (λ l. l ++ drop (i + 1) all) (sym rs);
        }

    -- every group has been tried
    module _ (past : length gs ≤ i) (end : i ≤ length gs) where
      whole : take i gs ≡ gs
      whole = take_all i gs past

      pub marked_mark : mark ≡ end_of n old gs
      marked_mark = m.place ∙ ap (end_of n old) whole

      pub marked_holds : (bs : List Block) → Holds start bs → Holds filled (bs ++ groups_blocks n old gs)
      marked_holds bs h = subst (λ l. Holds filled (bs ++ groups_blocks n old l)) whole (m.holds bs h)

      pub marked_noted : out ≡ groups_refusals n old gs ++ drop (length gs) all
      marked_noted = m.noted ∙ ap (λ l. groups_refusals n old l ++ drop i all) whole ∙ ap (λ k. groups_refusals n old gs ++ drop k all) (omega arith)

-- what marking a frame answers
module _ (room n : ℕ) (gs : List (List Want)) where
  pub frame_short : room < length gs → Err (OutputLength room) ≡ frame_of room n gs
  unfolding frame_of
  frame_short h = sym (ap (λ t. cond t (Err (OutputLength room)) (cond (frame_length n) (Ok (frame_payload n gs)) (Err Payload))) (lt-ltb room (length gs) h))

  after_room : length gs ≤ room → (t : Bool) → frame_length n ≡ t → frame_of room n gs ≡ cond t (Ok (frame_payload n gs)) (Err Payload)
  unfolding frame_of
  after_room h t e =
      ap (λ u. cond u (Err (OutputLength room)) (cond (frame_length n) (Ok (frame_payload n gs)) (Err Payload))) (le-ltb room (length gs) h)
      ∙ ap (λ u. cond u (Ok (frame_payload n gs)) (Err Payload)) e

  pub frame_wrong : length gs ≤ room → frame_length n ≡ false → Err Payload ≡ frame_of room n gs
  frame_wrong h e = sym (after_room h false e)

  pub frame_right : length gs ≤ room → frame_length n ≡ true → Ok (frame_payload n gs) ≡ frame_of room n gs
  frame_right h e = sym (after_room h true e)

-- the frame f of an opened frame, once every group has been tried
module _ (n : ℕ) (gs : List (List Want)) (o f : Open) (opens : o ≡ begun n) where
  pub made_holds : ((bs : List Block) → Holds (take o.mark o.bytes) bs → Holds (take f.mark f.bytes) (bs ++ groups_blocks o.size o.mark gs)) → Holds (take f.mark f.bytes) (frame_blocks n gs)
  made_holds hold =
      subst (Holds (take f.mark f.bytes)) (ap (λ q. groups_blocks q.size q.mark gs) opens)
      (hold [] (record { each = tt; bytes = ap (λ q. take q.mark q.bytes) opens }))

  pub made_payload : Holds (take f.mark f.bytes) (frame_blocks n gs) → f.size ≡ o.size → f.mark ≡ end_of o.size o.mark gs
      → (p : List ℕ) → p ≡ take f.mark f.bytes ++ replicate (f.size - f.mark) 0 → p ≡ frame_payload n gs
  made_payload h sz mk p e =
      let s : f.size ≡ n = sz ∙ ap (λ q. q.size) opens in
      let m : f.mark ≡ 2 + length (wires (frame_blocks n gs)) = mk ∙ ap (λ q. end_of q.size q.mark gs) opens in
      e ∙ ap (λ l. l ++ replicate (f.size - f.mark) 0) h.bytes ∙ ap (λ z. payload_of 235 82 (frame_blocks n gs) (z - f.mark)) s ∙ ap (λ z. payload_of 235 82 (frame_blocks n gs) (n - z)) m

  pub made_noted : (k : ℕ) (all out : List (Option Refusal)) → k ≡ length gs → out ≡ groups_refusals o.size o.mark gs ++ drop k all → out ≡ groups_refusals n 2 gs ++ drop (length gs) all
  made_noted k all out e is = is ∙ ap (λ q. groups_refusals q.size q.mark gs ++ drop k all) opens ∙ ap (λ z. groups_refusals n 2 gs ++ drop z all) e

kept_first : (g : List Want) (gs : List (List Want)) (r : Result Unit Refusal) (rs : List (Option Refusal)) → not_refused (g ∷ gs) (result_err r ∷ rs) ≡ unless_refused r (blocks g) ++ not_refused gs rs
kept_first g gs (Ok x) rs = refl
kept_first g gs (Err e) rs = refl

-- the blocks of a frame are those of the groups not refused
pub blocks_kept : (n m : ℕ) (gs : List (List Want)) (rest : List (Option Refusal)) → not_refused gs (groups_refusals n m gs ++ rest) ≡ groups_blocks n m gs
blocks_kept n m [] rest = refl
blocks_kept n m (g ∷ gs) rest =
    let m' = m + length (wires (put_blocks n m g)) in
    kept_first g gs (put_answer n m 0 g) (groups_refusals n m' gs ++ rest) ∙ ap (λ l. put_blocks n m g ++ l) (blocks_kept n m' gs rest)
