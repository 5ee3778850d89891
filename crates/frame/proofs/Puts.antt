-- A group that is going into a frame, block by block.
use Rattle.std.proofs.Common.{◌≡◌, ℕ, ◌+◌, ◌-◌, ◌<◌, ◌≤◌, ◌⊎◌, List, [], ◌∷◌, ◌++◌, length, get_or, take, drop, Ok, Err, sym, refl, ap, ◌∙◌, subst, append_assoc, append-nil, arith}
use mathlib.Core.Logic.{∥∥₁_map}
use Rattle.std.specs.List.{AllByRecursion}
use Rattle.std.proofs.ByRecursion.{All-append, All-push}
use Rattle.std.proofs.lemmas.List.{take_more, drop_more, take_all, drop_all, flat_map_more, length-append, get_or-drop}
use Rattle.refusal.specs.declared.Refusal.{Refusal}
use Rattle.buffers.specs.Laid.{laid}
use Rattle.buffers.proofs.Lays.{laid_none, laid_more, laid_place, length_laid, take_laid, take_laid_below, drop_laid}
use Rattle.sending.specs.Sendings.{Block}
use Rattle.wire.specs.Wire.{block_bytes}
use Rattle.walk.specs.Laws.{OfASending}
use Rattle.frame.specs.Frames.{wires, Holds, Filled}
use Rattle.frame.specs.Groups.{Want, block_of, size_of, blocks, block_answer, then_answer, put_answer, unless_refused, before_refusal, put_blocks, Taken, SentBack}
use Rattle.frame.proofs.Tries.{size_bytes}

pub wires_append : (xs ys : List Block) → wires (xs ++ ys) ≡ wires xs ++ wires ys
wires_append [] ys = refl
wires_append (x ∷ xs) ys = ap (λ l. block_bytes x ++ l) (wires_append xs ys) ∙ sym (append_assoc (block_bytes x) (wires xs) (wires ys))

blocks_append : (xs ys : List Want) → blocks (xs ++ ys) ≡ blocks xs ++ blocks ys
blocks_append [] ys = refl
blocks_append (x ∷ xs) ys = ap (λ l. block_of x ∷ l) (blocks_append xs ys)

-- more blocks behind those that are held
pub holds_more : (xs ys : List ℕ) (bs gs : List Block) → AllByRecursion OfASending gs → ys ≡ xs ++ wires gs → Holds xs bs → Holds ys (bs ++ gs)
holds_more xs ys bs gs g e h =
    record { each = All-append OfASending bs gs h.each g; bytes = e ∙ ap (λ l. l ++ wires gs) h.bytes ∙ ap (λ l. 235 ∷ 82 ∷ l) (sym (wires_append bs gs)) }

pub holds_same : (xs ys : List ℕ) (bs : List Block) → ys ≡ xs → Holds xs bs → Holds ys (bs ++ [])
holds_same xs ys bs e h = subst (Holds ys) (sym (append-nil bs)) (record { each = h.each; bytes = e ∙ h.bytes })

pub filled_same : (xs ys : List ℕ) → ys ≡ xs → Filled xs → Filled ys
filled_same xs ys e f = subst Filled (sym e) f

-- what lies behind a write stays
laid_behind : (xs : List ℕ) (a : ℕ) (ps : List ℕ) (k : ℕ) → a + length ps ≤ length xs → a + length ps ≤ k → get_or (laid xs a ps) k 0 ≡ get_or xs k 0
laid_behind xs a ps k h far =
    let m = a + length ps in
    let e : m + (k - m) ≡ k = omega arith in
    ap (λ j. get_or (laid xs a ps) j 0) (sym e) ∙ sym (get_or-drop m (laid xs a ps) (k - m) 0) ∙ ap (λ l. get_or l (k - m) 0) (drop_laid xs a ps m (omega arith) h)
    ∙ get_or-drop m xs (k - m) 0 ∙ ap (λ j. get_or xs j 0) e

-- the first i blocks of a group are written into xs from the mark old, which has come to mark
pub record Going (n : ℕ) (xs : List ℕ) (old : ℕ) (ws : List Want) (i mark : ℕ) (ys : List ℕ) : Type 0 where
  pub answer : put_answer n old 0 ws ≡ put_answer n mark i (drop i ws)
  pub before : before_refusal n old 0 ws ≡ blocks (take i ws) ++ before_refusal n mark i (drop i ws)
  pub bytes : ys ≡ laid xs old (wires (blocks (take i ws)))
  pub place : mark ≡ old + length (wires (blocks (take i ws)))
  pub within : mark ≤ n
  pub each : AllByRecursion OfASending (blocks (take i ws))

blocks_more : (ws : List Want) (i : ℕ) (w : Want) → i < length ws → w ≡ get_or ws i w → blocks (take (i + 1) ws) ≡ blocks (take i ws) ++ block_of w ∷ []
blocks_more ws i w lt e = ap blocks (take_more ws i w lt) ∙ blocks_append (take i ws) (get_or ws i w ∷ []) ∙ ap (λ x. blocks (take i ws) ++ block_of x ∷ []) (sym e)

drop_at_w : (ws : List Want) (i : ℕ) (w : Want) → i < length ws → w ≡ get_or ws i w → drop i ws ≡ w ∷ drop (i + 1) ws
drop_at_w ws i w lt e = drop_more ws i w lt ∙ ap (λ x. x ∷ drop (i + 1) ws) (sym e)

module _ {n : ℕ} {xs : List ℕ} {old : ℕ} {ws : List Want} (room : n ≤ length xs) where
  pub going_none : old ≤ n → Going n xs old ws 0 old xs
  going_none h = record { answer = refl; before = refl; bytes = sym (laid_none xs old); place = omega arith; within = h; each = tt }

  module _ {i mark : ℕ} {ys : List ℕ} (g : Going n xs old ws i mark ys) where
    pub going_back : take old ys ≡ take old xs
    going_back =
        ap (take old) g.bytes ∙ take_laid_below xs old (wires (blocks (take i ws))) old (omega arith) (omega (arith, g.place, g.within))

    pub going_length : length ys ≡ length xs
    going_length = ap length g.bytes ∙ length_laid xs old (wires (blocks (take i ws))) (omega (arith, g.place, g.within))

    going_bytes : take mark ys ≡ take old xs ++ wires (blocks (take i ws))
    going_bytes =
        ap (λ m. take m ys) g.place ∙ ap (take (old + length (wires (blocks (take i ws))))) g.bytes ∙ take_laid xs old (wires (blocks (take i ws))) (omega (arith, g.place, g.within))

    pub going_filled : Filled (take old xs) → Filled (take mark ys)
    going_filled f = ∥∥₁_map f (λ h. (h.0 ++ blocks (take i ws), holds_more (take old xs) (take mark ys) h.0 (blocks (take i ws)) g.each going_bytes h.1))

    module _ (lt : i < length ws) (w : Want) (e : w ≡ get_or ws i w) where
      pub going_more : (x : Unit {0}) → Ok x ≡ block_answer n mark i w → OfASending (block_of w)
          → (mark' : ℕ) (ys' : List ℕ) → ys' ≡ laid ys mark (block_bytes (block_of w)) → mark' ≡ mark + size_of w → mark' ≤ n → Going n xs old ws (i + 1) mark' ys'
      going_more x ok s mark' ys' y m k =
          let d : drop i ws ≡ w ∷ drop (i + 1) ws = drop_at_w ws i w lt e in
          let bs : blocks (take (i + 1) ws) ≡ blocks (take i ws) ++ block_of w ∷ [] = blocks_more ws i w lt e in
          let more : wires (blocks (take (i + 1) ws)) ≡ wires (blocks (take i ws)) ++ block_bytes (block_of w) =
          ap wires bs ∙ sym (flat_map_more block_bytes [] (blocks (take i ws)) (block_of w)) in
          let z : size_of w ≡ length (block_bytes (block_of w)) = size_bytes n mark i w in
          record {
            answer = g.answer ∙ ap (put_answer n mark i) d ∙ ap (λ r. then_answer r (put_answer n (mark + size_of w) (i + 1) (drop (i + 1) ws))) (sym ok)
                ∙ ap (λ q. put_answer n q (i + 1) (drop (i + 1) ws)) (sym m);
            before = g.before ∙ ap (λ l. blocks (take i ws) ++ before_refusal n mark i l) d
                ∙ ap (λ r. blocks (take i ws) ++ unless_refused r (block_of w ∷ before_refusal n (mark + size_of w) (i + 1) (drop (i + 1) ws))) (sym ok)
                ∙ sym (append_assoc (blocks (take i ws)) (block_of w ∷ []) (before_refusal n (mark + size_of w) (i + 1) (drop (i + 1) ws)))
                ∙ ap (λ l. l ++ before_refusal n (mark + size_of w) (i + 1) (drop (i + 1) ws)) (sym bs)
                ∙ ap (λ q. blocks (take (i + 1) ws) ++ before_refusal n q (i + 1) (drop (i + 1) ws)) (sym m);
            bytes = laid_more xs ys ys' old mark (wires (blocks (take i ws))) (block_bytes (block_of w)) g.bytes g.place (omega arith) y ∙ ap (laid xs old) (sym more);
            place = omega (arith, g.place, ap length more, length-append (wires (blocks (take i ws))) (block_bytes (block_of w)));
            within = k;
            each = subst (AllByRecursion OfASending) (sym bs) (All-push OfASending (blocks (take i ws)) (block_of w) g.each s);
          }

      -- the block at place i is refused
      module _ (x : Refusal) (no : Err x ≡ block_answer n mark i w) where
        pub refused_answer : Err x ≡ put_answer n old 0 ws
        refused_answer =
            sym (g.answer ∙ ap (put_answer n mark i) (drop_at_w ws i w lt e) ∙ ap (λ r. then_answer r (put_answer n (mark + size_of w) (i + 1) (drop (i + 1) ws))) (sym no))

        refused_before : before_refusal n old 0 ws ≡ blocks (take i ws)
        refused_before =
            g.before ∙ ap (λ l. blocks (take i ws) ++ before_refusal n mark i l) (drop_at_w ws i w lt e)
            ∙ ap (λ r. blocks (take i ws) ++ unless_refused r (block_of w ∷ before_refusal n (mark + size_of w) (i + 1) (drop (i + 1) ws))) (sym no)
            ∙ append-nil (blocks (take i ws))

        pub refused_frame : (ys' : List ℕ) → ys' ≡ ys → SentBack (record { bytes = xs; size = n; mark = old }) (before_refusal n old 0 ws) (record { bytes = ys'; size = n; mark = old })
        refused_frame ys' y =
            let ps = wires (blocks (take i ws)) in
            let is : ys' ≡ laid xs old ps = y ∙ g.bytes in
            let h : old + length ps ≤ length xs = omega (arith, g.place, g.within) in
            subst (λ q. SentBack (record { bytes = xs; size = n; mark = old }) q (record { bytes = ys'; size = n; mark = old })) (sym refused_before)
            (record {
              size = refl;
              mark = refl;
              length_same = ap length is ∙ length_laid xs old ps h;
              below = ap (take old) y ∙ going_back;
              between = λ k low _. subst (λ l. (get_or l k 0 ≡ get_or xs k 0) ⊎ (get_or l k 0 ≡ get_or ps (k - old) 0)) (sym is)
                  (subst (λ q. (get_or (laid xs old ps) k 0 ≡ get_or xs k 0) ⊎ (get_or (laid xs old ps) k 0 ≡ get_or q (k - old) 0)) (append-nil ps) (laid_place xs old ps [] k h low));
              behind = λ k far. ap (λ l. get_or l k 0) is ∙ laid_behind xs old ps k h far;
            })

        pub refused_blocks : put_blocks n old ws ≡ []
        refused_blocks = ap (λ r. unless_refused r (blocks ws)) (sym refused_answer)

    -- all blocks are in
    module _ (past : length ws ≤ i) where
      pub whole_answer : Ok tt ≡ put_answer n old 0 ws
      whole_answer = sym (g.answer ∙ ap (put_answer n mark i) (drop_all i ws past))

      pub whole_frame : Taken (record { bytes = xs; size = n; mark = old }) (blocks ws) (record { bytes = ys; size = n; mark = mark })
      whole_frame =
          let t : take i ws ≡ ws = take_all i ws past in
          record { bytes = g.bytes ∙ ap (λ l. laid xs old (wires (blocks l))) t; size = refl; mark = g.place ∙ ap (λ l. old + length (wires (blocks l))) t }

      pub whole_holds : (bs : List Block) → Holds (take old xs) bs → Holds (take mark ys) (bs ++ put_blocks n old ws)
      whole_holds bs h =
          let t : take i ws ≡ ws = take_all i ws past in
          let r : put_blocks n old ws ≡ blocks (take i ws) = ap (λ a. unless_refused a (blocks ws)) (sym whole_answer) ∙ ap blocks (sym t) in
          subst (λ q. Holds (take mark ys) (bs ++ q)) (sym r) (holds_more (take old xs) (take mark ys) bs (blocks (take i ws)) g.each going_bytes h)
