-- What a table answers to a block, from what the slot of its number answers.
use Rattle.std.proofs.Common.{◌≡◌, ℕ, Bool, true, false, cond, ◌&&◌, eqb, List, length, drop, sym, refl, ap, ◌∙◌, subst, arith, length-append}
use mathlib.Core.Path.{fun_ext}
use Rattle.std.proofs.lemmas.List.{take_at}
use Rattle.std.proofs.lemmas.Bool.{eqb-true}
use Rattle.sending.specs.Sendings.{Block, Message}
use Rattle.gather.specs.Gathering as value
use Rattle.gather.specs.Gathering.{nothing, settled, Answer, silent, handed, faulty, answer, full, right, whole, kept}
use Rattle.gather.specs.Arriving.{Table, watched, arrive, answer_to}
use Rattle.gather.specs.Watching.{fits_slot}
use Rattle.gather.specs.declared.slot.Arrival.{Arrival}
use Rattle.gather.specs.declared.slot.Arrival.TheVariants.{NotWatched, Unfit, Silent, Faulty}
use Rattle.gather.specs.Keeping.{with_part, ended, ended_out, emptied, fronted}
use Rattle.gather.specs.Serving.{said, written, meant, Short, reply, arrival, next_table}

-- the message of the parts that are kept
abbrev joined_message : ℕ → Block → value.Slot → Message
joined_message t b s = record { number = b.number; version = b.version; bytes = whole b.last (kept t b s) }

-- an answer by its tests: watched, all parts held, right
abbrev by_tests : Message → Bool → Bool → Bool → Answer
by_tests m w f r = cond w (cond f (cond r (handed m) faulty) silent) silent

-- what a slot answers, in the code's words and in the model's
said_ended : (t : ℕ) (b : Block) (s : value.Slot) → said (answer t b s) ≡ ended (with_part t b s)
said_ended t b s = go (full b.last (kept t b s)) (right b.last (kept t b s))
  where
    go : (f r : Bool) → said (cond f (cond r (handed (joined_message t b s)) faulty) silent) ≡ cond f (cond r (said (handed (joined_message t b s))) Faulty) Silent
    go true true = refl
    go true false = refl
    go false r = refl

written_ended : (t : ℕ) (b : Block) (s : value.Slot) (out : List ℕ) → written (answer t b s) out ≡ ended_out (with_part t b s) out
written_ended t b s out = go (full b.last (kept t b s)) (right b.last (kept t b s))
  where
    go : (f r : Bool) → written (cond f (cond r (handed (joined_message t b s)) faulty) silent) out ≡ cond f (cond r (fronted (whole b.last (kept t b s)) out) out) out
    go true true = refl
    go true false = refl
    go false r = refl

module _ (watch : List ℕ) (t : ℕ) (b : Block) (table : Table) where
  -- the code's answer with the buffer means the model's answer
  pub means_reply : (r : Arrival) (out after : List ℕ) → r ≡ arrival watch t b table → after ≡ written (reply watch t b table) out → meant b r after ≡ reply watch t b table
  means_reply r out after e e' =
      ap (λ (z : Arrival). meant b z after) e
      ∙ ap (meant b (arrival watch t b table)) e'
      ∙ go (watched watch b.number) (fits_slot b) (full b.last (kept t b (table b.number))) (right b.last (kept t b (table b.number)))
    where
      go : (w q f r : Bool) → meant b (cond w (cond q (said (by_tests (joined_message t b (table b.number)) w f r)) Unfit) NotWatched) (written (cond q (by_tests (joined_message t b (table b.number)) w f r) silent) out) ≡ cond q (by_tests (joined_message t b (table b.number)) w f r) silent
      go true true true true =
          let x = whole b.last (kept t b (table b.number)) in
          ap (λ (bytes : List ℕ). handed (record { number = b.number; version = b.version; bytes = bytes })) (take_at x (drop (length x) out) (length x) refl)
      go true true true false = refl
      go true true false r = refl
      go true false f r = refl
      go false true f r = refl
      go false false f r = refl

  -- a message fits into the buffer
  pub fits_out : (r : Arrival) (out after : List ℕ) → r ≡ arrival watch t b table → after ≡ written (reply watch t b table) out → length after ≡ 200 → Short r
  fits_out r out after e e' long =
      subst Short (sym e) (go (watched watch b.number) (fits_slot b) (full b.last (kept t b (table b.number))) (right b.last (kept t b (table b.number))) (sym (ap length e') ∙ long))
    where
      go : (w q f r : Bool) → length (written (cond q (by_tests (joined_message t b (table b.number)) w f r) silent) out) ≡ 200
          → Short (cond w (cond q (said (by_tests (joined_message t b (table b.number)) w f r)) Unfit) NotWatched)
      go true true true true l =
          let x = whole b.last (kept t b (table b.number)) in
          let n = length-append x (drop (length x) out) in
          omega arith
      go true true true false l = tt
      go true true false r l = tt
      go true false f r l = tt
      go false q f r l = tt

  -- a number that is watched, whose slot is s
  module _ (s : value.Slot) (is : watched watch b.number ≡ true) (at : table b.number ≡ s) where
    answered : answer_to watch t b table ≡ answer t b s
    answered = ap (λ (z : Bool). cond z (answer t b (table b.number)) silent) is ∙ ap (answer t b) at

    pub slot_answer : cond (fits_slot b) (ended (with_part t b s)) Unfit ≡ arrival watch t b table
    slot_answer =
        ap (λ (z : Arrival). cond (fits_slot b) z Unfit) (sym (said_ended t b s) ∙ ap said (sym answered))
        ∙ ap (λ (z : Bool). cond z (cond (fits_slot b) (said (answer_to watch t b table)) Unfit) NotWatched) (sym is)

    pub slot_out : (out : List ℕ) → cond (fits_slot b) (ended_out (with_part t b s) out) out ≡ written (reply watch t b table) out
    slot_out out =
        ap (λ (z : List ℕ). cond (fits_slot b) z out) (sym (written_ended t b s out) ∙ ap (λ (a : Answer). written a out) (sym answered))
        ∙ go (fits_slot b)
      where
        go : (q : Bool) → cond q (written (answer_to watch t b table) out) out ≡ written (cond q (answer_to watch t b table) silent) out
        go true = refl
        go false = refl

    pub slot_next : (after : Table) (s' : value.Slot) → s' ≡ cond (fits_slot b) (emptied (with_part t b s)) s
        → ((n : ℕ) → after n ≡ cond (eqb n b.number) s' (table n)) → after ≡ next_table watch t b table
    slot_next after s' e all = go (fits_slot b) e
      where
        here : (n : ℕ) → eqb n b.number ≡ true → table n ≡ s
        here n h = ap table (eqb-true n b.number h) ∙ at

        pick : (f : value.Slot → value.Slot) (n : ℕ) (q : Bool) → (q ≡ true → table n ≡ s) → cond q (f s) (table n) ≡ cond q (f (table n)) (table n)
        pick f n true h = ap f (sym (h refl))
        pick f n false h = refl

        stay : (n : ℕ) (q : Bool) → cond q (table n) (table n) ≡ table n
        stay n true = refl
        stay n false = refl

        go : (q : Bool) → s' ≡ cond q (settled t b s) s → after ≡ cond q (arrive watch t b table) table
        go true e = fun_ext (λ (n : ℕ). all n
            ∙ ap (λ (z : value.Slot). cond (eqb n b.number) z (table n)) e
            ∙ pick (settled t b) n (eqb n b.number) (here n)
            ∙ ap (λ (z : Bool). cond (z && eqb n b.number) (settled t b (table n)) (table n)) (sym is))
        go false e = fun_ext (λ (n : ℕ). all n
            ∙ ap (λ (z : value.Slot). cond (eqb n b.number) z (table n)) e
            ∙ pick (λ (z : value.Slot). z) n (eqb n b.number) (here n)
            ∙ stay n (eqb n b.number))

  -- a number that isn't watched
  module _ (is : watched watch b.number ≡ false) where
    pub absent_answer : NotWatched ≡ arrival watch t b table
    absent_answer = ap (λ (z : Bool). cond z (cond (fits_slot b) (said (answer_to watch t b table)) Unfit) NotWatched) (sym is)

    pub absent_reply : silent ≡ reply watch t b table
    absent_reply = go (fits_slot b) ∙ ap (λ (z : Bool). cond (fits_slot b) (cond z (answer t b (table b.number)) silent) silent) (sym is)
      where
        go : (q : Bool) → silent ≡ cond q silent silent
        go true = refl
        go false = refl

    pub absent_next : table ≡ next_table watch t b table
    absent_next = go (fits_slot b)
      where
        go : (q : Bool) → table ≡ cond q (arrive watch t b table) table
        go true = fun_ext (λ (n : ℕ). ap (λ (z : Bool). cond (z && eqb n b.number) (settled t b (table n)) (table n)) (sym is))
        go false = refl
