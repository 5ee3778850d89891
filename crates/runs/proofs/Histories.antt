-- What is promised of every history of one number.
use Rattle.std.proofs.Common.{◌≡◌, ℕ, suc, true, false, ◌⊎◌, List, [], ◌∷◌, length, Some, sym, refl, ap, ◌∙◌, subst, inl, inr, arith}
use Rattle.std.specs.List.{slice_get}
use Rattle.std.proofs.lemmas.Bool.{cases_Bool, cond-false}
use Rattle.sending.specs.Sendings.{Block, Message, Sending, message}
use Rattle.gather.specs.Gathering.{Slot, nothing, kept, full, Answer, silent, handed, faulty, answer}
use Rattle.runs.specs.Histories.{Step, cleared, passed, read, next, reply, replies, Reads, Rising, Belongs, EachMessageIsJoinedFromOneSending, NoJoinedPartsFailTheirCheck, EachSendingReadWholeIsHandedOver}
use Rattle.runs.proofs.Basics.{some_same, nth_below, nth_at}
use Rattle.runs.proofs.Origins.{walk, AtRest, nothing_rests, step_rests}
use Rattle.runs.proofs.Joining.{source, answer_is, joined_from}
use Rattle.runs.proofs.Handing.{done}

pub length_replies : (steps : List Step) (slot : Slot) → length (replies steps slot) ≡ length steps
length_replies [] slot = refl
length_replies (v ∷ vs) slot = ap suc (length_replies vs (next v slot))

abbrev Speaks : Answer → Type 0
Speaks silent = ⊥
Speaks (handed m) = Unit {0}
Speaks faulty = Unit {0}

module _ (steps : List Step) (given : ℕ → Sending) (belongs : Belongs steps given) where
  abbrev told : List Answer
  told = replies steps nothing

  -- an answer that is not silent is given to a block that fills the slot
  record Filling (x : ℕ) (a : Answer) : Type 0 where
    frame : ℕ
    arrived : Block
    slot : Slot
    reads : Reads steps x frame arrived
    rest : AtRest steps told x slot
    filled : full arrived.last (kept frame arrived slot) ≡ true
    answered : a ≡ answer frame arrived slot

  filling : (x : ℕ) (a : Answer) → slice_get told x ≡ Some a → Speaks a → Filling x a
  filling x a h speaks =
      let l = nth_below told x a h in
      let n = length_replies steps nothing in
      let v = nth_at steps x (omega arith) in
      let w = walk (AtRest steps told) steps nothing (step_rests steps told) (nothing_rests steps told 0) x (omega arith) in
      go v.0 v.1 w.0 w.1 (some_same (sym h ∙ w.2 v.0 v.1))
    where
      go : (v : Step) → slice_get steps x ≡ Some v → (slot : Slot) → AtRest steps told x slot → a ≡ reply v slot → Filling x a
      go cleared c slot rest d = absurd (subst Speaks d speaks)
      go passed c slot rest d = absurd (subst Speaks d speaks)
      go (read t b) c slot rest d = at (cases_Bool (full b.last (kept t b slot)))
        where
          at : (full b.last (kept t b slot) ≡ true) ⊎ (full b.last (kept t b slot) ≡ false) → Filling x a
          at (inl f) = record { frame = t; arrived = b; slot = slot; reads = c; rest = rest; filled = f; answered = d }
          at (inr f) = absurd (subst Speaks (d ∙ cond-false _ _ silent f) speaks)

  -- it is the message of the sending
  message_told : (x : ℕ) (a : Answer) (f : Filling x a) → a ≡ handed (message (given x))
  message_told x a f =
      f.answered ∙ answer_is steps told given belongs x f.frame f.arrived f.slot f.reads f.rest f.filled

  same_handed : {m n : Message} → handed m ≡ handed n → m ≡ n
  same_handed {m = m} h = ap message_of h
    where
      message_of : Answer → Message
      message_of silent = m
      message_of (handed n) = n
      message_of faulty = m

  pub messages_joined : EachMessageIsJoinedFromOneSending steps told given
  messages_joined x m h =
      let f = filling x (handed m) h tt in (
        source steps told given belongs x f.frame f.arrived f.slot f.reads f.rest f.filled,
        joined_from steps told given belongs x f.frame f.arrived f.slot f.reads f.rest f.filled m
            (same_handed (message_told x (handed m) f)),
      )

  pub none_fail : NoJoinedPartsFailTheirCheck told
  none_fail x h = absurd (subst NotFaulty (sym (message_told x faulty (filling x faulty h tt))) tt)
    where
      NotFaulty : Answer → Type 0
      NotFaulty silent = Unit {0}
      NotFaulty (handed m) = Unit {0}
      NotFaulty faulty = ⊥

  pub sendings_handed : Rising steps → EachSendingReadWholeIsHandedOver steps told
  sendings_handed rising s is lo hi quiet close all only = done steps given rising belongs s is lo hi quiet close all only
