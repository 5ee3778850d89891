-- Messages as they are written, and what a written output holds.
use Rattle.std.proofs.Common.{◌≡◌, ℕ, ◌+◌, ◌-◌, ◌≤◌, Bool, true, false, cond, ltb, List, length, take, Some, None, Ok, Err, Option, Result, sym, refl, ap, ◌∙◌, arith}
use Rattle.std.proofs.lemmas.List.{length-append, take_at}
use Rattle.std.proofs.lemmas.Bool.{ltb-false}
use Rattle.refusal.specs.declared.Refusal.{Refusal}
use Rattle.refusal.specs.declared.Refusal.TheVariants.{Body, OutputLength}
use Rattle.buffers.specs.Laid.{laid}
use Rattle.buffers.specs.Places.{unless, told, Smallest}
use Rattle.buffers.proofs.Steps.{both_none}
use Rattle.body.specs.declared.message.Channel.{Channel}
use Rattle.body.specs.Format.{ones, content_bytes, channel_bytes, content_wrong, channel_wrong, neither, content_id_bytes, content_id_wrong}
use Rattle.body.specs.Messages.{Identified, content_id}
use Rattle.body.specs.Laws.{RefusesFirst}
use Rattle.body.proofs.Laws.{refuses_first}
use Rattle.body_writing.specs.Outputs.{answer_for, output_for, left}

pub message_length : (c : Option Identified) (h : Option Channel) → length (content_id_bytes ones (content_id c h)) ≡ 1 + (length (content_bytes ones c) + length (channel_bytes ones.channel h))
unfolding content_id_bytes
message_length c h = simp length-append (omega arith)

pub message_right : (ok : ℕ → Bool) (c : Option Identified) (h : Option Channel) → content_id_wrong ok (content_id c h) ≡ None → (content_wrong ok c ≡ None) × (channel_wrong (1 + length (content_bytes ones c)) h ≡ None)
unfolding content_id_wrong
message_right ok c h e =
    let n = both_none (neither c h) _ e in
    let k = both_none (content_wrong ok c) _ n.1 in
    (k.0, (both_none (channel_wrong _ h) None k.1).0)

-- what was written stands at the front of the output
by_room : (t : Bool) (w : Option ℕ) (body out after : List ℕ) (n : ℕ) (why : Refusal) → Ok n ≡ cond t (Err why) (unless Body w (length body)) → after ≡ cond t out (left w body out) → (w ≡ None) × (take n after ≡ body)
unfolding laid
by_room true w body out after n why e f = let z : ◌≡◌ {A = ℕ} 0 1 = cc in absurd (omega arith)
by_room false (Some p) body out after n why e f = let z : ◌≡◌ {A = ℕ} 0 1 = cc in absurd (omega arith)
by_room false None body out after n why e f =
    let l : n ≡ length body = cc in
    (refl, ap (take n) f ∙ take_at body _ n (sym l))

written : (w : Option ℕ) (body out after : List ℕ) (n : ℕ) → Ok n ≡ answer_for w body out → after ≡ output_for w body out → (w ≡ None) × (take n after ≡ body)
written w body out after n e f = by_room _ w body out after n _ e f

-- what reads the body as a message reads what was written as that message
pub read_back : {A : Type 0} (f : List ℕ → A) (x : A) (w : Option ℕ) (body out after : List ℕ) (n : ℕ) → Ok n ≡ answer_for w body out → after ≡ output_for w body out → (w ≡ None → x ≡ f body) → f (take n after) ≡ x
read_back f x w body out after n e d back = let was = written w body out after n e d in ap f was.1 ∙ sym (back was.0)

-- and within it
by_room_within : (t : Bool) (w : Option ℕ) (body out : List ℕ) (n : ℕ) (why : Refusal) → ltb (length out) (length body) ≡ t → Ok n ≡ cond t (Err why) (unless Body w (length body)) → n ≤ length out
by_room_within true w body out n why h e = let z : ◌≡◌ {A = ℕ} 0 1 = cc in absurd (omega arith)
by_room_within false (Some p) body out n why h e = let z : ◌≡◌ {A = ℕ} 0 1 = cc in absurd (omega arith)
by_room_within false None body out n why h e =
    let l : n ≡ length body = cc in
    omega (arith, ltb-false _ _ h)

pub written_within : (w : Option ℕ) (body out : List ℕ) (n : ℕ) → Ok n ≡ answer_for w body out → n ≤ length out
written_within w body out n e = by_room_within (ltb (length out) (length body)) w body out n _ refl e

-- what is read as a message is not refused
pub never : {A B : Type 0} (f : A → B) (read : List ℕ → Result A Refusal) (x : A) (after : List ℕ) (n : ℕ) (why : Refusal) → Err why ≡ told f (read (take (n - 0) after)) → read (take n after) ≡ Ok x → ⊥
never f read x after n why e h =
    let whole : n - 0 ≡ n = omega arith in
    let k : Err why ≡ told f (Ok x) = e ∙ (ap (λ i. told f (read (take i after))) whole ∙ ap (told f) h) in
    cc k

-- where the output has room, a message is refused at its smallest wrong place; where it has none, by the output's length
by_room_refuses : (t : Bool) (W : ℕ → Type 0) (w : Option ℕ) (n l : ℕ) (r : Result ℕ Refusal) → r ≡ cond t (Err (OutputLength l)) (unless Body w n) → Smallest W w → RefusesFirst W r
by_room_refuses true W w n l r e s =
    record {
      wrong_there = λ p h. let z : ◌≡◌ {A = ℕ} 0 1 = cc in absurd (omega arith);
      none_below = λ p h. let z : ◌≡◌ {A = ℕ} 0 1 = cc in absurd (omega arith);
      none_at_all = λ x h. let z : ◌≡◌ {A = ℕ} 0 1 = cc in absurd (omega arith);
    }
by_room_refuses false W w n l r e s = refuses_first W w n r e s

pub refuses_first_out : (W : ℕ → Type 0) (w : Option ℕ) (body out : List ℕ) (r : Result ℕ Refusal) → r ≡ answer_for w body out → Smallest W w → RefusesFirst W r
refuses_first_out W w body out r e s = by_room_refuses (ltb (length out) (length body)) W w (length body) (length out) r e s
