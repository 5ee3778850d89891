-- Parts of a body: what is there of them, and what reading them tells.
use Rattle.std.proofs.Common.{◌≡◌, ℕ, ◌+◌, ◌-◌, ◌%◌, ◌<◌, ◌≤◌, Bool, true, false, List, length, take, drop, min, cond, nat_lt, nat_le, is_some, IfSome, Some, None, Option, Result, Ok, Err, refl, sym, ap, ◌∙◌, ⊎_elim, arith}
use Rattle.std.proofs.lemmas.List.{take_all, length-drop, length-take-le, get_or-take}
use Rattle.std.proofs.lemmas.Bool.{cases_lt, ltb-false}
use Rattle.std.specs.Prelude.{slice_index}
use Rattle.std.specs.Option.{option_transpose, option_map_or, MatchOption, option_map}
use Rattle.refusal.specs.declared.Refusal.{Refusal}
use Rattle.refusal.specs.declared.Refusal.TheVariants.{Body}
use Rattle.buffers.specs.Places.{wrong, unless, part, present, told}
use Rattle.buffers.proofs.Steps.{clear, not_wrong, both_none}
use Rattle.body.specs.declared.message.Time.{Time}
use Rattle.body.specs.declared.message.Channel.{Channel}
use Rattle.body.specs.declared.message.Content.{Content}
use Rattle.body.specs.Format.{id_place}
use Rattle.body.specs.Messages.{Identified, identified}
use Rattle.body.specs.Reading.{reading, has_content, has_channel, has_until, end_of, size_of, time_at, id_at, id_of, until_fault, id_fault, content_fault, content_of, content_part_fault, content_part_of, channel_at, channel_of, channel_fault, channel_part_fault, channel_part_of}
use Rattle.body.specs.Tests.{channel_part}

-- what is there of n bytes that begin at p
pub there : (b : List ℕ) (p n : ℕ) → take (min (length b) (p + n) - p) (drop p b) ≡ take n (drop p b)
there b p n =
    ⊎_elim
    (λ (k : length b < p + n).
    let l : length (drop p b) ≡ length b - p = length-drop p b in
    take_all (min (length b) (p + n) - p) (drop p b) (omega arith) ∙ sym (take_all n (drop p b) (omega arith)))
    (λ (k : p + n ≤ length b).
    let d : min (length b) (p + n) - p ≡ n = omega arith in
    ap (λ m. take m (drop p b)) d)
    (cases_lt (length b) (p + n))

-- a part that is read only where it is there
answered : {A B : Type 0} (says : A → B) (r : Result A Refusal) (fault : Option ℕ) (x : B) → told says r ≡ unless Body fault x → told (option_map says) (option_transpose (Some r)) ≡ unless Body fault (Some x)
answered says (Ok y) None x e = let k : says y ≡ x = cc in ap (λ z. Ok (Some z)) k
answered says (Ok y) (Some p) x e = cc
answered says (Err y) None x e = cc
answered says (Err y) (Some p) x e = let k : y ≡ Body p = cc in ap Err k

pub part_told : {A B : Type 0} (says : A → B) (t : Bool) (o : Option (Result A Refusal)) (fault : Option ℕ) (x : B) (P : Result A Refusal → Type 0) → is_some o ≡ t → IfSome o P → ((r : Result A Refusal) → P r → told says r ≡ unless Body fault x)
    → told (option_map says) (option_transpose o) ≡ unless Body (part t fault) (present t x)
part_told says true (Some r) fault x P s p f = answered says r fault x (f r p)
part_told says false None fault x P s p f = refl
part_told says false (Some r) fault x P s p f = cc
part_told says true None fault x P s p f = cc

same : {A E : Type 0} (r : Result A E) → told (λ x. x) r ≡ r
same (Ok x) = refl
same (Err e) = refl

same_option : {A E : Type 0} (r : Result (Option A) E) → told (option_map (λ x. x)) r ≡ r
same_option (Ok (Some x)) = refl
same_option (Ok None) = refl
same_option (Err e) = refl

pub part_read : {A : Type 0} (t : Bool) (o : Option (Result A Refusal)) (fault : Option ℕ) (x : A) (P : Result A Refusal → Type 0) → is_some o ≡ t → IfSome o P → ((r : Result A Refusal) → P r → r ≡ unless Body fault x) → option_transpose o ≡ unless Body (part t fault) (present t x)
part_read t o fault x P s p f = sym (same_option (option_transpose o)) ∙ part_told (λ y. y) t o fault x P s p (λ r k. same r ∙ f r k)

-- where the identifier begins, by the time that was read before it
pub place_read : (t : Bool) (x : Time) → id_place (present t x) ≡ cond t 9 3
place_read true x = refl
place_read false x = refl

-- the first byte, once it is read
pub first_read : (b h : List ℕ) → Ok h ≡ unless Body (wrong (nat_lt (length b) 1) (length b)) (take 1 (drop 0 b)) → (1 ≤ length b) × (slice_index h 0 ≡ slice_index b 0)
first_read b h e =
    let k = clear Body _ _ _ e in
    (ltb-false _ _ (not_wrong _ _ k.0), ap (λ x. slice_index x 0) k.1 ∙ get_or-take 1 b 0 0 (omega arith))

-- the content and the channel, once the first byte is read
pub content_read : (ok : ℕ → Bool) (b h : List ℕ) (o : Option (Result Content Refusal)) (P : Result Content Refusal → Type 0) → slice_index h 0 ≡ slice_index b 0 → is_some o ≡ nat_le 128 (slice_index h 0) → IfSome o P → ((r : Result Content Refusal) → P r → told identified r ≡ reading (content_fault ok) content_of b)
    → told (option_map identified) (option_transpose o) ≡ reading (content_part_fault ok) content_part_of b
content_read ok b h o P f s p g = part_told identified (has_content b) o (content_fault ok b) (content_of b) P (s ∙ ap (nat_le 128) f) p g

pub channel_read : (b h : List ℕ) (at : ℕ) (o : Option (Result Channel Refusal)) (P : Result Channel Refusal → Type 0) → slice_index h 0 ≡ slice_index b 0 → is_some o ≡ nat_le 64 (slice_index h 0 % 128) → IfSome o P → ((r : Result Channel Refusal) → P r → r ≡ reading (channel_fault at) (channel_of at) b)
    → at ≡ channel_at b → option_transpose o ≡ reading channel_part (λ b. channel_part_of (channel_at b) b) b
channel_read b h at o P f s p g e = part_read (has_channel b) o (channel_fault at b) (channel_of at b) P (s ∙ ap (λ x. nat_le 64 (x % 128)) f) p g ∙ ap (λ p. reading (channel_part_fault p) (channel_part_of p) b) e

-- what `map_or` answers, by what its closure does
pub mapped : {A B : Type 0} (f : A → B) (o : Option A) (d r : B) (P : A → Type 0) → MatchOption o (r ≡ d) P → ((x : A) → P x → r ≡ f x) → r ≡ option_map_or f o d
mapped f (Some x) d r P m g = g x m
mapped f None d r P m g = m

-- where a content ends
abbrev ends : Identified → ℕ
ends c = id_place c.valid_until + length c.id

ends_read : (o : Option Content) → option_map_or (λ c. ends (identified c)) o 1 ≡ option_map_or ends (option_map identified o) 1
ends_read (Some c) = refl
ends_read None = refl

content_long : (ok : ℕ → Bool) (b : List ℕ) → content_fault ok b ≡ None → id_at b + size_of b ≤ length b
content_long ok b e =
    let f = both_none _ _ (both_none _ _ e).1 in
    let u = both_none (until_fault b) _ f.1 in
    let i = both_none (id_fault ok b) None u.1 in
    let j = both_none _ _ i.0 in
    ltb-false _ _ (not_wrong _ (length b) (both_none _ None j.1).0)

ends_there : (ok : ℕ → Bool) (b : List ℕ) (t : Bool) → part t (content_fault ok b) ≡ None → option_map_or ends (present t (content_of b)) 1 ≡ cond t (id_at b + size_of b) 1
ends_there ok b true e =
    let long : id_at b + size_of b ≤ length b = content_long ok b e in
    let rest : length (drop (id_at b) b) ≡ length b - id_at b = length-drop (id_at b) b in
    let size : length (id_of b) ≡ size_of b = length-take-le (size_of b) (drop (id_at b) b) (omega arith) in
    λ i. place_read (has_until b) (time_at 3 b) i + size i
ends_there ok b false e = refl

-- once the content is read: nothing is wrong with it, what it says, and where the channel begins
pub content_clear : (ok : ℕ → Bool) (b h : List ℕ) (o : Option (Result Content Refusal)) (P : Result Content Refusal → Type 0) (c : Option Content) (at : ℕ) (Q : Content → Type 0) → slice_index h 0 ≡ slice_index b 0 → is_some o ≡ nat_le 128 (slice_index h 0) → IfSome o P → ((r : Result Content Refusal) → P r → told identified r ≡ reading (content_fault ok) content_of b)
    → Ok c ≡ option_transpose o → MatchOption c (at ≡ 1) Q → ((x : Content) → Q x → at ≡ ends (identified x)) → (content_part_fault ok b ≡ None) × ((option_map identified c ≡ content_part_of b) × (at ≡ channel_at b))
content_clear ok b h o P c at Q f s p g e m n =
    let k : (content_part_fault ok b ≡ None) × (option_map identified c ≡ content_part_of b) = clear Body _ _ _ (ap (told (option_map identified)) e ∙ content_read ok b h o P f s p g) in
    (k.0, (k.1, mapped (λ c. ends (identified c)) c 1 at Q m n ∙ (ends_read c ∙ (ap (λ x. option_map_or ends x 1) k.1 ∙ ends_there ok b (has_content b) k.0))))

-- once the channel is read too, and where it ends
pub channel_clear : (b h : List ℕ) (at : ℕ) (o : Option (Result Channel Refusal)) (P : Result Channel Refusal → Type 0) (c : Option Channel) (end : ℕ) (Q : Channel → Type 0) → slice_index h 0 ≡ slice_index b 0 → is_some o ≡ nat_le 64 (slice_index h 0 % 128) → IfSome o P → ((r : Result Channel Refusal) → P r → r ≡ reading (channel_fault at) (channel_of at) b)
    → at ≡ channel_at b → Ok c ≡ option_transpose o → MatchOption c (end ≡ at) Q → ((x : Channel) → Q x → end ≡ at + 5) → (channel_part b ≡ None) × ((c ≡ channel_part_of (channel_at b) b) × (end ≡ end_of b))
channel_clear b h at o P c end Q f s p g a e m n =
    let k : (channel_part b ≡ None) × (c ≡ channel_part_of (channel_at b) b) = clear Body _ _ _ (e ∙ channel_read b h at o P f s p g a) in
    (k.0, (k.1, mapped (λ c. at + 5) c at end Q m n ∙ (ap (λ x. option_map_or (λ c. at + 5) x at) k.1 ∙ (by_flag (has_channel b) ∙ ap (λ p. cond (has_channel b) (p + 5) p) a))))
  where
    by_flag : (t : Bool) → option_map_or (λ c. at + 5) (present t (channel_of (channel_at b) b)) at ≡ cond t (at + 5) at
    by_flag true = refl
    by_flag false = refl
