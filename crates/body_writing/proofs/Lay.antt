-- Parts laid one after another.
use Rattle.std.proofs.Common.{◌≡◌, ℕ, ◌+◌, List, [], ◌++◌, length, Some, None, Option, refl, sym, ap, ◌∙◌, IsSomeAnd, arith}
use Rattle.std.proofs.lemmas.List.{length-append}
use Rattle.std.proofs.lemmas.Bool.{cond-true, le-leb}
use Rattle.std.specs.Option.{MatchOption, option_map_or, option_map}
use Rattle.buffers.specs.Laid.{laid, laying, laid_or_not}
use Rattle.buffers.proofs.Lays.{laid_none, laid_more, length_laid}
use Rattle.body.specs.declared.message.Time.{Time}
use Rattle.body.specs.declared.message.Channel.{Channel}
use Rattle.body.specs.Format.{flag, time_bytes, until_bytes, channel_bytes}
use Rattle.body_writing.specs.Outputs.{Lays, or_nothing}

-- what one write says
pub laid_there : (at : ℕ) (bytes old : List ℕ) (r : Option ℕ) (new : List ℕ) → r ≡ laying at bytes (length old) → new ≡ laid_or_not at bytes old → Lays at bytes old r new
laid_there at bytes old r new e d h = (e ∙ cond-true _ _ _ (le-leb _ _ h), d ∙ cond-true _ _ _ (le-leb _ _ h))

pub nothing_laid : (at : ℕ) (old bytes : List ℕ) → bytes ≡ [] → Lays at bytes old (Some at) old
nothing_laid at old bytes e h =
    let n = ap length e in
    let end : at ≡ at + length bytes = omega arith in
    (ap Some end, sym (ap (laid old at) e ∙ laid_none old at))

-- one part straight after another
pub laid_then : (at b : ℕ) (ps qs x y z : List ℕ) (r : Option ℕ) → Lays at ps x (Some b) y → Lays b qs y r z → Lays at (ps ++ qs) x r z
laid_then at b ps qs x y z r f g h =
    let n : length (ps ++ qs) ≡ length ps + length qs = length-append ps qs in
    let k = f (omega arith) in
    let e : b ≡ at + length ps = cc k.0 in
    let l : length y ≡ length x = ap length k.1 ∙ length_laid x at ps (omega arith) in
    let m = g (omega arith) in
    let end : b + length qs ≡ at + length (ps ++ qs) = omega arith in
    (m.0 ∙ ap Some end, laid_more x y z at b ps qs k.1 e (omega arith) m.1)

-- where the bytes fit the first part does too
pub fits_first : (at : ℕ) (ps qs x y z : List ℕ) (r : Option ℕ) → Lays at ps x None y → Lays at (ps ++ qs) x r z
fits_first at ps qs x y z r f h =
    let n : length (ps ++ qs) ≡ length ps + length qs = length-append ps qs in
    let k = f (omega arith) in
    absurd (cc k.0)

-- the bytes of a part, by what makes them
pub part_bytes : {A : Type 0} (f : A → List ℕ) (o : Option A) (r : Option (List ℕ)) (P : A → List ℕ → Type 0) → MatchOption o (r ≡ None) (λ x. IsSomeAnd r (P x)) → ((x : A) (y : List ℕ) → P x y → y ≡ f x) → or_nothing r ≡ or_nothing (option_map f o)
part_bytes f (Some x) (Some y) P m g = g x y m
part_bytes f (Some x) None P m g = absurd m
part_bytes f None r P m g = ap or_nothing m

pub until_part : (r : ℕ) (u : Option Time) → or_nothing (option_map (time_bytes r) u) ≡ until_bytes r u
until_part r (Some t) = refl
until_part r None = refl

pub channel_part : (r : ℕ) (h : Option Channel) → or_nothing (option_map (λ c. channel_bytes r (Some c)) h) ≡ channel_bytes r h
channel_part r (Some c) = refl
channel_part r None = refl

pub until_flag : (u : Option Time) → option_map_or (λ t. 192) u 128 ≡ 128 + flag 64 u
until_flag (Some t) = refl
until_flag None = refl
