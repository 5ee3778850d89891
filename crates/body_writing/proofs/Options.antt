-- What the methods of an option answer, by what their closures do.
use Rattle.std.proofs.Common.{◌≡◌, ℕ, ◌+◌, ◌&&◌, Bool, Some, None, Option, length, refl, ap, ◌∙◌, IsSomeAnd}
use Rattle.std.specs.Option.{MatchOption, option_and_then, option_map_or, option_or, is_none, option_map}
use Rattle.std.specs.Bool.{then_some}
use Rattle.buffers.specs.Places.{or_else, shifted}
use Rattle.body.specs.declared.message.Time.{Time}
use Rattle.body.specs.declared.message.Channel.{Channel}
use Rattle.body.specs.declared.message.Content.{Content}
use Rattle.body.specs.Messages.{identified}
use Rattle.body.specs.Format.{time_wrong, until_wrong, content_wrong, channel_bytes, neither}

pub chained : {A B : Type 0} (f : A → Option B) (o : Option A) (r : Option B) (P : A → Type 0) → MatchOption o (r ≡ None) P → ((x : A) → P x → r ≡ f x) → r ≡ option_and_then f o
chained f (Some x) r P m g = g x m
chained f None r P m g = m

pub shift : (p : ℕ) (o r : Option ℕ) (P : ℕ → ℕ → Type 0) → MatchOption o (r ≡ None) (λ x. IsSomeAnd r (P x)) → ((x y : ℕ) → P x y → y ≡ p + x) → r ≡ shifted p o
shift p (Some x) (Some y) P m g = ap Some (g x y m)
shift p (Some x) None P m g = absurd m
shift p None r P m g = m

pub first_of : (o q : Option ℕ) → option_or o q ≡ or_else o q
first_of (Some x) q = refl
first_of None q = refl

pub three : (o p q : Option ℕ) → or_else (or_else o p) q ≡ or_else o (or_else p q)
three (Some x) p q = refl
three None p q = refl

pub until_place : (u : Option Time) → option_and_then (time_wrong 3) u ≡ until_wrong u
until_place (Some t) = refl
until_place None = refl

pub content_place : (ok : ℕ → Bool) (o : Option Content) → option_and_then (λ c. content_wrong ok (Some (identified c))) o ≡ content_wrong ok (option_map identified o)
content_place ok (Some c) = refl
content_place ok None = refl

neither_there : (o : Option Content) (h : Option Channel) → then_some (is_none o && is_none h) 0 ≡ neither (option_map identified o) h
neither_there (Some c) h = refl
neither_there None (Some h) = refl
neither_there None None = refl

pub nothing_place : (o : Option Content) (h : Option Channel) (t : Bool) → t ≡ is_none o && is_none h → then_some t 0 ≡ neither (option_map identified o) h
nothing_place o h t e = ap (λ x. then_some x 0) e ∙ neither_there o h

pub channel_size : (h : Option Channel) → option_map_or (λ x. 5) h 0 ≡ length (channel_bytes 15 h)
channel_size (Some h) = refl
channel_size None = refl
