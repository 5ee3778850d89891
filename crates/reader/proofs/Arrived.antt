-- What the answer of the table tells, where the block can be gathered.
use Rattle.std.proofs.Common.{◌≡◌, ℕ, Bool, true, false, cond, refl, arith}
use Rattle.std.proofs.lemmas.Bool.{le-leb, and_from}
use Rattle.sending.specs.Sendings.{Block}
use Rattle.gather.specs.Gathering.{Answer, silent, handed, faulty}
use Rattle.gather.specs.Watching.{fits_slot}
use Rattle.gather.specs.Serving.{said}
use Rattle.gather.specs.declared.slot.Arrival.{Arrival}
use Rattle.gather.specs.declared.slot.Arrival.TheVariants.{NotWatched, Unfit, Silent, Message as Handed, Faulty}
use Rattle.reader.specs.Entered.{Small}

-- a small block can be gathered
pub small_fits : (b : Block) → Small b → fits_slot b ≡ true
unfolding fits_slot
small_fits b s = and_from _ _ (le-leb _ _ s.part_stands) (and_from _ _ (le-leb _ _ s.last_stands) (le-leb _ _ s.length_stands))

never : (x y : Arrival) → x ≡ y → (◌≡◌ {A = ℕ} 0 1) → ⊥
never x y e z = omega arith

pub not_watched : (w : Bool) (a : Answer) → NotWatched ≡ cond w (said a) NotWatched → w ≡ false
not_watched false a e = refl
not_watched true silent e = let z : ◌≡◌ {A = ℕ} 0 1 = cc in absurd (omega arith)
not_watched true (handed m) e = let z : ◌≡◌ {A = ℕ} 0 1 = cc in absurd (omega arith)
not_watched true faulty e = let z : ◌≡◌ {A = ℕ} 0 1 = cc in absurd (omega arith)

pub never_unfit : (w : Bool) (a : Answer) → Unfit ≡ cond w (said a) NotWatched → ⊥
never_unfit false a e = let z : ◌≡◌ {A = ℕ} 0 1 = cc in omega arith
never_unfit true silent e = let z : ◌≡◌ {A = ℕ} 0 1 = cc in omega arith
never_unfit true (handed m) e = let z : ◌≡◌ {A = ℕ} 0 1 = cc in omega arith
never_unfit true faulty e = let z : ◌≡◌ {A = ℕ} 0 1 = cc in omega arith

pub is_silent : (w : Bool) (a : Answer) → Silent ≡ cond w (said a) NotWatched → (w ≡ true) × (a ≡ silent)
is_silent false a e = let z : ◌≡◌ {A = ℕ} 0 1 = cc in absurd (omega arith)
is_silent true silent e = (refl, refl)
is_silent true (handed m) e = let z : ◌≡◌ {A = ℕ} 0 1 = cc in absurd (omega arith)
is_silent true faulty e = let z : ◌≡◌ {A = ℕ} 0 1 = cc in absurd (omega arith)

pub is_faulty : (w : Bool) (a : Answer) → Faulty ≡ cond w (said a) NotWatched → (w ≡ true) × (a ≡ faulty)
is_faulty false a e = let z : ◌≡◌ {A = ℕ} 0 1 = cc in absurd (omega arith)
is_faulty true silent e = let z : ◌≡◌ {A = ℕ} 0 1 = cc in absurd (omega arith)
is_faulty true (handed m) e = let z : ◌≡◌ {A = ℕ} 0 1 = cc in absurd (omega arith)
is_faulty true faulty e = (refl, refl)

pub is_message : (w : Bool) (a : Answer) (n : ℕ) → Handed n ≡ cond w (said a) NotWatched → w ≡ true
is_message false a n e = let z : ◌≡◌ {A = ℕ} 0 1 = cc in absurd (omega arith)
is_message true a n e = refl
