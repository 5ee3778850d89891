-- From the laws of a format: what an answer accepts, and where it refuses.
use Rattle.std.proofs.Common.{◌≡◌, ℕ, ◌≤◌, None, Ok, Option, Result, sym, ◌∙◌, subst, arith}
use Rattle.refusal.specs.declared.Refusal.{Refusal}
use Rattle.refusal.specs.declared.Refusal.TheVariants.{Body}
use Rattle.buffers.specs.Places.{unless, Smallest, at, nowhere}
use Rattle.buffers.proofs.Steps.{clear}
use Rattle.body.specs.Laws.{Accepts, RefusesFirst}
use Rattle.body.specs.Messages.{Said}

pub accepts : (W : Said → Type 0) (o : Option ℕ) (x : Said) (r : Result Said Refusal) → r ≡ unless Body o x → (o ≡ None → W x) → ((m : Said) → W m → Ok m ≡ unless Body o x) → Accepts W r
accepts W o x r e f g =
    record {
      only = λ m h. let k = clear Body o x m (sym h ∙ e) in subst W (sym k.1) (f k.0);
      every = λ m w. e ∙ sym (g m w);
    }

pub refuses_first : {A : Type 0} (W : ℕ → Type 0) (o : Option ℕ) (x : A) (r : Result A Refusal) → r ≡ unless Body o x → Smallest W o → RefusesFirst W r
refuses_first W _ x r e (at p w h) =
    record {
      wrong_there = λ q k. let n : p ≡ q = cc in subst W n w;
      none_below = λ q k y v. let n : p ≡ q = cc in subst (λ z. z ≤ y) n (h y v);
      none_at_all = λ m k. let z : ◌≡◌ {A = ℕ} 0 1 = cc in absurd (omega arith);
    }
refuses_first W _ x r e (nowhere n) =
    record {
      wrong_there = λ q k. let z : ◌≡◌ {A = ℕ} 0 1 = cc in absurd (omega arith);
      none_below = λ q k. let z : ◌≡◌ {A = ℕ} 0 1 = cc in absurd (omega arith);
      none_at_all = λ m k q w. n q w;
    }
