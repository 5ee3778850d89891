-- What a drawing and then a reading come to.
use Rattle.std.proofs.Common.{◌≡◌, ℕ, ◌<◌, Bool, true, false, cond, ◌&&◌, List, length, get_or, Some, None, Ok, Err, Option, Result, sym, refl, ap, ◌∙◌, arith, w8, Fits}
use Rattle.std.proofs.ByRecursion.{All-from_get_or}
use Rattle.refusal.specs.declared.Refusal.{Refusal}
use Rattle.refusal.specs.declared.Refusal.TheVariants.{SampleCount, Payload}
use Rattle.line.specs.Lines.{Drawable, good_count, begins, draw_answer, draw_line, read_answer, read_buffer}
use Rattle.system.specs.Trips.{back_answer, back_buffer}

tests : (a b c : Bool) (n : ℕ) (x : Unit {0}) → Ok x ≡ cond a (cond (b && c) (Ok tt) (Err Payload)) (Err (SampleCount n)) → (a ≡ true) × (b ≡ true) × (c ≡ true)
tests true true true n x e = (refl, refl, refl)
tests true true false n x e = let z : ◌≡◌ {A = Result (Unit {0}) Refusal} (Ok x) (Err Payload) = e in (cc, cc, cc)
tests true false c n x e = let z : ◌≡◌ {A = Result (Unit {0}) Refusal} (Ok x) (Err Payload) = e in (cc, cc, cc)
tests false b c n x e = let z : ◌≡◌ {A = Result (Unit {0}) Refusal} (Ok x) (Err (SampleCount n)) = e in (cc, cc, cc)

-- a drawing that is not refused is of a drawable payload
pub drawable : (draws : ℕ → Bool) (p : List ℕ) (count : ℕ) (x : Unit) → ((i : ℕ) → Fits w8 (get_or p i 0)) → Ok x ≡ draw_answer draws p count → (good_count count ≡ true) × Drawable draws p
drawable draws p count x typed e =
    let t = tests (good_count count) (draws (length p)) (begins p) count x e in
    (t.0, record { size = t.1; front = t.2; bytes = All-from_get_or (λ b. b < 256) p 0 (λ i h. let f = typed i in omega arith) })

pub record Back (drew : Result Unit Refusal) (p drawn old new : List ℕ) (r : Result (Option ℕ) Refusal) (before after : List ℕ) : Type 0 where
  pub answer : r ≡ back_answer drew p
  pub line : new ≡ draw_line drew drawn old
  pub back : after ≡ back_buffer r p before

-- what a payload that is drawn and then read gives, by what the drawing and the reading ensure
pub trip : (draws : ℕ → Bool) (p old new drawn : List ℕ) (x : Unit {0}) (fault : List ℕ → Option Refusal) (found : List ℕ → Option (List ℕ))
    (r : Result (Option ℕ) Refusal) (before after : List ℕ) →
    ((i : ℕ) → Fits w8 (get_or p i 0)) → length before ≡ 60 →
    Ok x ≡ draw_answer draws p (length old) → new ≡ draw_line (Ok x) drawn old →
    (good_count (length old) ≡ true → Drawable draws p → (fault drawn ≡ None) × (found drawn ≡ Some p)) →
    r ≡ read_answer (fault new) (found new) (length before) → after ≡ read_buffer r (found new) before →
    Back (draw_answer draws p (length old)) p drawn old new r before after
trip draws p old new drawn x fault found r before after typed full e l carried a b =
    let d = drawable draws p (length old) x typed e in
    let k = carried d.0 d.1 in
    let f : fault new ≡ None = ap fault l ∙ k.0 in
    let s : found new ≡ Some p = ap found l ∙ k.1 in
    let is : r ≡ Ok (Some (length p)) = a ∙ ap (λ v. read_answer v (found new) (length before)) f ∙ ap (λ v. read_answer None v (length before)) s ∙ rw full in
    record {
      answer = is ∙ ap (λ v. back_answer v p) e;
      line = l ∙ ap (λ v. draw_line v drawn old) e;
      back = b ∙ ap (λ v. read_buffer v (found new) before) is ∙ ap (λ v. read_buffer (Ok (Some (length p))) v before) s ∙ sym (ap (λ v. back_buffer v p before) is);
    }
