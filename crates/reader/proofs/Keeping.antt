-- A call that keeps to the rules keeps the whole promise.
use Rattle.std.proofs.Common.{◌≡◌, ℕ, zero, suc, ◌+◌, Bool, List, [], ◌∷◌, ◌++◌, map, length, Some, Option, refl, ap, ◌∙◌, arith}
use Rattle.std.specs.List.{slice_get}
use Rattle.line.specs.declared.depth.Depth.{Depth}
use Rattle.sending.specs.Sendings.{Block}
use Rattle.wire.specs.Wire.{block_bytes}
use Rattle.walk.specs.Laws.{placed_from}
use Rattle.walk.proofs.Backs.{reads_sent_blocks}
use Rattle.runs.specs.Sightings.{taken}
use Rattle.runs.specs.Pasts.{Call, Outcome, Entry, Past, blocks_in, spoilt_in, length_in, event_of}
use Rattle.runs.specs.Reaching.{State, Comes, Reached}
use Rattle.runs.specs.Promises.{EachTakenLineIsReadAsFound}
use Rattle.runs.proofs.Pasts.{promised, calls_prolong}
use Rattle.reader.specs.Following.{spoilt_of}
use Rattle.reader.specs.Settings.{setting_of}
use Rattle.reader.specs.Marks.{Carrying, EachMarkedLineIsReadAsItsFrame, EachDrawnOrToleratedLineCarriesItsFrame, WholePromise, Keeps}

nth_map : {X Y : Type 0} (f : X → Y) (xs : List X) (i : ℕ) (x : X) → slice_get xs i ≡ Some x → slice_get (map f xs) i ≡ Some (f x)
nth_map f [] i x e = let z : ◌≡◌ {A = ℕ} 0 1 = cc in absurd (omega arith)
nth_map f (y ∷ ys) zero x e = let same : y ≡ x = cc in ap (λ v. Some (f v)) same
nth_map f (y ∷ ys) (suc i) x e = nth_map f ys i x e

row_clean : (p : ℕ) (bs : List Block) → spoilt_of (placed_from p bs) ≡ 0
row_clean p [] = refl
row_clean p (b ∷ bs) = row_clean (p + length (block_bytes b)) bs

-- a line that carries a frame is read as it
pub marked : (d : Depth) (found : List ℕ → Option (List ℕ)) (watch : List ℕ) (carries : Carrying) →
    ((line p : List ℕ) → carries line p → found line ≡ Some p) →
    (past : Past) → EachTakenLineIsReadAsFound (setting_of d found watch) past → EachMarkedLineIsReadAsItsFrame (setting_of d found watch) carries past
marked d found watch carries reading past as-found e t line tray a bytes at payload bs sealed carried =
    let s = setting_of d found watch in
    let r = as-found e t line tray a bytes at in
    let f = reading line payload carried in
    let w = reads_sent_blocks payload 235 82 bs sealed.zeros sealed.each sealed.bytes in
    let event = nth_map (λ (x : Entry). event_of s x.call x.outcome) past e _ at in (
      r.0 ∙ ap (length_in s) f,
      event ∙ ap (λ o. Some (taken t (blocks_in s o))) f ∙ ap (λ l. Some (taken t l)) w.1,
      r.2 ∙ ap (spoilt_in s) f ∙ ap spoilt_of w.0 ∙ row_clean 2 bs,
    )

-- a call that keeps to the rules of a run keeps the whole promise, over a system that shows its laws
pub keeps : (d : Depth) (found : List ℕ → Option (List ℕ)) (watch : List ℕ) (draws : ℕ → Bool) (drawn : List ℕ → ℕ → List ℕ) (tolerates carries : Carrying) →
    ((line p : List ℕ) → carries line p → found line ≡ Some p) →
    EachDrawnOrToleratedLineCarriesItsFrame draws drawn tolerates carries →
    (before : State) (call : Call) (outcome : Outcome) (later : State) → Comes (setting_of d found watch) before call outcome later →
    Keeps (setting_of d found watch) draws drawn tolerates carries before call outcome later
keeps d found watch draws drawn tolerates carries reading drawing before call outcome later comes past reached =
    let s = setting_of d found watch in
    let longer = calls_prolong s before call outcome later comes past reached in
    (longer.0, (longer.1, marked d found watch carries reading (past ++ record { call = call; outcome = outcome } ∷ []) longer.1.1, drawing))

-- the whole promise holds of every past that leads to a reader, over a system that shows its laws
pub whole : (d : Depth) (found : List ℕ → Option (List ℕ)) (watch : List ℕ) (draws : ℕ → Bool) (drawn : List ℕ → ℕ → List ℕ) (tolerates carries : Carrying) →
    ((line p : List ℕ) → carries line p → found line ≡ Some p) →
    EachDrawnOrToleratedLineCarriesItsFrame draws drawn tolerates carries →
    (past : Past) (state : State) → Reached (setting_of d found watch) past state → WholePromise (setting_of d found watch) draws drawn tolerates carries past
whole d found watch draws drawn tolerates carries reading drawing past state reached =
    let p = promised (setting_of d found watch) past state reached in
    (p, marked d found watch carries reading past p.1, drawing)
