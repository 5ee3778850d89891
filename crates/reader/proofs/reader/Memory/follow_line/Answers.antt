use Rattle.std.proofs.Common.{◌≡◌, ℕ, List, [], ◌∷◌, sym, refl, ap, ◌∙◌, subst, arith, rules}
use Rattle.std.specs.List.{AllByRecursion}
use Rattle.walk.specs.Entries.{entries, item}
use Rattle.walk.specs.declared.walk.Walk.{Walk}
use Rattle.walk.specs.Laws.{Few}
use Rattle.walk.specs.Steps.{ahead}
use Rattle.gather.specs.Model.{watching, gathered}
use Rattle.reader.specs.Entered.{Good}
use Rattle.reader.specs.Following.{follow, follow_all, at_start}
use Rattle.reader.specs.Stands.{Stands}
use Rattle.reader.proofs.Entered.{entries_good}
use Rattle.reader.proofs.Lines.{begins, Left, room_for, left_after, ended}
use Rattle.reader.proofs.reader.Memory.follow_line.Goals as goal

pub loop-entry-init : goal.loop-entry-init
loop-entry-init c =
    let payload = c.args.payload.now in
    let is = ap ahead c.into_iter-entry-iterator.ensures.into_iter_gives ∙ c.new-entry-items.ensures.entries in
    let few = subst (λ (z : Walk). Few payload (ahead z)) (sym c.into_iter-entry-iterator.ensures.into_iter_gives) (c.new-entry-items.ensures.entries_are_few) c.requires.short in
    let g = c.new-progress.ensures in
    let T = gathered c.args.self.now.table in
    let good : AllByRecursion Good (entries payload) = entries_good payload c.requires.short (λ i. search rules) in
    (refl, refl, (at_start T, begins c.args.tray.now c.new-progress.result T g.0 g.1 g.2 g.3, ap (λ l. follow_all (watching c.args.self.now.table) c.args.self.now.floor l (at_start T)) is, subst (AllByRecursion Good) (sym is) good, record { eight = omega (arith, few.0); nine = omega (arith, few.1); skips = omega (arith, few.0) }))

pub follow_entry-requires : goal.follow_entry-requires
follow_entry-requires c = record { good = (subst (AllByRecursion Good) c.in-Some.ensures.steps.entry c.loop-entry.invariant.2.3).0 }

pub loop-entry-preserved : goal.loop-entry-preserved
loop-entry-preserved c =
    let W = watching c.args.self.now.table in
    let t = c.args.self.now.floor in
    let old = c.args.tray.now in
    let e = item c.in-Some.entry in
    let rest = ahead c.next.new.self in
    let first : ahead c.loop-entry.entry-iterator ≡ e ∷ rest = c.in-Some.ensures.steps.entry in
    let inv = c.loop-entry.invariant.2 in
    let p = inv.0 in
    let left : Left p (e ∷ rest) = subst (Left p) first inv.4 in
    let stood = c.follow_entry.ensures.next old p (room_for old e rest p c.requires.room left) inv.1 in
    let watch = c.loop-entry.invariant.0 in
    let floor = c.loop-entry.invariant.1 in (
      c.follow_entry.ensures.same.0 ∙ watch,
      c.follow_entry.ensures.same.1 ∙ floor,
      (
        follow W t e p,
        subst (λ (n : ℕ). Stands old c.follow_entry.new.tray c.follow_entry.new.progress (gathered c.follow_entry.new.self.table) (follow W n e p)) floor
            (subst (λ (ws : List ℕ). Stands old c.follow_entry.new.tray c.follow_entry.new.progress (gathered c.follow_entry.new.self.table) (follow ws c.loop-entry.self.floor e p)) watch stood),
        sym (ap (λ l. follow_all W t l p) first) ∙ inv.2,
        (subst (AllByRecursion Good) first inv.3).1,
        left_after W t e rest p left,
      ),
    )

pub returns : goal.returns
returns c =
    let W = watching c.args.self.now.table in
    let t = c.args.self.now.floor in
    let none : ahead c.loop-entry.entry-iterator ≡ [] = c.in-None.ensures.steps.entry.0 in
    let inv = c.loop-entry.invariant.2 in
    let p = inv.0 in
    record {
      stands = ended c.args.tray.now c.loop-entry.tray c.loop-entry.progress (gathered c.loop-entry.self.table) p _ inv.1 (subst (Left p) none inv.4) (sym (ap (λ l. follow_all W t l p) none) ∙ inv.2);
      same = (c.loop-entry.invariant.0, c.loop-entry.invariant.1);
    }
