use Rattle.std.proofs.Common.{◌≡◌, List, drop, sym, refl, subst, arith}
use Rattle.std.specs.List.{AllByRecursion}
use Rattle.walk.specs.Entries.{Item, scan, entries}
use Rattle.walk.specs.Laws.{ReadsSentBlocks, InLine, Apart, Few, Right}
use Rattle.walk.proofs.Scans.{start}
use Rattle.walk.proofs.Backs.{reads_sent_blocks}
use Rattle.walk.proofs.Spans.{in_line, apart, few, all_right}
use Rattle.walk.proofs.walk.Walk.new.Goals as goal

pub returns : goal.returns
returns c =
    let p = c.args.payload.now in
    let e : scan 0 c.min-place.result (drop c.min-place.result p) ≡ entries p = start p c.min-place.result (omega arith) in
    record {
      payload = refl;
      entries = e;
      sent_blocks_are_read = subst (λ (es : List Item). ReadsSentBlocks p es) (sym e) (reads_sent_blocks p);
      entries_lie_in_line = subst (λ (es : List Item). InLine p 2 es) (sym e) (in_line p 0 2 (drop 2 p) refl);
      entries_lie_apart = subst (λ (es : List Item). Apart p es) (sym e) (apart p 0 2 (drop 2 p) refl);
      entries_are_few = subst (λ (es : List Item). Few p es) (sym e) (few p);
      blocks_are_right = subst (λ (es : List Item). AllByRecursion (Right p) es) (sym e) (all_right p 0 2 (drop 2 p) refl);
    }
